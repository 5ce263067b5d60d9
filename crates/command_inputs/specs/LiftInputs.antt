-- What the files are of a program, of a policy and of a run that is lifted. (docs/COMMANDS.md)
use Rattle.std.specs.Prelude.{◌≤◌, length, Result}
use Rattle.std.specs.List.{AllByRecursion}
use Rattle.mon_store.specs.Store.{Files}
use Rattle.api_listing.specs.Listing.{IsFew}
use Rattle.class_codec.specs.Fits.{IsEncodable}
use Rattle.command_inputs.specs.LiftWords.{NamedLift}
use Rattle.command_inputs.specs.declared.files.Stop.{Stop}
use Rattle.command_inputs.specs.declared.lift_inputs.LiftInputs.{LiftInputs}
use Rattle.command_inputs.specs.Forms.{Count, ReadsForm, Then, Yields}
use Rattle.command_inputs.specs.Kinds.{listing_form, policy_form, record_form}
use Rattle.command_inputs.specs.Named.{IsListed, IsPolicyOf, ReadsClasses}

-- listing, policy, record, classes
abbrev pub ReadsLift : Files → Count → NamedLift → Result LiftInputs Stop → Type 0
ReadsLift files count named =
    Then (ReadsForm files count named.listing listing_form) (λ listing.
    Then (ReadsForm files count named.policy (policy_form listing)) (λ policy.
    Then (ReadsForm files count named.recorded (record_form listing)) (λ recorded.
    Then (ReadsClasses files count named.classes) (λ classes.
    Yields (record { listing = listing; policy = policy; recorded = recorded; classes = classes })))))

-- What is known of inputs that were read.
pub record LiftSound (inputs : LiftInputs) : Type 0 where
  pub listing : IsFew inputs.listing
  pub listed : IsListed inputs.listing
  pub policy : IsPolicyOf inputs.listing inputs.policy
  pub vars : length inputs.policy.vars ≤ 16
  pub classes : AllByRecursion IsEncodable inputs.classes.files
