-- What the files of a check are. (docs/COMMANDS.md)
use Rattle.std.specs.Prelude.{length, Result}
use Rattle.std.specs.List.{AllByRecursion}
use Rattle.mon_store.specs.Store.{Files}
use Rattle.api_listing.specs.Listing.{IsFew}
use Rattle.class_codec.specs.Fits.{IsEncodable}
use Rattle.command_inputs.specs.declared.files.Stop.{Stop}
use Rattle.command_inputs.specs.Forms.{Count, ReadsForm, Then, Yields}
use Rattle.command_inputs.specs.Kinds.{certificate_form, listing_form, policy_form}
use Rattle.command_inputs.specs.Named.{IsListed, IsPolicyOf, ReadsClasses}
use Rattle.command_inputs.specs.declared.check_inputs.CheckInputs.{CheckInputs}
use Rattle.command_inputs.specs.Words.{NamedCheck}

-- listing, policy, certificate, classes
abbrev pub ReadsCheck : Files → Count → NamedCheck → Result CheckInputs Stop → Type 0
ReadsCheck files count named =
    Then (ReadsForm files count named.listing listing_form) (λ listing.
    Then (ReadsForm files count named.policy (policy_form listing)) (λ policy.
    Then (ReadsForm files count named.certificate (certificate_form (length policy.vars))) (λ certificate.
    Then (ReadsClasses files count named.classes) (λ classes.
    Yields (record { listing = listing; policy = policy; certificate = certificate; classes = classes })))))

-- What is known of inputs that were read.
pub record AreSound (inputs : CheckInputs) : Type 0 where
  pub listing : IsFew inputs.listing
  pub listed : IsListed inputs.listing
  pub policy : IsPolicyOf inputs.listing inputs.policy
  pub classes : AllByRecursion IsEncodable inputs.classes.files
