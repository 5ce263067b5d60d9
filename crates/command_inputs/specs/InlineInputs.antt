-- What the files are of which a program is woven. (docs/COMMANDS.md)
use Rattle.std.specs.Prelude.{◌≤◌, length, Result}
use Rattle.std.specs.List.{AllByRecursion}
use Rattle.mon_store.specs.Store.{Files}
use Rattle.api_listing.specs.Listing.{IsFew}
use Rattle.class_codec.specs.Fits.{IsEncodable}
use Rattle.command_inputs.specs.declared.files.Stop.{Stop}
use Rattle.command_inputs.specs.declared.inline_inputs.InlineInputs.{InlineInputs}
use Rattle.command_inputs.specs.Forms.{Count, ReadsForm, Then, Yields}
use Rattle.command_inputs.specs.InlineWords.{NamedInline}
use Rattle.command_inputs.specs.Named.{IsListed, IsPolicyOf, ReadsClasses}
use Rattle.command_inputs.specs.Kinds.{listing_form, policy_form}

-- listing, policy, classes
abbrev pub ReadsInline : Files → Count → NamedInline → Result InlineInputs Stop → Type 0
ReadsInline files count named =
    Then (ReadsForm files count named.listing listing_form) (λ listing.
    Then (ReadsForm files count named.policy (policy_form listing)) (λ policy.
    Then (ReadsClasses files count named.classes) (λ classes.
    Yields (record { listing = listing; policy = policy; classes = classes }))))

-- What is known of inputs that were read.
pub record InlineSound (inputs : InlineInputs) : Type 0 where
  pub listing : IsFew inputs.listing
  pub listed : IsListed inputs.listing
  pub policy : IsPolicyOf inputs.listing inputs.policy
  pub vars : length inputs.policy.vars ≤ 16
  pub classes : AllByRecursion IsEncodable inputs.classes.files
