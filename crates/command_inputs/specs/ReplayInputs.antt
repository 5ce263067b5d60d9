-- What the files of a program and of a run of it are. (docs/COMMANDS.md)
use Rattle.std.specs.Prelude.{Result}
use Rattle.std.specs.List.{AllByRecursion}
use Rattle.mon_store.specs.Store.{Files}
use Rattle.api_listing.specs.Listing.{IsFew}
use Rattle.class_codec.specs.Fits.{IsEncodable}
use Rattle.command_inputs.specs.ReplayWords.{NamedReplay}
use Rattle.command_inputs.specs.declared.files.Stop.{Stop}
use Rattle.command_inputs.specs.declared.replay_inputs.ReplayInputs.{ReplayInputs}
use Rattle.command_inputs.specs.Forms.{Count, ReadsForm, Then, Yields}
use Rattle.command_inputs.specs.Kinds.{listing_form, record_form}
use Rattle.command_inputs.specs.Named.{IsListed, ReadsClasses}

-- listing, record, classes
abbrev pub ReadsReplay : Files → Count → NamedReplay → Result ReplayInputs Stop → Type 0
ReadsReplay files count named =
    Then (ReadsForm files count named.listing listing_form) (λ listing.
    Then (ReadsForm files count named.recorded (record_form listing)) (λ recorded.
    Then (ReadsClasses files count named.classes) (λ classes.
    Yields (record { listing = listing; recorded = recorded; classes = classes }))))

-- What is known of inputs that were read.
pub record ReplaySound (inputs : ReplayInputs) : Type 0 where
  pub listing : IsFew inputs.listing
  pub listed : IsListed inputs.listing
  pub classes : AllByRecursion IsEncodable inputs.classes.files
