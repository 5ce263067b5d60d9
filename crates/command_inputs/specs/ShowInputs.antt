-- What the files that are shown are. (docs/COMMANDS.md)
use Rattle.std.specs.Prelude.{Result}
use Rattle.mon_store.specs.Store.{Files}
use Rattle.command_inputs.specs.declared.files.Stop.{Stop}
use Rattle.command_inputs.specs.Forms.{Count, ReadsForm, Then, Yields}
use Rattle.command_inputs.specs.Kinds.{listing_form}
use Rattle.command_inputs.specs.Named.{ReadsClasses}
use Rattle.command_inputs.specs.declared.show_inputs.ShowInputs.{ShowInputs}
use Rattle.command_inputs.specs.Words.{NamedShow}

-- listing, classes
abbrev pub ReadsShow : Files → Count → NamedShow → Result ShowInputs Stop → Type 0
ReadsShow files count named =
    Then (ReadsForm files count named.listing listing_form) (λ listing.
    Then (ReadsClasses files count named.classes) (λ classes.
    Yields (record { listing = listing; classes = classes })))
