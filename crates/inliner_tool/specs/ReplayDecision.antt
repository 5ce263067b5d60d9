-- That `replay` decides: of files in their grammars and limits that link to a program with types it tells the run, or the first
-- step that is not enabled, unless memory runs out. (docs/COMMANDS.md)
use Rattle.std.specs.Prelude.{◌≡◌, Ok, IsSome}
use Rattle.api_listing.specs.declared.types.Listing.{Listing}
use Rattle.bytecode_model.specs.declared.program.Program.{Program}
use Rattle.bytecode_model.specs.declared.program.Side.TheVariants.{Inlined}
use Rattle.command_inputs.specs.ReplayWords.{NamedReplay}
use Rattle.command_inputs.specs.Words.{Replay}
use Rattle.event_record.specs.declared.reading.Record.{Record}
use Rattle.mon_store.specs.Store.{Files, Rose}
use Rattle.command_inputs.specs.declared.named.ReadClasses.{ReadClasses as Classes}
use Rattle.command_inputs.specs.Forms.{IsRead}
use Rattle.command_inputs.specs.Kinds.{listing_form, record_form}
use Rattle.command_inputs.specs.Named.{AreClasses}
use Rattle.inliner_tool.specs.Decision.{IsDecision}
use Rattle.inliner_tool.specs.Programs.{program_of}
use Rattle.inliner_tool.specs.Seen.{Seen}
use Rattle.inliner_tool.specs.Steps.{Outcome, outcome_step}
use Rattle.inliner_tool.specs.Tool.{status_of}
use Rattle.inliner_tool.specs.Writing.{CarriesOut}
use Rattle.type_infer.specs.Untyped.{IsTypable}

-- The files are told, and those of these names are a listing, a record over it and class files, in their grammars and limits;
-- the class files link to a program with types.
pub record NamesRun (files : Files) (named : NamedReplay) : Type 0 where
  pub told : IsSome files
  pub listing : Listing
  pub listing_read : IsRead files named.listing listing_form (Ok listing)
  pub recorded : Record
  pub record_read : IsRead files named.recorded (record_form listing) (Ok recorded)
  pub classes : Classes
  pub classes_read : AreClasses files named.classes classes.files classes.total
  pub program : Program
  pub links : program_of listing classes named.main Inlined ≡ Ok program
  pub typable : IsTypable program

-- What `replay` comes to over such files, without a fault of the store, is a decision.
abbrev pub ReplayDecides : Type 0
ReplayDecides =
    (seen : Seen) (named : NamedReplay) (outcome : Outcome) → CarriesOut seen (Replay named) (outcome_step outcome)
    → (Rose seen.count.before seen.count.now → ⊥) → NamesRun seen.old named → IsDecision (status_of outcome)
