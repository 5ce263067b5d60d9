-- The lines of a run of a linked program, and that a record can tell them. (docs/RECORDS.md)
use Rattle.std.specs.Prelude.{◌≡◌, ◌≤◌, ◌<◌, ◌+◌, ◌^◌, ℕ, suc, List, [], ◌∷◌, length, Some, Ok}
use Rattle.std.specs.List.{AllByRecursion}
use Rattle.api_listing.specs.declared.events.ApiAnswer.{ApiAnswer}
use Rattle.api_listing.specs.declared.events.ApiAnswer.TheVariants as answers
use Rattle.api_listing.specs.Listing.{EncodesListing}
use Rattle.bytecode_model.specs.declared.program.Program.{Program}
use Rattle.bytecode_model.specs.Sound.{IsSound}
use Rattle.bytecode_model.specs.LinkedClasses.{AreLiterals, AreLinkedClasses}
use Rattle.bytecode_model.specs.Targets.{AreNamed}
use Rattle.guest_model.specs.declared.machine.Choice.{Choice}
use Rattle.guest_model.specs.declared.machine.Choice.TheVariants as choices
use Rattle.guest_model.specs.declared.machine.Machine.{Machine}
use Rattle.guest_model.specs.Runs.{start_of}
use Rattle.guest_model.specs.Stepping.{stepped}
use Rattle.event_record.specs.declared.writing.EndLine.{EndLine}
use Rattle.event_record.specs.declared.writing.Line.{Line}
use Rattle.event_record.specs.Record.{reading}
use Rattle.event_record.specs.Encoding.{IsStopValue}
use Rattle.event_record.specs.Writing.{IsTold, ending_of, record_text, run_of}

-- ---- the lines of a run

-- Each step is made in its place, and this is what the library saw of it.
abbrev pub AreLinesFrom : Program → Machine → List Line → Type 0
AreLinesFrom program machine [] = Unit {0}
AreLinesFrom program machine (line ∷ lines) =
    (after : Machine) × (stepped program machine line.step ≡ Some (after, line.event)) × AreLinesFrom program after lines

abbrev pub AreLinesOf : Program → List Line → Type 0
AreLinesOf program lines = AreLinesFrom program (start_of program) lines

-- ---- what a library answers

-- A text is made of bytes.
abbrev pub AnswersBytes : ApiAnswer → Type 0
AnswersBytes (answers.Text bytes) = AllByRecursion (λ b. b < 256) bytes
AnswersBytes answers.Nothing = Unit {0}
AnswersBytes (answers.Int n) = Unit {0}
AnswersBytes answers.Null = Unit {0}
AnswersBytes (answers.Fresh class) = Unit {0}
AnswersBytes (answers.Arg place) = Unit {0}
AnswersBytes answers.Receiver = Unit {0}
AnswersBytes (answers.Throws class) = Unit {0}

abbrev pub BringsBytes : Choice → Type 0
BringsBytes choices.Plain = Unit {0}
BringsBytes (choices.Answer answer) = AnswersBytes answer

-- ---- the law

-- A record can tell each line of a run of a linked program: its steps are so few that the numbers of objects and threads have 32
-- bits, and the texts that the library answers are made of bytes.
abbrev pub LinesOfRunsAreTold : Type 0
LinesOfRunsAreTold =
    (program : Program) (text : List ℕ) (lines : List Line) → EncodesListing text program.listing → IsSound program → AreLinkedClasses program
    → AreNamed program → AreLiterals program → AreLinesOf program lines → suc (length program.listing.fields) + length lines ≤ 2 ^ 32
    → AllByRecursion (λ (line : Line). BringsBytes line.step.choice) lines → AllByRecursion (IsTold program.listing) lines

-- So the record of a run of a linked program, of at most 1,000,000 steps, is read as that run.
abbrev pub RecordsOfRunsAreReadAgain : Type 0
RecordsOfRunsAreReadAgain =
    (program : Program) (text : List ℕ) (lines : List Line) (end : EndLine) → EncodesListing text program.listing → IsSound program
    → AreLinkedClasses program → AreNamed program → AreLiterals program → AreLinesOf program lines
    → AllByRecursion (λ (line : Line). BringsBytes line.step.choice) lines
    → length lines ≤ 1000000 → IsStopValue (ending_of end (length lines))
    → reading (record_text program.listing lines end) program.listing ≡ Ok (run_of lines)
