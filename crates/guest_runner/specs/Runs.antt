-- What a book's lines are. (docs/RUNS.md)
use Rattle.std.specs.Prelude.{◌≡◌, List, [], ◌∷◌}
use Rattle.std.specs.List.{filter_map}
use Rattle.bytecode_model.specs.declared.program.Program.{Program}
use Rattle.guest_model.specs.declared.machine.Machine.{Machine}
use Rattle.guest_model.specs.declared.machine.Step.{Step}
use Rattle.guest_model.specs.Enabled.{IsEnabled}
use Rattle.guest_model.specs.Runs.{start_of, stepped_or_same, trace}
use Rattle.event_record.specs.declared.writing.Line.{Line}
use Rattle.guest_runner.specs.Book.{IsRun, RunView, steps_of}

-- Each step is enabled by the rules, in its place.
abbrev pub AreEnabled : Program → Machine → List Step → Type 0
AreEnabled program machine [] = Unit {0}
AreEnabled program machine (step ∷ steps) = IsEnabled program machine step × AreEnabled program (stepped_or_same program machine step) steps

-- The lines of a book are one run of its program: each step is enabled in its place, and what was seen of them is their trace.
pub record IsTraced (book : RunView) : Type 0 where
  pub enabled : AreEnabled book.program (start_of book.program) (steps_of book.lines)
  pub events : filter_map (λ (line : Line). line.event) book.lines ≡ trace book.program (steps_of book.lines)

abbrev pub RunsAreTraces : Type 0
RunsAreTraces = (book : RunView) → IsRun book → IsTraced book
