-- A turn is that of the book before its devices were asked.
use Rattle.std.proofs.Common.{◌≡◌, ℕ, List, [], ◌∷◌, ◌++◌, Some, None, ap, ◌∙◌}
use Rattle.api_shelf.specs.Shelf.{IsLater, first_of}
use Rattle.bytecode_model.specs.declared.program.Program.{Program}
use Rattle.event_record.specs.declared.writing.Line.{Line}
use Rattle.guest_model.specs.declared.machine.Choice.TheVariants.{Answer}
use Rattle.guest_model.specs.declared.machine.Machine.{Machine}
use Rattle.guest_model.specs.declared.machine.Step.{Step}
use Rattle.guest_model.specs.LibraryCalls.{call_asked}
use Rattle.guest_runner.specs.declared.book.Advance.{Advance}
use Rattle.guest_runner.specs.declared.book.Advance.TheVariants as advances
use Rattle.guest_runner.specs.Advancing.{AnswersPlainly, Turned}
use Rattle.guest_runner.specs.Book.{RunView}
use Rattle.guest_runner.specs.PlainAnswers.{plain_or_null}
use Rattle.guest_runner.proofs.Devices.{first_by_classes}

module _ (old mid new : RunView) (program : mid.program ≡ old.program) (machine : mid.machine ≡ old.machine) (lines : mid.lines ≡ old.lines)
    (later : IsLater old.slots mid.slots) where
  plain_since : (step : Step) → AnswersPlainly mid step → AnswersPlainly old step
  plain_since step plain call asked none =
      let asked_now : call_asked mid.program mid.machine step.thread ≡ Some call =
      ap (λ (p : Program). call_asked p mid.machine step.thread) program ∙ ap (λ (m : Machine). call_asked old.program m step.thread) machine ∙ asked in
      let none_now : first_of call.method.class mid.slots ≡ None = first_by_classes call.method.class old.slots mid.slots later.classes ∙ none in
      plain call asked_now none_now
      ∙ ap (λ (p : Program). Answer (plain_or_null p mid.machine step.thread call)) program
      ∙ ap (λ (m : Machine). Answer (plain_or_null old.program m step.thread call)) machine

  pub turned_since : (thread : ℕ) (answer : Advance) → Turned thread mid new answer → Turned thread old new answer
  turned_since thread advances.Stepped t = record {
    line = t.line;
    by = t.by;
    lines = t.lines ∙ ap (λ (ls : List Line). ls ++ t.line ∷ []) lines;
    unstopped = t.unstopped;
    plain = plain_since t.line.step t.plain;
  }
  turned_since thread advances.Device t = record { stop = t.stop; by = t.by; is = t.is; lines = t.lines ∙ lines; machine = t.machine ∙ machine }
  turned_since thread (advances.Ended end) t = absurd t
  turned_since thread advances.Budget t = absurd t
