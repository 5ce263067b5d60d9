-- What turns make of a book. (docs/RUNS.md)
use Rattle.std.specs.Prelude.{◌≡◌, ◌<◌, ◌+◌, ◌⊎◌, ◌++◌, ◌∷◌, ℕ, List, [], length, slice_get, None, Some, IsSome}
use Rattle.api_listing.specs.declared.events.ApiCall.{ApiCall}
use Rattle.api_shelf.specs.Shelf.{View, first_of}
use Rattle.guest_model.specs.declared.machine.Choice.TheVariants.{Answer}
use Rattle.guest_model.specs.declared.machine.Step.{Step}
use Rattle.guest_model.specs.Ending.{end_of}
use Rattle.guest_model.specs.LibraryCalls.{call_asked}
use Rattle.guest_model.specs.Turns.{next_enabled}
use Rattle.event_record.specs.declared.writing.Line.{Line}
use Rattle.guest_runner.specs.declared.book.Advance.{Advance}
use Rattle.guest_runner.specs.declared.book.Advance.TheVariants as advances
use Rattle.guest_runner.specs.declared.book.DeviceStop.{DeviceStop}
use Rattle.guest_runner.specs.declared.book.Turns.{Turns}
use Rattle.guest_runner.specs.declared.book.Turns.TheVariants as turns
use Rattle.guest_runner.specs.Book.{RunView, stopped_thread}
use Rattle.guest_runner.specs.PlainAnswers.{plain_or_null}

-- The book takes a step more, and it is this thread's turn: the first from this number on that can make one.
pub record IsTurn (first : ℕ) (book : RunView) (thread : ℕ) : Type 0 where
  pub unstopped : book.stop ≡ None
  pub room : length book.lines < book.budget
  pub turn : next_enabled book.program book.machine first ≡ Some thread

-- The answer to a call of a class without a device is the plain one, or null where that does not fit.
abbrev pub AnswersPlainly : RunView → Step → Type 0
AnswersPlainly book step =
    (call : ApiCall) → call_asked book.program book.machine step.thread ≡ Some call → first_of call.method.class book.slots ≡ None
    → step.choice ≡ Answer (plain_or_null book.program book.machine step.thread call)

-- One step more, of this thread.
pub record HasStepped (thread : ℕ) (old new : RunView) : Type 0 where
  pub line : Line
  pub by : line.step.thread ≡ thread
  pub lines : new.lines ≡ old.lines ++ line ∷ []
  pub unstopped : new.stop ≡ None
  pub plain : AnswersPlainly old line.step

-- No step more: the device that this thread waits for failed, or answered what does not fit.
pub record HasStopped (thread : ℕ) (old new : RunView) : Type 0 where
  pub stop : DeviceStop
  pub by : stopped_thread stop ≡ thread
  pub is : new.stop ≡ Some stop
  pub lines : new.lines ≡ old.lines
  pub machine : new.machine ≡ old.machine

-- what became of the turn of this thread
abbrev pub Turned : ℕ → RunView → RunView → Advance → Type 0
Turned thread old new advances.Stepped = HasStepped thread old new
Turned thread old new advances.Device = HasStopped thread old new
Turned thread old new (advances.Ended end) = ⊥
Turned thread old new advances.Budget = ⊥

-- What is answered, and when: a step is made, or it stops here; it has stopped before; the run has ended; it could go on, and has as
-- many steps as it may have.
abbrev pub Advances : ℕ → RunView → RunView → Advance → Type 0
Advances first old new advances.Stepped = (thread : ℕ) × IsTurn first old thread × HasStepped thread old new
Advances first old new advances.Device =
    (IsSome old.stop × (new ≡ old)) ⊎ ((thread : ℕ) × IsTurn first old thread × HasStopped thread old new)
Advances first old new (advances.Ended end) = (old.stop ≡ None) × (end_of old.program old.machine ≡ Some end) × (new ≡ old)
Advances first old new advances.Budget =
    (old.stop ≡ None) × (end_of old.program old.machine ≡ None) × (length old.lines ≡ old.budget) × (new ≡ old)

-- No log has changed.
abbrev pub LogsStay : List View → List View → Type 0
LogsStay old new = (place : ℕ) (before now : View) → slice_get old place ≡ Some before → slice_get new place ≡ Some now → now.told ≡ before.told

-- The book is as it was, but for what devices count, which may have wanted memory themselves.
pub record IsUnchanged (old new : RunView) : Type 0 where
  pub machine : new.machine ≡ old.machine
  pub lines : new.lines ≡ old.lines
  pub stop : new.stop ≡ old.stop
  pub told : LogsStay old.slots new.slots

-- ---- some turns

-- The book takes no more steps: a device stopped it, its machine has ended, or it has as many as its budget.
abbrev pub IsOver : RunView → Type 0
IsOver book = IsSome book.stop ⊎ (IsSome (end_of book.program book.machine) ⊎ (length book.lines ≡ book.budget))

-- What is answered to so many turns: each made a step; or the book takes no more; or memory ran out.
abbrev pub Came : ℕ → RunView → RunView → Turns → Type 0
Came steps old new turns.Made = length new.lines ≡ length old.lines + steps
Came steps old new turns.Over = IsOver new
Came steps old new turns.Memory = Unit {0}
