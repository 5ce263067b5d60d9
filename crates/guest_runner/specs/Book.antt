-- What the book of a run keeps. (docs/RUNS.md)
use Rattle.std.specs.Prelude.{◌≡◌, ◌≤◌, ◌++◌, ◌∷◌, ℕ, false, List, [], length, map, slice_get, Option, None, Some, IsSome}
use Rattle.std.specs.List.{AllByRecursion}
use Rattle.mon_store.specs.Store.{Rose}
use Rattle.api_shelf.specs.Shelf.{AllTell, View, first_of, views}
use Rattle.api_shelf.specs.Telling.{Log}
use Rattle.bytecode_model.specs.declared.program.Program.{Program}
use Rattle.guest_model.specs.declared.machine.Machine.{Machine}
use Rattle.guest_model.specs.declared.machine.Step.{Step}
use Rattle.guest_model.specs.Asking.{takes_answer}
use Rattle.guest_model.specs.LibraryCalls.{answered_in, call_asked}
use Rattle.guest_model.specs.Runs.{exec, start_of}
use Rattle.guest_model.specs.Turns.{MakesWhatIsEnabled}
use Rattle.event_record.specs.declared.writing.Line.{Line}
use Rattle.event_record.specs.RunLines.{AreLinesOf, BringsBytes}
use Rattle.guest_runner.specs.declared.book.DeviceStop.{DeviceStop}
use Rattle.guest_runner.specs.declared.book.DeviceStop.TheVariants as stops
use Rattle.guest_runner.specs.declared.book.RunBook.{RunBook}
use Rattle.guest_runner.specs.PlainAnswers.{PlainAnswersFit}

-- ---- what is seen of a book

-- The program and its machine, the steps so far with what the library saw of each, the devices, how many faults each had counted
-- when the book was made, how many steps there may be, and why the book takes no more.
pub record RunView : Type 0 where
  pub program : Program
  pub machine : Machine
  pub lines : List Line
  pub slots : List View
  pub counts : List ℕ
  pub budget : ℕ
  pub stop : Option DeviceStop

abbrev pub book_view : {E D : Type 0} → (E → Program) → (E → Machine) → (D → Option Log) → (D → ℕ) → RunBook E D → RunView
book_view program machine told faults book = record {
  program = program book.execution;
  machine = machine book.execution;
  lines = book.lines.items;
  slots = views told faults book.slots.items;
  counts = book.counts;
  budget = book.budget;
  stop = book.stop;
}

-- a book with no steps, over these devices
abbrev pub new_book : Program → List View → ℕ → RunView
new_book program slots budget = record {
  program = program;
  machine = start_of program;
  lines = [];
  slots = slots;
  counts = map (λ (slot : View). slot.faults) slots;
  budget = budget;
  stop = None;
}

-- What stays of a book, whatever is done with it.
pub record Identity : Type 0 where
  pub program : Program
  pub budget : ℕ
  pub classes : List (List ℕ)
  pub counts : List ℕ

abbrev pub identity : RunView → Identity
identity book = record { program = book.program; budget = book.budget; classes = map (λ (slot : View). slot.class) book.slots; counts = book.counts }

-- ---- why it stopped

-- the thread that a stop keeps
abbrev pub stopped_thread : DeviceStop → ℕ
stopped_thread (stops.Failed thread call) = thread
stopped_thread (stops.Kind thread call answer) = thread

-- what was answered and not taken: the answer that does not fit
abbrev pub kept_pairs : Option DeviceStop → Log
kept_pairs None = []
kept_pairs (Some (stops.Failed thread call)) = []
kept_pairs (Some (stops.Kind thread call answer)) = (call, answer) ∷ []

-- The first device of the class counted a fault since the book was made.
pub record HasFailed (slots : List View) (counts : List ℕ) (class : List ℕ) : Type 0 where
  pub place : ℕ
  pub slot : View
  pub before : ℕ
  pub first : first_of class slots ≡ Some place
  pub there : slice_get slots place ≡ Some slot
  pub made : slice_get counts place ≡ Some before
  pub rose : Rose before slot.faults

-- The kept call is the one to which the kept thread waits for an answer, and its class has a device; and this failed, or the kept
-- answer does not fit.
abbrev pub IsStopOf : RunView → Option DeviceStop → Type 0
IsStopOf book None = Unit {0}
IsStopOf book (Some (stops.Failed thread call)) =
    (call_asked book.program book.machine thread ≡ Some call) × HasFailed book.slots book.counts call.method.class
IsStopOf book (Some (stops.Kind thread call answer)) =
    (call_asked book.program book.machine thread ≡ Some call) × (takes_answer book.program book.machine thread answer ≡ false)
    × IsSome (first_of call.method.class book.slots)

-- ---- the book

abbrev pub steps_of : List Line → List Step
steps_of lines = map (λ (line : Line). line.step) lines

-- No device has fewer faults than when the book was made.
pub record CountsStand (counts : List ℕ) (slots : List View) : Type 0 where
  pub each : length counts ≡ length slots
  pub later : (place before : ℕ) (slot : View) → slice_get counts place ≡ Some before → slice_get slots place ≡ Some slot → before ≤ slot.faults

-- The steps are made in their places, one after the other from the start, and the machine is the one after them; the texts
-- that were answered are made of bytes; and of each class the first device tells what it answered to these steps, and then `more`,
-- and no other device tells anything.
pub record Keeps (more : Log) (book : RunView) : Type 0 where
  pub makes : MakesWhatIsEnabled book.program
  pub plain : PlainAnswersFit book.program
  pub machine : book.machine ≡ exec book.program (steps_of book.lines)
  pub lines : AreLinesOf book.program book.lines
  pub brings : AllByRecursion (λ (line : Line). BringsBytes line.step.choice) book.lines
  pub within : length book.lines ≤ book.budget
  pub told : AllTell (answered_in book.program (steps_of book.lines) ++ more) book.slots
  pub counts : CountsStand book.counts book.slots

-- The book is of one run.
pub record IsRun (book : RunView) : Type 0 where
  pub keeps : Keeps (kept_pairs book.stop) book
  pub stop : IsStopOf book book.stop
