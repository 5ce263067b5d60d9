-- What the command `run` comes to: the program that is checked is run, and its run is told. (docs/RUNS.md)
use Rattle.std.specs.Prelude.{◌≡◌, ◌≤◌, ◌⊎◌, ℕ, List, length, Option, Some, None, Result, Ok, Err, IfSome, IsSome}
use Rattle.std.specs.List.{filter_map}
use Rattle.api_shelf.specs.Shelf.{View}
use Rattle.api_shelf.specs.Telling.{Log}
use Rattle.bytecode_model.specs.declared.program.Program.{Program}
use Rattle.command_inputs.specs.GenWords.{IsInBounds}
use Rattle.command_inputs.specs.Words.{Check, Gen, Inline, Lift, Load, NamedCommand, NamedRun, Policy, Race, Replay, Run, Show}
use Rattle.conspec_automaton.specs.Building.{built}
use Rattle.conspec_automaton.specs.Obeys.{Obeys}
use Rattle.event_record.specs.declared.writing.EndLine.{EndLine}
use Rattle.event_record.specs.declared.writing.EndLine.TheVariants as lines
use Rattle.event_record.specs.declared.writing.Line.{Line}
use Rattle.event_record.specs.Encoding.{IsStopValue}
use Rattle.event_record.specs.Record.{reading}
use Rattle.event_record.specs.Writing.{ending_of, events_text, record_text, run_of}
use Rattle.guest_model.specs.Ending.{end_of}
use Rattle.guest_model.specs.Runs.{trace}
use Rattle.guest_runner.specs.declared.book.RunBook.{RunBook}
use Rattle.guest_runner.specs.declared.running.RunStop.{RunStop}
use Rattle.guest_runner.specs.declared.running.RunStop.TheVariants as stops
use Rattle.guest_runner.specs.Book.{Identity, IsRun, RunView, book_view, identity, new_book, steps_of}
use Rattle.guest_runner.specs.Running.{IsEnd, IsRunOf}
use Rattle.guest_runner.specs.Runs.{IsTraced}
use Rattle.guest_step.specs.Rooms.{Run as Interpreted}
use Rattle.mon_store.specs.Sink.{Appends}
use Rattle.command_inputs.specs.declared.check_inputs.CheckInputs.{CheckInputs}
use Rattle.command_inputs.specs.declared.replay_inputs.ReplayInputs.{ReplayInputs}
use Rattle.command_inputs.specs.CheckInputs.{ReadsCheck}
use Rattle.command_inputs.specs.Forms.{Then}
use Rattle.inliner_tool.specs.declared.answer.Answer.{Answer}
use Rattle.inliner_tool.specs.declared.answer.Answer.TheVariants as answers
use Rattle.inliner_tool.specs.declared.answer.Made.{Made}
use Rattle.inliner_tool.specs.declared.tool.Status.{Status}
use Rattle.inliner_tool.specs.declared.tool.Status.TheVariants as statuses
use Rattle.inliner_tool.specs.Check.{ProgramIsChecked, judged_step, link_inputs}
use Rattle.inliner_tool.specs.Replay.{Replays, end_told, steps_told}
use Rattle.inliner_tool.specs.Seen.{Seen}
use Rattle.inliner_tool.specs.Steps.{Equals, Step, just}

-- ---- a run

-- a book, and the line by which its record ends
abbrev pub Told : Type 0
Told = RunView × EndLine

-- The book ended so; or a device stopped it.
abbrev pub EndsWith : RunView → EndLine → Type 0
EndsWith book line = IsEnd book line ⊎ (IsSome book.stop × (line ≡ lines.Device))

-- The book is of a run of this program, in at most so many steps, and ended so.
pub record IsRunTo (program : Program) (budget : ℕ) (told : Told) : Type 0 where
  pub run : IsRun told.0
  pub program_is : told.0.program ≡ program
  pub budget_is : told.0.budget ≡ budget
  pub ends : EndsWith told.0 told.1

-- what is printed: the record of the book's steps
abbrev pub told_text : Told → List ℕ
told_text told = record_text told.0.program.listing told.0.lines told.1

-- the answer that it is
abbrev pub record_made : Told → Made
record_made told = just (answers.Ran told.1 (told_text told))

-- The program is run, and its run is told. Which thread makes which step is left open.
abbrev pub Executes : Program → ℕ → Step Made → Type 0
Executes program budget (Ok made) = (told : Told) × IsRunTo program budget told × (made ≡ record_made told)
Executes program budget (Err ended) = ⊥

-- The class files link to a program that is accepted with the certificate, and it is run.
abbrev pub Runs : NamedRun → CheckInputs → Step Made → Type 0
Runs named inputs =
    Then (Equals (link_inputs named.check.main inputs)) (λ program.
    Then (Equals (judged_step inputs.policy inputs.certificate program)) (λ accepted.
    Executes program named.budget))

-- From 1 to 64 workers make at most 1,000,000 steps.
pub record IsWithin (named : NamedRun) : Type 0 where
  pub some : 1 ≤ named.workers
  pub most : named.workers ≤ 64
  pub steps : named.budget ≤ 1000000

-- ---- what is kept

-- the book of an answer, and how it ended; nothing where memory ran out
abbrev pub told_by : {E D : Type 0} → (RunBook E D → RunView) → Result (RunBook E D × EndLine) (RunStop E D) → Option Told
told_by view (Ok ended) = Some (view ended.0, ended.1)
told_by view (Err (stops.Device book)) = Some (view book, lines.Device)
told_by view (Err (stops.Mismatch book)) = None
told_by view (Err stops.Memory) = None

-- A run has a book, or memory ran out: the book is never of another run.
abbrev pub HasBookOrNone : {E D : Type 0} → Result (RunBook E D × EndLine) (RunStop E D) → Type 0
HasBookOrNone (Ok ended) = Unit {0}
HasBookOrNone (Err (stops.Device book)) = Unit {0}
HasBookOrNone (Err (stops.Mismatch book)) = ⊥
HasBookOrNone (Err stops.Memory) = Unit {0}

-- There is a book, and it is of this run: memory did not run out.
abbrev pub HasBook : {E D : Type 0} → Result (RunBook E D × EndLine) (RunStop E D) → Type 0
HasBook (Ok ended) = Unit {0}
HasBook (Err (stops.Device book)) = Unit {0}
HasBook (Err (stops.Mismatch book)) = ⊥
HasBook (Err stops.Memory) = ⊥

-- what is seen of a book over the interpreter
abbrev pub interpreted : {D : Type 0} → (D → Option Log) → (D → ℕ) → RunBook Interpreted D → RunView
interpreted told faults book = book_view (λ run. run.program) (λ run. run.machine) told faults book

abbrev pub told_of : {D : Type 0} → (D → Option Log) → (D → ℕ) → Option (Result (RunBook Interpreted D × EndLine) (RunStop Interpreted D)) → Option Told
told_of told faults None = None
told_of told faults (Some answer) = told_by (interpreted told faults) answer

-- The value by which the program was stopped, if it was, is one that a record can tell.
abbrev pub HasStopValue : Told → Type 0
HasStopValue told = IsStopValue (ending_of told.1 (length told.0.lines))

-- The book is of one run of the program, budget and devices that are named, and ended so.
pub record IsRunAs (named : Identity) (told : Told) : Type 0 where
  pub of : IsRunOf named told.0
  pub ends : EndsWith told.0 told.1
  pub value : HasStopValue told

-- what is printed of the steps of the book where they are made again: its events, and the end, if the machine has ended
abbrev pub replay_text : RunView → List ℕ
replay_text book =
    events_text book.program.listing (filter_map (λ (line : Line). line.event) book.lines) (end_told (end_of book.program book.machine)) (length book.lines)

-- The inputs link to the book's program, which is checked: so what is recorded obeys the policy. The book is of one run of it, in at
-- most as many steps as the words say, over the devices that were handed in; each step is one that the rules enable, and its events
-- are those of the steps. The record that is printed is read as these steps and these events; and `replay` of these steps prints the
-- same events, and the same end where the machine has ended.
pub record IsRunOfInputs (named : NamedRun) (inputs : CheckInputs) (slots : List View) (told : Told) : Type 0 where
  pub links : link_inputs named.check.main inputs ≡ Ok told.0.program
  pub checked : ProgramIsChecked inputs.policy inputs.certificate told.0.program
  pub run : IsRunAs (identity (new_book told.0.program slots named.budget)) told
  pub traced : IsTraced told.0
  pub obeys : Obeys inputs.certificate.mode (built inputs.policy) (trace told.0.program (steps_of told.0.lines))
  pub again : reading (told_text told) told.0.program.listing ≡ Ok (run_of told.0.lines)
  pub replays : steps_told told.0.program (steps_of told.0.lines) ≡ Ok (replay_text told.0)

-- The named files are such inputs.
pub record IsKept (seen : Seen) (named : NamedRun) (slots : List View) (told : Told) : Type 0 where
  pub inputs : CheckInputs
  pub read : ReadsCheck seen.old seen.count named.check (Ok inputs)
  pub is : IsRunOfInputs named inputs slots told

-- What is kept is so; and where a step gives an answer, it is the record of what is kept.
abbrev pub KeepsRun : (Told → Type 0) → Option Told → Step Made → Type 0
KeepsRun So kept (Ok made) = (told : Told) × (kept ≡ Some told) × So told × (made ≡ record_made told)
KeepsRun So kept (Err ended) = IfSome kept So

-- The answer is the record of this book.
abbrev pub TellsBook : Option Told → Step Made → Type 0
TellsBook told (Ok made) = (t : Told) × (told ≡ Some t) × (made ≡ record_made t)
TellsBook told (Err ended) = ⊥

-- The answer is the record of what is kept.
abbrev pub TellsKept : Option Told → Answer → Type 0
TellsKept kept answer = (told : Told) × (kept ≡ Some told) × (answer ≡ answers.Ran told.1 (told_text told))

-- The numbers of the words are within their bounds.
abbrev pub AreWithin : NamedCommand → Type 0
AreWithin (Check named) = Unit {0}
AreWithin (Show named) = Unit {0}
AreWithin (Policy named) = Unit {0}
AreWithin (Race named) = Unit {0}
AreWithin (Inline named) = Unit {0}
AreWithin (Replay named) = Unit {0}
AreWithin (Lift named) = Unit {0}
AreWithin (Gen named) = IsInBounds named
AreWithin (Load named) = IsInBounds named
AreWithin (Run named) = IsWithin named

-- ---- what is printed

-- the status of a run that ended so
abbrev pub run_status : EndLine → Status
run_status lines.Finished = statuses.Done
run_status lines.Deadlock = statuses.Done
run_status (lines.Stopped value) = statuses.Done
run_status lines.Budget = statuses.Budget
run_status lines.Device = statuses.Device
run_status lines.Running = statuses.Done

-- A run was kept, it is so, its record is printed, and the status is that of its end.
abbrev pub PrintsRun : (Told → Type 0) → Option Told → Option (List ℕ) → Option (List ℕ) → Status → Type 0
PrintsRun So kept text after status = (told : Told) × (kept ≡ Some told) × So told × Appends text after (told_text told) × (status ≡ run_status told.1)

-- The status is that of a run.
abbrev pub IsRunStatus : Status → Type 0
IsRunStatus status = (status ≡ statuses.Done) ⊎ ((status ≡ statuses.Budget) ⊎ (status ≡ statuses.Device))

-- ---- the run, made again

-- The files of a run that was kept, with the steps and events that its record is read as, are replayed: the events are printed, and the
-- end, if the machine has ended.
abbrev pub RunsAreReplayed : Type 0
RunsAreReplayed =
    (named : NamedRun) (inputs : CheckInputs) (slots : List View) (told : Told) → IsRunOfInputs named inputs slots told
    → (again : ReplayInputs) → again.listing ≡ inputs.listing → again.classes ≡ inputs.classes → again.recorded ≡ run_of told.0.lines
    → (step : Step Made) → Replays named.check.main again step → step ≡ Ok (just (answers.Replayed (replay_text told.0)))
