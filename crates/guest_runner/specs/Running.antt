-- How a run by worker threads ends. (docs/RUNS.md)
use Rattle.std.specs.Prelude.{◌≡◌, length, Option, None, Some, IsSome, Result, Ok, Err}
use Rattle.event_record.specs.declared.writing.EndLine.{EndLine}
use Rattle.event_record.specs.declared.writing.EndLine.TheVariants as lines
use Rattle.guest_model.specs.declared.machine.End.{End}
use Rattle.guest_model.specs.declared.machine.End.TheVariants as ends
use Rattle.guest_model.specs.Ending.{end_of}
use Rattle.guest_runner.specs.declared.book.RunBook.{RunBook}
use Rattle.guest_runner.specs.declared.running.RunStop.{RunStop}
use Rattle.guest_runner.specs.declared.running.RunStop.TheVariants as stops
use Rattle.guest_runner.specs.Book.{Identity, IsRun, RunView, identity}

-- the end line of a machine's end
abbrev pub end_line : End → EndLine
end_line ends.Finished = lines.Finished
end_line ends.Deadlock = lines.Deadlock
end_line (ends.Stopped value) = lines.Stopped value

-- The machine has ended; or a thread can make a step, and the book has as many as it may have.
abbrev pub MayEnd : RunView → Option End → EndLine → Type 0
MayEnd book (Some end) line = line ≡ end_line end
MayEnd book None line = (line ≡ lines.Budget) × (length book.lines ≡ book.budget)

-- No device has stopped the book, and this is how it ended.
pub record IsEnd (book : RunView) (line : EndLine) : Type 0 where
  pub unstopped : book.stop ≡ None
  pub end : MayEnd book (end_of book.program book.machine) line

-- The book ended so, or a device stopped it.
abbrev pub HasEnded : RunView → Option EndLine → Type 0
HasEnded book (Some line) = IsEnd book line
HasEnded book None = IsSome book.stop

-- The book is of one run, of the program, the budget and the devices that were handed in.
pub record IsRunOf (named : Identity) (book : RunView) : Type 0 where
  pub run : IsRun book
  pub same : identity book ≡ named

-- What a run gives: the book and how it ended; the book that a device stopped; or memory ran out. The book is of what was handed in.
abbrev pub Gives : {E D : Type 0} → (RunBook E D → RunView) → Identity → Result (RunBook E D × EndLine) (RunStop E D) → Type 0
Gives view named (Ok ended) = IsRunOf named (view ended.0) × IsEnd (view ended.0) ended.1
Gives view named (Err (stops.Device book)) = IsRunOf named (view book) × IsSome (view book).stop
Gives view named (Err (stops.Mismatch book)) = ⊥
Gives view named (Err stops.Memory) = Unit {0}
