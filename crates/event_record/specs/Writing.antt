-- How a run is written: plain steps of one thread are joined up to the next event, answer or change of thread. (docs/RECORDS.md)
use Rattle.std.specs.Prelude.{◌≡◌, ℕ, suc, ◌≤◌, ◌<◌, ◌^◌, ◌==◌, List, [], ◌∷◌, ◌++◌, length, map, codes, decimal, Option, Some, None, Ok, IfSome, if◌then◌else◌}
use Rattle.std.specs.List.{AllByRecursion, filter_map, flat_map}
use Rattle.api_listing.specs.declared.events.ApiAnswer.{ApiAnswer}
use Rattle.api_listing.specs.declared.events.ApiAnswer.TheVariants as answers
use Rattle.api_listing.specs.declared.events.Event.{Event}
use Rattle.api_listing.specs.declared.types.ListedMethod.{ListedMethod}
use Rattle.api_listing.specs.declared.types.Listing.{Listing}
use Rattle.guest_model.specs.declared.machine.Choice.{Choice}
use Rattle.guest_model.specs.declared.machine.Choice.TheVariants.{Plain, Answer as Answered}
use Rattle.event_record.specs.declared.entry.Entry.{Entry}
use Rattle.event_record.specs.declared.entry.Entry.TheVariants.{Go, Answer, Seen, End}
use Rattle.event_record.specs.declared.reading.Record.{Record}
use Rattle.event_record.specs.declared.writing.EndLine.{EndLine}
use Rattle.event_record.specs.declared.writing.EndLine.TheVariants as ends
use Rattle.event_record.specs.declared.writing.Line.{Line}
use Rattle.event_record.specs.Again.{IsPrinted, end_line}
use Rattle.event_record.specs.Library.{Library, library_of}
use Rattle.event_record.specs.Printing.{HasNoBreak, following, event_line}
use Rattle.event_record.specs.Record.{reading}
use Rattle.event_record.specs.Encoding.{Ending, Finished, Deadlock, Stopped, Budget, Device, Running, IsAnswer, IsStopValue, answer_words}

-- ---- the entries

-- a plain step of the thread before these entries; it is counted with those of the thread that come first
abbrev pub plain_before : ℕ → List Entry → List Entry
plain_before thread [] = Go thread 1 ∷ []
plain_before thread (Go other count ∷ entries) = if thread == other then Go other (suc count) ∷ entries else Go thread 1 ∷ Go other count ∷ entries
plain_before thread (Answer other answer ∷ entries) = Go thread 1 ∷ Answer other answer ∷ entries
plain_before thread (Seen event ∷ entries) = Go thread 1 ∷ Seen event ∷ entries
plain_before thread (End ∷ entries) = Go thread 1 ∷ End ∷ entries

abbrev pub choice_before : ℕ → Choice → List Entry → List Entry
choice_before thread Plain entries = plain_before thread entries
choice_before thread (Answered answer) entries = Answer thread answer ∷ entries

abbrev pub event_before : Option Event → List Entry → List Entry
event_before None entries = entries
event_before (Some event) entries = Seen event ∷ entries

-- A step stands before what was seen of it.
abbrev pub line_before : Line → List Entry → List Entry
line_before line entries = choice_before line.step.thread line.step.choice (event_before line.event entries)

-- the entries that tell these steps, each with what was seen of it
abbrev pub entries_of : List Line → List Entry
entries_of [] = []
entries_of (line ∷ lines) = line_before line (entries_of lines)

-- ---- their lines

-- a word, and others each after a space
abbrev pub words_line : List ℕ → List (List ℕ) → List ℕ
words_line verb words = verb ++ flat_map following words ++ 10 ∷ []

abbrev pub go_line : ℕ → ℕ → List ℕ
go_line thread count = words_line (codes "go") (decimal thread ∷ decimal count ∷ [])

abbrev pub answer_line : ℕ → ApiAnswer → List ℕ
answer_line thread answer = words_line (codes "answer") (decimal thread ∷ answer_words answer)

-- the line of an entry; the end is told apart
abbrev pub entry_line : List ListedMethod → Entry → List ℕ
entry_line methods (Go thread count) = go_line thread count
entry_line methods (Answer thread answer) = answer_line thread answer
entry_line methods (Seen event) = event_line methods event
entry_line methods End = []

abbrev pub ending_of : EndLine → ℕ → Ending
ending_of ends.Finished n = Finished n
ending_of ends.Deadlock n = Deadlock n
ending_of (ends.Stopped value) n = Stopped value n
ending_of ends.Budget n = Budget n
ending_of ends.Device n = Device n
ending_of ends.Running n = Running n

-- the lines of the entries, and the end line with the number of the steps
abbrev pub record_text : Listing → List Line → EndLine → List ℕ
record_text listing lines end = flat_map (entry_line listing.methods) (entries_of lines) ++ end_line (ending_of end (length lines))

-- the lines of events alone, and the end line with this number
abbrev pub events_text : Listing → List Event → EndLine → ℕ → List ℕ
events_text listing events end count = flat_map (event_line listing.methods) events ++ end_line (ending_of end count)

-- ---- what is written is read again

-- The class that an answer names is a word.
abbrev pub NamesWord : ApiAnswer → Type 0
NamesWord answers.Nothing = Unit {0}
NamesWord (answers.Int n) = Unit {0}
NamesWord answers.Null = Unit {0}
NamesWord (answers.Text bytes) = Unit {0}
NamesWord (answers.Fresh class) = HasNoBreak class
NamesWord (answers.Arg place) = Unit {0}
NamesWord answers.Receiver = Unit {0}
NamesWord (answers.Throws class) = HasNoBreak class

abbrev pub IsChoice : Library → Choice → Type 0
IsChoice library Plain = Unit {0}
IsChoice library (Answered answer) = IsAnswer library answer × NamesWord answer

-- A record over the listing can tell the step and what was seen of it.
pub record IsTold (listing : Listing) (line : Line) : Type 0 where
  pub numbered : line.step.thread < 2 ^ 32
  pub choice : IsChoice (library_of listing) line.step.choice
  pub event : IfSome line.event (IsPrinted (library_of listing) listing.methods)

-- the steps of a run, and the events that were seen, each in their order
abbrev pub run_of : List Line → Record
run_of lines = record { steps = map (λ line. line.step) lines; events = filter_map (λ line. line.event) lines }

-- The record of a run that a record can tell, of at most 1,000,000 steps, is read as that run.
abbrev pub RecordsAreReadAgain : Type 0
RecordsAreReadAgain = (listing : Listing) (lines : List Line) (end : EndLine)
    → AllByRecursion (IsTold listing) lines → length lines ≤ 1000000 → IsStopValue (ending_of end (length lines))
    → reading (record_text listing lines end) listing ≡ Ok (run_of lines)
