-- Which record a text encodes: its lines, as people read them. (docs/RECORDS.md)
use Rattle.std.specs.Prelude.{◌≡◌, ◌≢◌, ℕ, ℤ, ◌<◌, ◌≤◌, ◌^◌, FitsSigned, List, [], ◌∷◌, ◌++◌, length, replicate, decimal, codes, slice_get, Some, IsTrue}
use Rattle.std.specs.Fmt.{signed_decimal}
use Rattle.std.specs.Int.{w32}
use Rattle.std.specs.List.{AllByRecursion, flat_map}
use Rattle.mon_base.specs.declared.method.MethodId.{MethodId}
use Rattle.api_listing.specs.Words.{pieces}
use Rattle.api_listing.specs.declared.events.ApiAnswer.{ApiAnswer}
use Rattle.api_listing.specs.declared.events.ApiAnswer.TheVariants as answers
use Rattle.api_listing.specs.declared.events.Event.{Event}
use Rattle.api_listing.specs.declared.types.ListedMethod.{ListedMethod}
use Rattle.api_listing.specs.declared.types.Listing.{Listing}
use Rattle.guest_model.specs.declared.machine.Step.{Step}
use Rattle.event_record.specs.declared.entry.Entry.{Entry}
use Rattle.event_record.specs.declared.entry.Entry.TheVariants.{Go, Answer, Seen, End}
use Rattle.event_record.specs.declared.reading.Record.{Record}
use Rattle.event_record.specs.Library.{Library, library_of}
use Rattle.event_record.specs.Printing.{IsEventOf, event_words}
use Rattle.event_record.specs.Record.{answered, plain}
use Rattle.event_record.specs.Value.{hex}

-- ---- the words of a line

-- an answer after its thread
abbrev pub answer_words : ApiAnswer → List (List ℕ)
answer_words answers.Nothing = codes "nothing" ∷ []
answer_words (answers.Int n) = codes "int" ∷ signed_decimal n ∷ []
answer_words answers.Null = codes "null" ∷ []
answer_words (answers.Text bytes) = codes "text" ∷ hex bytes ∷ []
answer_words (answers.Fresh class) = codes "fresh" ∷ class ∷ []
answer_words (answers.Arg place) = codes "arg" ∷ decimal place ∷ []
answer_words answers.Receiver = codes "receiver" ∷ []
answer_words (answers.Throws class) = codes "throws" ∷ class ∷ []

-- Its numbers have 32 bits, its bytes are bytes, and its class is known.
abbrev pub IsAnswer : Library → ApiAnswer → Type 0
IsAnswer library answers.Nothing = Unit {0}
IsAnswer library (answers.Int n) = FitsSigned w32 n
IsAnswer library answers.Null = Unit {0}
IsAnswer library (answers.Text bytes) = AllByRecursion (λ b. b < 256) bytes
IsAnswer library (answers.Fresh class) = IsTrue (library.knows class)
IsAnswer library (answers.Arg place) = place < 2 ^ 32
IsAnswer library answers.Receiver = Unit {0}
IsAnswer library (answers.Throws class) = IsTrue (library.knows class)

-- how a run ended, with the number of its steps; a program is stopped with a value
pub data Ending : Type 0 where
  Finished : ℕ → Ending
  Deadlock : ℕ → Ending
  Stopped : ℤ → ℕ → Ending
  Budget : ℕ → Ending
  Device : ℕ → Ending
  Running : ℕ → Ending

abbrev pub ending_words : Ending → List (List ℕ)
ending_words (Finished n) = codes "end" ∷ codes "finished" ∷ decimal n ∷ []
ending_words (Deadlock n) = codes "end" ∷ codes "deadlock" ∷ decimal n ∷ []
ending_words (Stopped value n) = codes "end" ∷ codes "stopped" ∷ signed_decimal value ∷ decimal n ∷ []
ending_words (Budget n) = codes "end" ∷ codes "budget" ∷ decimal n ∷ []
ending_words (Device n) = codes "end" ∷ codes "device" ∷ decimal n ∷ []
ending_words (Running n) = codes "end" ∷ codes "running" ∷ decimal n ∷ []

abbrev pub steps_told : Ending → ℕ
steps_told (Finished n) = n
steps_told (Deadlock n) = n
steps_told (Stopped value n) = n
steps_told (Budget n) = n
steps_told (Device n) = n
steps_told (Running n) = n

abbrev pub IsStopValue : Ending → Type 0
IsStopValue (Finished n) = Unit {0}
IsStopValue (Deadlock n) = Unit {0}
IsStopValue (Stopped value n) = FitsSigned w32 value
IsStopValue (Budget n) = Unit {0}
IsStopValue (Device n) = Unit {0}
IsStopValue (Running n) = Unit {0}

-- Its numbers are those that an end line may have. The number of steps is not compared with anything.
pub record IsEnding (ending : Ending) : Type 0 where
  pub count : steps_told ending < 2 ^ 63
  pub value : IsStopValue ending

-- The words are those of an end line.
pub record EncodesEnd (words : List (List ℕ)) : Type 0 where
  pub ending : Ending
  pub encoded : words ≡ ending_words ending
  pub is : IsEnding ending

-- The words are those of an event of a method that the library has.
pub record EncodesEvent (library : Library) (words : List (List ℕ)) (event : Event) : Type 0 where
  pub id : MethodId
  pub encoded : words ≡ event_words id event
  pub is : IsEventOf library id event

-- so many plain steps of a thread, at least one
pub record EncodesGo (words : List (List ℕ)) (thread count : ℕ) : Type 0 where
  pub encoded : words ≡ codes "go" ∷ decimal thread ∷ decimal count ∷ []
  pub numbered : thread < 2 ^ 32
  pub some : 0 < count
  pub few : count < 2 ^ 32

-- a step of a thread with an answer
pub record EncodesAnswer (library : Library) (words : List (List ℕ)) (thread : ℕ) (answer : ApiAnswer) : Type 0 where
  pub encoded : words ≡ codes "answer" ∷ decimal thread ∷ answer_words answer
  pub numbered : thread < 2 ^ 32
  pub is : IsAnswer library answer

-- The words of a line encode the entry.
abbrev pub EncodesEntry : Library → List (List ℕ) → Entry → Type 0
EncodesEntry library words (Go thread count) = EncodesGo words thread count
EncodesEntry library words (Answer thread answer) = EncodesAnswer library words thread answer
EncodesEntry library words (Seen event) = EncodesEvent library words event
EncodesEntry library words End = EncodesEnd words

-- At the index stands the method with this class, name and descriptor, the first of those in the listing.
pub record IsFirst (methods : List ListedMethod) (id : MethodId) (index : ℕ) : Type 0 where
  pub method : ListedMethod
  pub there : slice_get methods index ≡ Some method
  pub named : method.id ≡ id
  pub first : (j : ℕ) (m : ListedMethod) → j < index → slice_get methods j ≡ Some m → m.id ≢ id

-- ---- the text of a record

-- The entry is not the end.
abbrev pub GoesOn : Entry → Type 0
GoesOn (Go thread count) = Unit {0}
GoesOn (Answer thread answer) = Unit {0}
GoesOn (Seen event) = Unit {0}
GoesOn End = ⊥

-- Each line, in words between single spaces, encodes its entry, and none of them is the end.
abbrev pub AreEntries : Library → List (List ℕ) → List Entry → Type 0
AreEntries library [] [] = Unit {0}
AreEntries library [] (entry ∷ entries) = ⊥
AreEntries library (line ∷ lines) [] = ⊥
AreEntries library (line ∷ lines) (entry ∷ entries) = EncodesEntry library (pieces 32 line) entry × GoesOn entry × AreEntries library lines entries

-- the steps that an entry tells
abbrev pub steps_of : Entry → List Step
steps_of (Go thread count) = replicate count (plain thread)
steps_of (Answer thread answer) = answered thread answer ∷ []
steps_of (Seen event) = []
steps_of End = []

-- the events that an entry tells
abbrev pub events_of : Entry → List Event
events_of (Go thread count) = []
events_of (Answer thread answer) = []
events_of (Seen event) = event ∷ []
events_of End = []

-- the steps and the events of the entries, each in their order
abbrev pub record_of : List Entry → Record
record_of entries = record { steps = flat_map steps_of entries; events = flat_map events_of entries }

-- The text is lines that encode entries, and then one end line, with a newline after each; the record is what the entries tell.
-- How plain steps are joined into lines, and where the events stand among the steps, is not told by the record.
pub record EncodesRecord (listing : Listing) (text : List ℕ) (r : Record) : Type 0 where
  pub lines : List (List ℕ)
  pub last : List ℕ
  pub entries : List Entry
  pub ended : pieces 10 text ≡ lines ++ last ∷ [] ∷ []
  pub encoded : AreEntries (library_of listing) lines entries
  pub over : EncodesEnd (pieces 32 last)
  pub told : r ≡ record_of entries
  pub few : length r.steps ≤ 1000000
