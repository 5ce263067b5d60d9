-- What a record is, which record a text encodes, and how a text is read. (docs/RECORDS.md)
use Rattle.std.specs.Prelude.{ℕ, ◌+◌, ◌&&◌, nat_lt, Bool, true, false, List, [], ◌∷◌, ◌++◌, length, replicate, Result, Ok, Err, if◌then◌else◌}
use Rattle.mon_base.specs.Reading.{◌>>=◌}
use Rattle.api_listing.specs.Fault.{Read}
use Rattle.api_listing.specs.Words.{pieces}
use Rattle.api_listing.specs.declared.events.ApiAnswer.{ApiAnswer}
use Rattle.api_listing.specs.declared.events.Event.{Event}
use Rattle.api_listing.specs.declared.types.Listing.{Listing}
use Rattle.guest_model.specs.declared.machine.Choice.TheVariants.{Plain, Answer as Answered}
use Rattle.guest_model.specs.declared.machine.Step.{Step}
use Rattle.event_record.specs.declared.entry.Entry.{Entry}
use Rattle.event_record.specs.declared.entry.Entry.TheVariants.{Go, Answer, Seen, End}
use Rattle.event_record.specs.declared.fault.RecordFault.{RecordFault}
use Rattle.event_record.specs.declared.fault.RecordFault.TheVariants.{Line}
use Rattle.event_record.specs.declared.reading.Record.{Record}
use Rattle.event_record.specs.declared.reading.Told.{Told}
use Rattle.event_record.specs.Entry.{entry_of}
use Rattle.event_record.specs.Library.{Library, library_of}

abbrev pub plain : ℕ → Step
plain thread = record { thread = thread; choice = Plain }

abbrev pub answered : ℕ → ApiAnswer → Step
answered thread answer = record { thread = thread; choice = Answered answer }

abbrev pub empty_record : Record
empty_record = record { steps = []; events = [] }

abbrev pub with_steps : Record → List Step → Record
with_steps r steps = record { steps = r.steps ++ steps; events = r.events }

abbrev pub with_event : Record → Event → Record
with_event r event = record { steps = r.steps; events = r.events ++ event ∷ [] }

abbrev pub goes_on : Record → Told
goes_on after = record { after = after; is_last = false }

abbrev pub ended : Record → Told
ended after = record { after = after; is_last = true }

-- so many steps more, where they are not too many
abbrev pub more_steps : ℕ → Record → ℕ → Step → Result Told RecordFault
more_steps number r count step = if nat_lt 1000000 (length r.steps + count) then Err (Line number) else Ok (goes_on (with_steps r (replicate count step)))

-- the record after the entry of the line with this number
abbrev pub with_entry : ℕ → Record → Entry → Result Told RecordFault
with_entry number r (Go thread count) = more_steps number r count (plain thread)
with_entry number r (Answer thread answer) = more_steps number r 1 (answered thread answer)
with_entry number r (Seen event) = Ok (goes_on (with_event r event))
with_entry number r End = Ok (ended r)

abbrev pub with_read : ℕ → Record → Read Entry → Result Told RecordFault
with_read number r (Ok entry) = with_entry number r entry
with_read number r (Err e) = Err (Line number)

-- the record after the line
unfoldable pub after_line : Library → ℕ → Record → List ℕ → Result Told RecordFault
after_line library number r line = with_read number r (entry_of library (pieces 32 line))

abbrev pub is_none : {X : Type 0} → List X → Bool
is_none [] = true
is_none (x ∷ xs) = false

-- After the newline of the end line stands nothing.
abbrev pub is_over : List (List ℕ) → Bool
is_over [] = true
is_over (last ∷ rest) = is_none last && is_none rest

-- what the end line gives, with what stands after its newline
abbrev pub over : ℕ → Record → List (List ℕ) → Result Record RecordFault
over number r rest = if is_over rest then Ok r else Err (Line (number + 1))

-- what is read of these lines, of which the first has this number; the last of them has no newline after it
abbrev pub after_lines : Library → ℕ → Record → List (List ℕ) → Result Record RecordFault
after_lines library number r [] = Err (Line number)
after_lines library number r (line ∷ rest) =
    if is_none rest then Err (Line number)
    else (after_line library number r line >>= λ told. if told.is_last then over number told.after rest else after_lines library (number + 1) told.after rest)

-- what the text gives: the record, or its first line that is wrong
unfoldable pub reading : List ℕ → Listing → Result Record RecordFault
reading text listing = after_lines (library_of listing) 1 empty_record (pieces 10 text)
