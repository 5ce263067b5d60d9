-- What is read of a text is encoded so, and what is encoded so is read.
use Rattle.std.proofs.Common.{◌≡◌, ◌≢◌, ℕ, ◌+◌, ◌≤◌, true, false, cond, List, [], ◌∷◌, ◌++◌, length, replicate, Result, Ok, Err, refl, sym, ap, ap₂, ◌∙◌, subst, arith, append_assoc, length-append}
use Rattle.std.specs.Prelude.{nat_lt, IfOk, MatchResult}
use Rattle.std.specs.List.{AllByRecursion, flat_map}
use Rattle.std.proofs.lemmas.Bool.{and_parts, le-ltb, ltb-false, false≢true}
use Rattle.std.proofs.lemmas.List.{append-nil, length-replicate}
use Rattle.mon_base.specs.Reading.{◌>>=◌}
use Rattle.api_listing.specs.Fault.{Read}
use Rattle.api_listing.specs.Words.{pieces}
use Rattle.api_listing.specs.declared.events.Event.{Event}
use Rattle.api_listing.specs.declared.types.Listing.{Listing}
use Rattle.guest_model.specs.declared.machine.Step.{Step}
use Rattle.event_record.specs.declared.entry.Entry.{Entry}
use Rattle.event_record.specs.declared.entry.Entry.TheVariants.{Go, Answer, Seen, End}
use Rattle.event_record.specs.declared.fault.RecordFault.{RecordFault}
use Rattle.event_record.specs.declared.fault.RecordFault.TheVariants.{Line, Memory}
use Rattle.event_record.specs.declared.reading.Record.{Record}
use Rattle.event_record.specs.declared.reading.Told.{Told}
use Rattle.event_record.specs.Entry.{entry_of}
use Rattle.mon_base.specs.Answer.{Answers, Fails}
use Rattle.event_record.specs.Library.{Library, library_of}
use Rattle.event_record.specs.Printing.{HasNoBreak}
use Rattle.event_record.specs.Record.{after_line, after_lines, answered, empty_record, ended, goes_on, is_none, is_over, more_steps, over, plain, reading, with_entry, with_read, with_steps}
use Rattle.event_record.specs.Encoding.{AreEntries, GoesOn, EncodesEnd, EncodesEntry, EncodesRecord, events_of, record_of, steps_of}
use Rattle.event_record.proofs.Found.{either, ok_is, then_ok}
use Rattle.event_record.proofs.LineLaws.{entry_again, entry_found}
use Rattle.event_record.proofs.Unbroken.{lines_have_no_newline, words_have_no_break}

abbrev pub made : List Step → List Event → Record
made steps events = record { steps = steps; events = events }

-- the record with an entry after it, and with several
abbrev pub added : Record → Entry → Record
added r entry = made (r.steps ++ steps_of entry) (r.events ++ events_of entry)

abbrev with_all : Record → List Entry → Record
with_all r entries = made (r.steps ++ flat_map steps_of entries) (r.events ++ flat_map events_of entries)

with_none : (r : Record) → r ≡ with_all r []
with_none r = ap₂ made (sym (append-nil r.steps)) (sym (append-nil r.events))

with_more : (r : Record) (entry : Entry) (entries : List Entry) → with_all (added r entry) entries ≡ with_all r (entry ∷ entries)
with_more r entry entries = ap₂ made (append_assoc r.steps (steps_of entry) (flat_map steps_of entries)) (append_assoc r.events (events_of entry) (flat_map events_of entries))

pub some_line : (lines : List (List ℕ)) (last : List ℕ) (rest : List (List ℕ)) → is_none (lines ++ last ∷ rest) ≡ false
some_line [] last rest = refl
some_line (line ∷ lines) last rest = refl

-- ---- one entry

steps_again : (number : ℕ) (r : Record) (count : ℕ) (step : Step) → length (r.steps ++ replicate count step) ≤ 1000000 → more_steps number r count step ≡ Ok (goes_on (made (r.steps ++ replicate count step) (r.events ++ [])))
steps_again number r count step few =
    let test : nat_lt 1000000 (length r.steps + count) ≡ false = le-ltb 1000000 (length r.steps + count) (omega (arith, few, length-append r.steps (replicate count step), length-replicate count step)) in
    rw test (ap (λ (events : List Event). Ok (goes_on (made (r.steps ++ replicate count step) events))) (sym (append-nil r.events)))

pub entry_added : (number : ℕ) (r : Record) (entry : Entry) → GoesOn entry → length (r.steps ++ steps_of entry) ≤ 1000000 → with_entry number r entry ≡ Ok (goes_on (added r entry))
entry_added number r (Go thread count) on few = steps_again number r count (plain thread) few
entry_added number r (Answer thread answer) on few = steps_again number r 1 (answered thread answer) few
entry_added number r (Seen event) on few = ap (λ (steps : List Step). Ok (goes_on (made steps (r.events ++ event ∷ [])))) (sym (append-nil r.steps))
entry_added number r End on few = absurd on

-- the record after an entry that is not the end
abbrev IsAdded : Record → Entry → Told → Type 0
IsAdded r entry told = (told ≡ goes_on (added r entry)) × (length (r.steps ++ steps_of entry) ≤ 1000000)

steps_found : (number : ℕ) (r : Record) (count : ℕ) (step : Step) (told : Told) → more_steps number r count step ≡ Ok told
    → (told ≡ goes_on (made (r.steps ++ replicate count step) (r.events ++ []))) × (length (r.steps ++ replicate count step) ≤ 1000000)
steps_found number r count step told h =
    either ((told ≡ goes_on (made (r.steps ++ replicate count step) (r.events ++ []))) × (length (r.steps ++ replicate count step) ≤ 1000000))
    (nat_lt 1000000 (length r.steps + count)) (Err (Line number)) (Ok (goes_on (with_steps r (replicate count step)))) (Ok told) h
    (λ many e. absurd cc)
    (λ few e.
    let same : told ≡ goes_on (with_steps r (replicate count step)) = sym (ok_is e) in
    let low = ltb-false 1000000 (length r.steps + count) few in
    (same ∙ ap (λ (events : List Event). goes_on (made (r.steps ++ replicate count step) events)) (sym (append-nil r.events)), omega (arith, low, length-append r.steps (replicate count step), length-replicate count step)))

added_found : (number : ℕ) (r : Record) (entry : Entry) (told : Told) → GoesOn entry → length r.steps ≤ 1000000 → with_entry number r entry ≡ Ok told → IsAdded r entry told
added_found number r (Go thread count) told on few h = steps_found number r count (plain thread) told h
added_found number r (Answer thread answer) told on few h = steps_found number r 1 (answered thread answer) told h
added_found number r (Seen event) told on few h =
    (sym (ok_is h) ∙ ap (λ (steps : List Step). goes_on (made steps (r.events ++ event ∷ []))) (sym (append-nil r.steps)), subst (λ (steps : List Step). length steps ≤ 1000000) (sym (append-nil r.steps)) few)
added_found number r End told on few h = absurd on

-- ---- again

lines_again : (library : Library) (last : List ℕ) → EncodesEnd (pieces 32 last) → (lines : List (List ℕ)) (entries : List Entry) (number : ℕ) (r : Record) → AreEntries library lines entries
    → length (r.steps ++ flat_map steps_of entries) ≤ 1000000 → after_lines library number r (lines ++ last ∷ [] ∷ []) ≡ Ok (with_all r entries)
unfolding after_line
lines_again library last end [] [] number r are few = rw (entry_again library (pieces 32 last) End end) (ap Ok (with_none r))
lines_again library last end [] (entry ∷ entries) number r are few = absurd are
lines_again library last end (line ∷ lines) [] number r are few = absurd are
lines_again library last end (line ∷ lines) (entry ∷ entries) number r are few =
    let steps : length ((r.steps ++ steps_of entry) ++ flat_map steps_of entries) ≤ 1000000 = subst (λ (ss : List Step). length ss ≤ 1000000) (sym (append_assoc r.steps (steps_of entry) (flat_map steps_of entries))) few in
    let fewer : length (r.steps ++ steps_of entry) ≤ 1000000 = omega (arith, steps, length-append (r.steps ++ steps_of entry) (flat_map steps_of entries)) in
    rw (some_line lines last ([] ∷ []), entry_again library (pieces 32 line) entry are.0, entry_added number r entry are.1 fewer)
    (lines_again library last end lines entries (number + 1) (added r entry) are.2 steps ∙ ap Ok (with_more r entry entries))

pub text_again : (listing : Listing) (text : List ℕ) (r : Record) → EncodesRecord listing text r → reading text listing ≡ Ok r
unfolding reading
text_again listing text r s =
    let few : length (record_of s.entries).steps ≤ 1000000 = subst (λ (x : Record). length x.steps ≤ 1000000) s.told s.few in
    ap (after_lines (library_of listing) 1 empty_record) s.ended ∙ lines_again (library_of listing) s.last s.over s.lines s.entries 1 empty_record s.encoded few ∙ ap Ok (sym s.told)

-- ---- found

-- what is read after a record
record IsRead (library : Library) (r out : Record) (parts : List (List ℕ)) : Type 0 where
  lines : List (List ℕ)
  last : List ℕ
  entries : List Entry
  ended : parts ≡ lines ++ last ∷ [] ∷ []
  encoded : AreEntries library lines entries
  over : EncodesEnd (pieces 32 last)
  told : out ≡ with_all r entries
  few : length out.steps ≤ 1000000

none_is : (xs : List (List ℕ)) → is_none xs ≡ true → xs ≡ []
none_is [] e = refl
none_is (x ∷ xs) e = absurd (false≢true e)

empty_is : (xs : List ℕ) → is_none xs ≡ true → xs ≡ []
empty_is [] e = refl
empty_is (x ∷ xs) e = absurd (false≢true e)

over_is : (rest : List (List ℕ)) → is_none rest ≡ false → is_over rest ≡ true → rest ≡ [] ∷ []
over_is [] some e = absurd (false≢true (sym some))
over_is (last ∷ rest) some e = let parts = and_parts (is_none last) (is_none rest) e in ap₂ (λ (x : List ℕ) (xs : List (List ℕ)). x ∷ xs) (empty_is last parts.0) (none_is rest parts.1)

abbrev Others : Library → List (List ℕ) → Type 0
Others library rest = (number : ℕ) (r out : Record) → length r.steps ≤ 1000000 → after_lines library number r rest ≡ Ok out → IsRead library r out rest

module _ (library : Library) (line : List ℕ) (rest : List (List ℕ)) (clear : AllByRecursion HasNoBreak (pieces 32 line)) (some : is_none rest ≡ false) (others : Others library rest) (number : ℕ) (r out : Record) (few : length r.steps ≤ 1000000) where
  abbrev after : Told → Result Record RecordFault
  after told = cond told.is_last (over number told.after rest) (after_lines library (number + 1) told.after rest)

  ends : (told : Told) → EncodesEnd (pieces 32 line) → ended r ≡ told → after told ≡ Ok out → IsRead library r out (line ∷ rest)
  ends told end same h =
      either (IsRead library r out (line ∷ rest)) (is_over rest) (Ok r) (Err (Line (number + 1))) (Ok out) (subst (λ (t : Told). after t ≡ Ok out) (sym same) h)
      (λ nothing e.
      let all : line ∷ rest ≡ line ∷ [] ∷ [] = ap (λ (xs : List (List ℕ)). line ∷ xs) (over_is rest some nothing) in
      record {
        lines = [];
        last = line;
        entries = [];
        ended = all;
        encoded = tt;
        over = end;
        told = sym (ok_is e) ∙ with_none r;
        few = subst (λ (x : Record). length x.steps ≤ 1000000) (ok_is e) few;
      })
      (λ nothing e. absurd cc)

  goes : (entry : Entry) (told : Told) → GoesOn entry → EncodesEntry library (pieces 32 line) entry → with_entry number r entry ≡ Ok told → after told ≡ Ok out → IsRead library r out (line ∷ rest)
  goes entry told on encoded is h =
      let step = added_found number r entry told on few is in
      let later = others (number + 1) (added r entry) out step.1 (subst (λ (t : Told). after t ≡ Ok out) step.0 h) in
      record {
        lines = line ∷ later.lines;
        last = later.last;
        entries = entry ∷ later.entries;
        ended = ap (λ (xs : List (List ℕ)). line ∷ xs) later.ended;
        encoded = (encoded, on, later.encoded);
        over = later.over;
        told = later.told ∙ with_more r entry later.entries;
        few = later.few;
      }

  line_found : (read : Read Entry) (told : Told) → entry_of library (pieces 32 line) ≡ read → with_read number r read ≡ Ok told → after told ≡ Ok out → IsRead library r out (line ∷ rest)
  line_found (Err e) told is with h = absurd cc
  line_found (Ok (Go thread count)) told is taken h = goes (Go thread count) told tt (entry_found library (pieces 32 line) (Go thread count) clear is) taken h
  line_found (Ok (Answer thread answer)) told is taken h = goes (Answer thread answer) told tt (entry_found library (pieces 32 line) (Answer thread answer) clear is) taken h
  line_found (Ok (Seen event)) told is taken h = goes (Seen event) told tt (entry_found library (pieces 32 line) (Seen event) clear is) taken h
  line_found (Ok End) told is taken h = ends told (entry_found library (pieces 32 line) End clear is) (ok_is taken) h

lines_found : (library : Library) (parts : List (List ℕ)) → AllByRecursion (AllByRecursion (λ b. b ≢ 10)) parts → Others library parts
unfolding after_line
lines_found library [] clear number r out few h = absurd cc
lines_found library (line ∷ rest) clear number r out few h =
    either (IsRead library r out (line ∷ rest)) (is_none rest) (Err (Line number)) (with_read number r (entry_of library (pieces 32 line)) >>= λ told. cond told.is_last (over number told.after rest) (after_lines library (number + 1) told.after rest)) (Ok out) h
    (λ none e. absurd cc)
    (λ some e.
    let read = then_ok (with_read number r (entry_of library (pieces 32 line))) (λ told. cond told.is_last (over number told.after rest) (after_lines library (number + 1) told.after rest)) out e in
    line_found library line rest (words_have_no_break line clear.0) some (lines_found library rest clear.1) number r out few (entry_of library (pieces 32 line)) read.0 refl read.1 read.2)

pub text_found : (listing : Listing) (text : List ℕ) (r : Record) → reading text listing ≡ Ok r → EncodesRecord listing text r
unfolding reading
text_found listing text r h =
    let read = lines_found (library_of listing) (pieces 10 text) (lines_have_no_newline text) 1 empty_record r (omega arith) h in
    record { lines = read.lines; last = read.last; entries = read.entries; ended = read.ended; encoded = read.encoded; over = read.over; told = read.told; few = read.few }

-- ---- a call that answers what is read

pub answer_found : (listing : Listing) (text : List ℕ) (result : Result Record RecordFault) → Answers Memory result (reading text listing) → IfOk result (λ r. EncodesRecord listing text r)
answer_found listing text (Ok r) h = text_found listing text r h
answer_found listing text (Err e) h = tt

refused : (e : RecordFault) (r : Record) (read : Result Record RecordFault) → Fails Memory e read → read ≡ Ok r → e ≡ Memory
refused Memory r read h is = refl
refused (Line line) r read h is = let told : read ≡ Err (Line line) = h (λ same. cc) in absurd cc

pub answer_only : (listing : Listing) (text : List ℕ) (result : Result Record RecordFault) → Answers Memory result (reading text listing) → (r : Record) → EncodesRecord listing text r → MatchResult result (λ x. x ≡ r) (λ e. e ≡ Memory)
answer_only listing text (Ok x) h r s = ok_is (sym h ∙ text_again listing text r s)
answer_only listing text (Err e) h r s = refused e r (reading text listing) h (text_again listing text r s)
