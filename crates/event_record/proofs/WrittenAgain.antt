-- What is written of a run is read as that run.
use Rattle.std.proofs.Common.{◌≡◌, ◌≢◌, ℕ, suc, ◌<◌, ◌≤◌, ◌^◌, Bool, true, false, cond, List, [], ◌∷◌, ◌++◌, length, map, replicate, Option, Some, None, Ok, refl, sym, ap, ap₂, ◌∙◌, subst, arith, append_assoc, length-append}
use Rattle.std.specs.Prelude.{◌==◌, codes, decimal, IfSome}
use Rattle.std.specs.List.{AllByRecursion, cons_option, filter_map, flat_map}
use Rattle.std.proofs.lemmas.Bool.{eqb-true}
use Rattle.std.proofs.lemmas.List.{length-map, length-replicate}
use Rattle.std.proofs.lemmas.List.Splits.{slice_split_at}
use Rattle.api_listing.specs.Words.{pieces}
use Rattle.api_listing.specs.declared.events.ApiAnswer.{ApiAnswer}
use Rattle.api_listing.specs.declared.events.ApiAnswer.TheVariants as answers
use Rattle.api_listing.specs.declared.events.Event.{Event}
use Rattle.api_listing.specs.declared.types.Listing.{Listing}
use Rattle.guest_model.specs.declared.machine.Choice.{Choice}
use Rattle.guest_model.specs.declared.machine.Choice.TheVariants.{Plain, Answer as Answered}
use Rattle.guest_model.specs.declared.machine.Step.{Step}
use Rattle.event_record.specs.declared.entry.Entry.{Entry}
use Rattle.event_record.specs.declared.entry.Entry.TheVariants.{Go, Answer, Seen, End}
use Rattle.event_record.specs.declared.writing.EndLine.{EndLine}
use Rattle.event_record.specs.declared.writing.EndLine.TheVariants as ends
use Rattle.event_record.specs.declared.writing.Line.{Line}
use Rattle.event_record.specs.Again.{IsPrinted, end_line}
use Rattle.event_record.specs.Library.{Library, library_of}
use Rattle.event_record.specs.Printing.{HasNoBreak, following, event_text}
use Rattle.event_record.specs.Record.{plain, reading}
use Rattle.event_record.specs.Encoding.{AreEntries, Ending, GoesOn, IsAnswer, IsEnding, IsStopValue, EncodesEntry, answer_words, ending_words, events_of, steps_of, steps_told}
use Rattle.event_record.specs.Writing.{IsChoice, IsTold, NamesWord, choice_before, ending_of, entries_of, entry_line, event_before, plain_before, record_text, run_of}
use Rattle.event_record.proofs.EventsAgain.{line_is_whole, line_words, spaced_is, spaced_pieces}
use Rattle.event_record.proofs.RecordsAgain.{end_has_words, end_is_encoded, end_text}
use Rattle.event_record.proofs.TextLaws.{made, text_again}
use Rattle.event_record.proofs.Unbroken.{decimal_word, hex_word, in_line, no_newline, signed_word, written}

-- ---- words

answer_has_words : (library : Library) (answer : ApiAnswer) → IsAnswer library answer → NamesWord answer → AllByRecursion HasNoBreak (answer_words answer)
answer_has_words library answers.Nothing is names = (written (codes "nothing") refl, tt)
answer_has_words library (answers.Int n) is names = (written (codes "int") refl, (signed_word n is, tt))
answer_has_words library answers.Null is names = (written (codes "null") refl, tt)
answer_has_words library (answers.Text bytes) is names = (written (codes "text") refl, (hex_word bytes, tt))
answer_has_words library (answers.Fresh class) is names = (written (codes "fresh") refl, (names, tt))
answer_has_words library (answers.Arg place) is names = (written (codes "arg") refl, (decimal_word place (omega (arith, is)), tt))
answer_has_words library answers.Receiver is names = (written (codes "receiver") refl, tt)
answer_has_words library (answers.Throws class) is names = (written (codes "throws") refl, (names, tt))

-- a line before its newline
abbrev unended : List ℕ → List (List ℕ) → List ℕ
unended verb words = verb ++ flat_map following words

words_in : (verb : List ℕ) (words : List (List ℕ)) → HasNoBreak verb → AllByRecursion HasNoBreak words → pieces 32 (unended verb words) ≡ verb ∷ words
words_in verb words clear all = ap (pieces 32) (spaced_is verb words) ∙ spaced_pieces verb words clear all

whole_line : (verb : List ℕ) (words : List (List ℕ)) → HasNoBreak verb → AllByRecursion HasNoBreak words → AllByRecursion (λ b. b ≢ 10) (unended verb words)
whole_line verb words clear all = subst (AllByRecursion (λ b. b ≢ 10)) (sym (spaced_is verb words)) (in_line (verb ∷ words) (clear, all))

-- ---- the steps and the events

plain_steps : (thread : ℕ) (entries : List Entry) → flat_map steps_of (plain_before thread entries) ≡ plain thread ∷ flat_map steps_of entries
plain_steps thread [] = refl
plain_steps thread (Go other count ∷ entries) = by (thread == other) refl where
  by : (b : Bool) → (thread == other) ≡ b
      → flat_map steps_of (cond b (Go other (suc count) ∷ entries) (Go thread 1 ∷ Go other count ∷ entries)) ≡ plain thread ∷ (replicate count (plain other) ++ flat_map steps_of entries)
  by true same = ap (λ (t : ℕ). plain t ∷ (replicate count (plain other) ++ flat_map steps_of entries)) (sym (eqb-true thread other same))
  by false same = refl
plain_steps thread (Answer other answer ∷ entries) = refl
plain_steps thread (Seen event ∷ entries) = refl
plain_steps thread (End ∷ entries) = refl

abbrev step_of : ℕ → Choice → Step
step_of thread choice = record { thread = thread; choice = choice }

choice_steps : (thread : ℕ) (choice : Choice) (entries : List Entry) → flat_map steps_of (choice_before thread choice entries) ≡ step_of thread choice ∷ flat_map steps_of entries
choice_steps thread Plain entries = plain_steps thread entries
choice_steps thread (Answered answer) entries = refl

event_steps : (event : Option Event) (entries : List Entry) → flat_map steps_of (event_before event entries) ≡ flat_map steps_of entries
event_steps None entries = refl
event_steps (Some event) entries = refl

all_steps : (lines : List Line) → map (λ line. line.step) lines ≡ flat_map steps_of (entries_of lines)
all_steps [] = refl
all_steps (line ∷ lines) =
    ap (λ (steps : List Step). line.step ∷ steps) (all_steps lines ∙ sym (event_steps line.event (entries_of lines)))
    ∙ sym (choice_steps line.step.thread line.step.choice (event_before line.event (entries_of lines)))

plain_events : (thread : ℕ) (entries : List Entry) → flat_map events_of (plain_before thread entries) ≡ flat_map events_of entries
plain_events thread [] = refl
plain_events thread (Go other count ∷ entries) = by (thread == other) where
  by : (b : Bool) → flat_map events_of (cond b (Go other (suc count) ∷ entries) (Go thread 1 ∷ Go other count ∷ entries)) ≡ flat_map events_of entries
  by true = refl
  by false = refl
plain_events thread (Answer other answer ∷ entries) = refl
plain_events thread (Seen event ∷ entries) = refl
plain_events thread (End ∷ entries) = refl

choice_events : (thread : ℕ) (choice : Choice) (entries : List Entry) → flat_map events_of (choice_before thread choice entries) ≡ flat_map events_of entries
choice_events thread Plain entries = plain_events thread entries
choice_events thread (Answered answer) entries = refl

event_events : (event : Option Event) (entries : List Entry) → cons_option event (flat_map events_of entries) ≡ flat_map events_of (event_before event entries)
event_events None entries = refl
event_events (Some event) entries = refl

all_events : (lines : List Line) → filter_map (λ line. line.event) lines ≡ flat_map events_of (entries_of lines)
all_events [] = refl
all_events (line ∷ lines) =
    ap (cons_option line.event) (all_events lines) ∙ event_events line.event (entries_of lines)
    ∙ sym (choice_events line.step.thread line.step.choice (event_before line.event (entries_of lines)))

-- ---- the end

told_is : (end : EndLine) (n : ℕ) → steps_told (ending_of end n) ≡ n
told_is ends.Finished n = refl
told_is ends.Deadlock n = refl
told_is (ends.Stopped value) n = refl
told_is ends.Budget n = refl
told_is ends.Device n = refl
told_is ends.Running n = refl

is_ending : (end : EndLine) (n : ℕ) → n ≤ 1000000 → IsStopValue (ending_of end n) → IsEnding (ending_of end n)
is_ending end n few value = record { count = subst (λ (m : ℕ). m < 2 ^ 63) (sym (told_is end n)) (omega (arith, few)); value = value }

-- ---- the entries and their lines

module _ (listing : Listing) where
  -- the entry is not the end, and a record over the listing can tell it
  abbrev IsGood : Entry → Type 0
  IsGood (Go thread count) = (thread < 2 ^ 32) × (0 < count)
  IsGood (Answer thread answer) = (thread < 2 ^ 32) × IsAnswer (library_of listing) answer × NamesWord answer
  IsGood (Seen event) = IsPrinted (library_of listing) listing.methods event
  IsGood End = ⊥

  abbrev AllGood : List Entry → Type 0
  AllGood entries = AllByRecursion IsGood entries

  plain_good : (thread : ℕ) → thread < 2 ^ 32 → (entries : List Entry) → AllGood entries → AllGood (plain_before thread entries)
  plain_good thread small [] all = ((small, omega arith), tt)
  plain_good thread small (Go other count ∷ entries) all = by (thread == other) where
    by : (b : Bool) → AllGood (cond b (Go other (suc count) ∷ entries) (Go thread 1 ∷ Go other count ∷ entries))
    by true = ((all.0.0, omega arith), all.1)
    by false = ((small, omega arith), all)
  plain_good thread small (Answer other answer ∷ entries) all = ((small, omega arith), all)
  plain_good thread small (Seen event ∷ entries) all = ((small, omega arith), all)
  plain_good thread small (End ∷ entries) all = absurd all.0

  choice_good : (thread : ℕ) (choice : Choice) → thread < 2 ^ 32 → IsChoice (library_of listing) choice → (entries : List Entry) → AllGood entries → AllGood (choice_before thread choice entries)
  choice_good thread Plain small is entries all = plain_good thread small entries all
  choice_good thread (Answered answer) small is entries all = ((small, is.0, is.1), all)

  event_good : (event : Option Event) → IfSome event (IsPrinted (library_of listing) listing.methods) → (entries : List Entry) → AllGood entries → AllGood (event_before event entries)
  event_good None is entries all = all
  event_good (Some event) is entries all = (is, all)

  all_good : (lines : List Line) → AllByRecursion (IsTold listing) lines → AllGood (entries_of lines)
  all_good [] told = tt
  all_good (line ∷ lines) told =
      choice_good line.step.thread line.step.choice told.0.numbered told.0.choice (event_before line.event (entries_of lines))
      (event_good line.event told.0.event (entries_of lines) (all_good lines told.1))

  -- the line of an entry before its newline
  abbrev entry_text : Entry → List ℕ
  entry_text (Go thread count) = unended (codes "go") (decimal thread ∷ decimal count ∷ [])
  entry_text (Answer thread answer) = unended (codes "answer") (decimal thread ∷ answer_words answer)
  entry_text (Seen event) = event_text listing.methods event
  entry_text End = []

  record IsLine (entry : Entry) : Type 0 where
    ended : entry_line listing.methods entry ≡ entry_text entry ++ 10 ∷ []
    whole : AllByRecursion (λ b. b ≢ 10) (entry_text entry)
    encoded : EncodesEntry (library_of listing) (pieces 32 (entry_text entry)) entry
    on : GoesOn entry

  is_line : (entry : Entry) → IsGood entry → length (steps_of entry) ≤ 1000000 → IsLine entry
  is_line (Go thread count) good few =
      let low : count ≤ 1000000 = subst (λ (n : ℕ). n ≤ 1000000) (length-replicate count (plain thread)) few in
      let verb = written (codes "go") refl in
      let all = decimal thread ∷ decimal count ∷ [] in
      let words : AllByRecursion HasNoBreak all = (decimal_word thread (omega (arith, good.0)), (decimal_word count (omega (arith, low)), tt)) in
      record {
        ended = refl;
        whole = whole_line (codes "go") all verb words;
        encoded = record { encoded = words_in (codes "go") all verb words; numbered = good.0; some = good.1; few = omega (arith, low) };
        on = tt;
      }
  is_line (Answer thread answer) good few =
      let verb = written (codes "answer") refl in
      let all = decimal thread ∷ answer_words answer in
      let words : AllByRecursion HasNoBreak all = (decimal_word thread (omega (arith, good.0)), answer_has_words (library_of listing) answer good.1 good.2) in
      record {
        ended = refl;
        whole = whole_line (codes "answer") all verb words;
        encoded = record { encoded = words_in (codes "answer") all verb words; numbered = good.0; is = good.1 };
        on = tt;
      }
  is_line (Seen event) good few =
      record {
        ended = refl;
        whole = line_is_whole listing.methods good.method (library_of listing) event good.there good.is good.words;
        encoded = record { id = good.method.id; encoded = line_words listing.methods good.method (library_of listing) event good.there good.is good.words; is = good.is };
        on = tt;
      }
  is_line End good few = absurd good

  abbrev IsFew : List Entry → Type 0
  IsFew entries = length (flat_map steps_of entries) ≤ 1000000

  first_few : (entry : Entry) (entries : List Entry) → IsFew (entry ∷ entries) → length (steps_of entry) ≤ 1000000
  first_few entry entries few = omega (arith, few, length-append (steps_of entry) (flat_map steps_of entries))

  rest_few : (entry : Entry) (entries : List Entry) → IsFew (entry ∷ entries) → IsFew entries
  rest_few entry entries few = omega (arith, few, length-append (steps_of entry) (flat_map steps_of entries))

  are_entries : (entries : List Entry) → AllGood entries → IsFew entries → AreEntries (library_of listing) (map entry_text entries) entries
  are_entries [] all few = tt
  are_entries (entry ∷ entries) all few =
      let is = is_line entry all.0 (first_few entry entries few) in
      (is.encoded, is.on, are_entries entries all.1 (rest_few entry entries few))

  module _ (ending : Ending) (end : IsEnding ending) where
    abbrev text_of : List Entry → List ℕ
    text_of entries = flat_map (entry_line listing.methods) entries ++ end_line ending

    lines_are : (entries : List Entry) → AllGood entries → IsFew entries → pieces 10 (text_of entries) ≡ map entry_text entries ++ end_text ending ∷ [] ∷ []
    lines_are [] all few =
        slice_split_at (λ b. b == 10) (end_text ending) 10 [] (no_newline (end_text ending) (in_line (ending_words ending) (end_has_words ending end))) refl
    lines_are (entry ∷ entries) all few =
        let is = is_line entry all.0 (first_few entry entries few) in
        let line = entry_text entry in
        let apart : text_of (entry ∷ entries) ≡ line ++ 10 ∷ text_of entries =
        append_assoc (entry_line listing.methods entry) (flat_map (entry_line listing.methods) entries) (end_line ending)
        ∙ ap (λ (t : List ℕ). t ++ text_of entries) is.ended ∙ append_assoc line (10 ∷ []) (text_of entries) in
        ap (pieces 10) apart ∙ slice_split_at (λ b. b == 10) line 10 (text_of entries) (no_newline line is.whole) refl
        ∙ ap (λ (lines : List (List ℕ)). line ∷ lines) (lines_are entries all.1 (rest_few entry entries few))

  pub run_again : (lines : List Line) (end : EndLine) → AllByRecursion (IsTold listing) lines → length lines ≤ 1000000 → IsStopValue (ending_of end (length lines))
      → reading (record_text listing lines end) listing ≡ Ok (run_of lines)
  run_again lines end told few value =
      let entries = entries_of lines in
      let ending = ending_of end (length lines) in
      let is = is_ending end (length lines) few value in
      let good = all_good lines told in
      let steps : length (map (λ (line : Line). line.step) lines) ≤ 1000000 = subst (λ (n : ℕ). n ≤ 1000000) (sym (length-map lines (λ (line : Line). line.step))) few in
      let fewer : IsFew entries = subst (λ (ss : List Step). length ss ≤ 1000000) (all_steps lines) steps in
      text_again listing (record_text listing lines end) (run_of lines) (record {
        lines = map entry_text entries;
        last = end_text ending;
        entries = entries;
        ended = lines_are ending is entries good fewer;
        encoded = are_entries entries good fewer;
        over = end_is_encoded ending is;
        told = ap₂ made (all_steps lines) (all_events lines);
        few = steps;
      })
