-- What is printed is read again: the lines of events with an end line after them.
use Rattle.std.proofs.Common.{◌≡◌, ℕ, ◌<◌, ◌^◌, List, [], ◌∷◌, ◌++◌, length, map, Ok, refl, ap, ap₂, ◌∙◌, append_assoc, arith}
use Rattle.std.specs.Prelude.{◌==◌, codes, decimal}
use Rattle.std.specs.List.{AllByRecursion, flat_map, join_with_byte}
use Rattle.std.proofs.lemmas.List.Splits.{slice_split_at}
use Rattle.api_listing.specs.Words.{pieces}
use Rattle.api_listing.specs.declared.events.Event.{Event}
use Rattle.api_listing.specs.declared.types.Listing.{Listing}
use Rattle.guest_model.specs.declared.machine.Step.{Step}
use Rattle.event_record.specs.declared.entry.Entry.TheVariants.{Seen}
use Rattle.event_record.specs.declared.reading.Record.{Record}
use Rattle.event_record.specs.Again.{IsPrinted, end_line}
use Rattle.event_record.specs.Library.{library_of}
use Rattle.event_record.specs.Printing.{HasNoBreak, event_line, event_text}
use Rattle.event_record.specs.Record.{reading}
use Rattle.event_record.specs.Encoding.{AreEntries, Ending, Finished, Deadlock, Stopped, Budget, Device, Running, IsEnding, EncodesEnd, ending_words, events_of, steps_of}
use Rattle.event_record.proofs.EventsAgain.{line_is_whole, line_words, spaced_pieces}
use Rattle.event_record.proofs.TextLaws.{text_again}
use Rattle.event_record.proofs.Unbroken.{decimal_word, in_line, no_newline, signed_word, written}

-- ---- the end line

two : (kind : List ℕ) (n : ℕ) → HasNoBreak kind → n < 2 ^ 63 → AllByRecursion HasNoBreak (codes "end" ∷ kind ∷ decimal n ∷ [])
two kind n clear few = (written (codes "end") refl, (clear, (decimal_word n (omega (arith, few)), tt)))

pub end_has_words : (ending : Ending) → IsEnding ending → AllByRecursion HasNoBreak (ending_words ending)
end_has_words (Finished n) is = two (codes "finished") n (written (codes "finished") refl) is.count
end_has_words (Deadlock n) is = two (codes "deadlock") n (written (codes "deadlock") refl) is.count
end_has_words (Stopped value n) is =
    (written (codes "end") refl, (written (codes "stopped") refl, (signed_word value is.value, (decimal_word n (omega (arith, is.count)), tt))))
end_has_words (Budget n) is = two (codes "budget") n (written (codes "budget") refl) is.count
end_has_words (Device n) is = two (codes "device") n (written (codes "device") refl) is.count
end_has_words (Running n) is = two (codes "running") n (written (codes "running") refl) is.count

some_words : (ending : Ending) → 0 < length (ending_words ending)
some_words (Finished n) = omega arith
some_words (Deadlock n) = omega arith
some_words (Stopped value n) = omega arith
some_words (Budget n) = omega arith
some_words (Device n) = omega arith
some_words (Running n) = omega arith

joined_pieces : (words : List (List ℕ)) → 0 < length words → AllByRecursion HasNoBreak words → pieces 32 (join_with_byte 32 words) ≡ words
joined_pieces [] some clear = absurd (omega arith)
joined_pieces (word ∷ words) some clear = spaced_pieces word words clear.0 clear.1

abbrev pub end_text : Ending → List ℕ
end_text ending = join_with_byte 32 (ending_words ending)

pub end_is_encoded : (ending : Ending) → IsEnding ending → EncodesEnd (pieces 32 (end_text ending))
end_is_encoded ending is = record { ending = ending; encoded = joined_pieces (ending_words ending) (some_words ending) (end_has_words ending is); is = is }

-- ---- the entries

abbrev made : List Step → List Event → Record
made steps events = record { steps = steps; events = events }

no_steps : (events : List Event) → [] ≡ flat_map steps_of (map Seen events)
no_steps [] = refl
no_steps (event ∷ events) = no_steps events

all_events : (events : List Event) → events ≡ flat_map events_of (map Seen events)
all_events [] = refl
all_events (event ∷ events) = ap (λ (es : List Event). event ∷ es) (all_events events)

-- ---- the text

module _ (listing : Listing) (ending : Ending) (end : IsEnding ending) where
  abbrev line_of : Event → List ℕ
  line_of event = event_text listing.methods event

  abbrev AllPrinted : List Event → Type 0
  AllPrinted events = AllByRecursion (IsPrinted (library_of listing) listing.methods) events

  abbrev text_of : List Event → List ℕ
  text_of events = flat_map (event_line listing.methods) events ++ end_line ending

  lines_are : (events : List Event) → AllPrinted events → pieces 10 (text_of events) ≡ map line_of events ++ end_text ending ∷ [] ∷ []
  lines_are [] all =
      slice_split_at (λ b. b == 10) (end_text ending) 10 [] (no_newline (end_text ending) (in_line (ending_words ending) (end_has_words ending end))) refl
  lines_are (event ∷ events) all =
      let is = all.0 in
      let line = line_of event in
      let apart : text_of (event ∷ events) ≡ line ++ 10 ∷ text_of events =
      append_assoc (event_line listing.methods event) (flat_map (event_line listing.methods) events) (end_line ending) ∙ append_assoc line (10 ∷ []) (text_of events) in
      ap (pieces 10) apart
      ∙ slice_split_at (λ b. b == 10) line 10 (text_of events) (no_newline line (line_is_whole listing.methods is.method (library_of listing) event is.there is.is is.words)) refl
      ∙ ap (λ (lines : List (List ℕ)). line ∷ lines) (lines_are events all.1)

  are_entries : (events : List Event) → AllPrinted events → AreEntries (library_of listing) (map line_of events) (map Seen events)
  are_entries [] all = tt
  are_entries (event ∷ events) all =
      let is = all.0 in
      (record { id = is.method.id; encoded = line_words listing.methods is.method (library_of listing) event is.there is.is is.words; is = is.is }, tt, are_entries events all.1)

  pub events_again : (events : List Event) → AllPrinted events → reading (text_of events) listing ≡ Ok (made [] events)
  events_again events all =
      text_again listing (text_of events) (made [] events) (record {
        lines = map line_of events;
        last = end_text ending;
        entries = map Seen events;
        ended = lines_are events all;
        encoded = are_entries events all;
        over = end_is_encoded ending end;
        told = ap₂ made (no_steps events) (all_events events);
        few = omega arith;
      })
