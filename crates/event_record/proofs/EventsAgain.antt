-- What is printed is read again: the lines of events.
use Rattle.std.proofs.Common.{◌≡◌, ◌≢◌, ℕ, List, [], ◌∷◌, ◌++◌, map, Option, Some, None, Ok, refl, sym, ap, subst, ◌∙◌, append_assoc, arith}
use Rattle.std.specs.Prelude.{◌==◌, codes, decimal, slice_get}
use Rattle.std.specs.List.{AllByRecursion, flat_map, join_with_byte}
use Rattle.std.proofs.lemmas.List.Splits.{slice_split_at, slice_split_none}
use Rattle.mon_base.specs.Reading.{◌>>=◌}
use Rattle.mon_base.specs.declared.method.MethodId.{MethodId}
use Rattle.api_listing.specs.Fault.{Read}
use Rattle.api_listing.specs.Words.{pieces}
use Rattle.api_listing.specs.declared.events.ApiValue.{ApiValue}
use Rattle.api_listing.specs.declared.events.Event.{Event}
use Rattle.api_listing.specs.declared.events.Event.TheVariants.{Call, Return, Except}
use Rattle.api_listing.specs.declared.types.ListedMethod.{ListedMethod}
use Rattle.event_record.specs.declared.entry.Entry.TheVariants.{Seen}
use Rattle.event_record.specs.Again.{IsPrinted}
use Rattle.event_record.specs.Entry.{call_event, entry_of, event_line, event_of, except_event, line_of, method_event, result_of, return_event, values_from}
use Rattle.event_record.specs.Library.{Library}
use Rattle.event_record.specs.Printing.{HasNoBreak, IsEventOf, IsInWords, IsValue, following, event_text, event_words, method_listed, result_after, result_words, value_after}
use Rattle.event_record.specs.Value.{value_word}
use Rattle.event_record.proofs.Again.{index_again, value_again}
use Rattle.event_record.proofs.Unbroken.{decimal_word, in_line, no_space, value_is_word, values_are_words, written}

-- ---- words

-- words with a space between two
abbrev pub spaced : List ℕ → List (List ℕ) → List ℕ
spaced word words = join_with_byte 32 (word ∷ words)

pub spaced_pieces : (word : List ℕ) (words : List (List ℕ)) → HasNoBreak word → AllByRecursion HasNoBreak words → pieces 32 (spaced word words) ≡ word ∷ words
spaced_pieces word [] clear all = slice_split_none (λ b. b == 32) word (no_space word clear)
spaced_pieces word (next ∷ words) clear all =
    slice_split_at (λ b. b == 32) word 32 (spaced next words) (no_space word clear) refl ∙ ap (λ (ws : List (List ℕ)). word ∷ ws) (spaced_pieces next words all.0 all.1)

append_none : (xs : List ℕ) → xs ++ [] ≡ xs
append_none [] = refl
append_none (x ∷ xs) = ap (λ (t : List ℕ). x ∷ t) (append_none xs)

-- the same as each word after a space
pub spaced_is : (word : List ℕ) (words : List (List ℕ)) → word ++ flat_map following words ≡ spaced word words
spaced_is word [] = append_none word
spaced_is word (next ∷ words) = ap (λ (t : List ℕ). word ++ 32 ∷ t) (spaced_is next words)

values_are : (values : List ApiValue) → flat_map value_after values ≡ flat_map following (map value_word values)
values_are [] = refl
values_are (v ∷ values) = ap (λ (t : List ℕ). value_after v ++ t) (values_are values)

-- a method's words after the verb and the thread
head_is : (verb thread class name desc rest : List ℕ) → (verb ++ following thread ++ (following class ++ following name ++ following desc)) ++ rest ≡ verb ++ (following thread ++ (following class ++ (following name ++ (following desc ++ rest))))
head_is verb thread class name desc rest = simp append_assoc

-- ---- readings

values_again : (done values : List ApiValue) → AllByRecursion IsValue values → values_from done (map value_word values) ≡ Ok (done ++ values)
values_again done [] all = ap Ok (sym (none_after done)) where
  none_after : (xs : List ApiValue) → xs ++ [] ≡ xs
  none_after [] = refl
  none_after (x ∷ xs) = ap (λ (t : List ApiValue). x ∷ t) (none_after xs)
values_again done (v ∷ values) all =
    ap (λ (r : Read ApiValue). r >>= λ x. values_from (done ++ x ∷ []) (map value_word values)) (value_again v all.0)
    ∙ values_again (done ++ v ∷ []) values all.1 ∙ ap Ok (append_assoc done (v ∷ []) values)

pub words_again : (library : Library) (id : MethodId) (event : Event) → IsEventOf library id event → entry_of library (event_words id event) ≡ Ok (Seen event)
unfolding entry_of line_of event_line method_event event_of call_event return_event except_event result_of
words_again library id (Call thread method args) is = rw (index_again thread is.numbered, is.there, values_again [] args is.given) refl
words_again library id (Return thread method None) is = rw (index_again thread is.numbered, is.there, is.given) refl
words_again library id (Return thread method (Some value)) is = rw (index_again thread is.numbered, is.there, is.given.0, value_again value is.given.1) refl
words_again library id (Except thread method) is = rw (index_again thread is.numbered, is.there) refl

-- ---- texts

-- the first word of an event, and those after it
abbrev verb_of : Event → List ℕ
verb_of (Call thread method args) = codes "call"
verb_of (Return thread method value) = codes "return"
verb_of (Except thread method) = codes "except"

abbrev others_of : MethodId → Event → List (List ℕ)
others_of id (Call thread method args) = decimal thread ∷ id.class ∷ id.name ∷ id.desc ∷ map value_word args
others_of id (Return thread method value) = decimal thread ∷ id.class ∷ id.name ∷ id.desc ∷ result_words value
others_of id (Except thread method) = decimal thread ∷ id.class ∷ id.name ∷ id.desc ∷ []

verb_is_word : (event : Event) → HasNoBreak (verb_of event)
verb_is_word (Call thread method args) = written (codes "call") refl
verb_is_word (Return thread method value) = written (codes "return") refl
verb_is_word (Except thread method) = written (codes "except") refl

others_are_words : (library : Library) (id : MethodId) → IsInWords id → (event : Event) → IsEventOf library id event → AllByRecursion HasNoBreak (others_of id event)
others_are_words library id whole (Call thread method args) is =
    (decimal_word thread (omega (arith, is.numbered)), (whole.class, (whole.name, (whole.desc, values_are_words args is.given))))
others_are_words library id whole (Return thread method None) is =
    (decimal_word thread (omega (arith, is.numbered)), (whole.class, (whole.name, (whole.desc, tt))))
others_are_words library id whole (Return thread method (Some value)) is =
    (decimal_word thread (omega (arith, is.numbered)), (whole.class, (whole.name, (whole.desc, (value_is_word value is.given.1, tt)))))
others_are_words library id whole (Except thread method) is =
    (decimal_word thread (omega (arith, is.numbered)), (whole.class, (whole.name, (whole.desc, tt))))

words_are : (id : MethodId) (event : Event) → event_words id event ≡ verb_of event ∷ others_of id event
words_are id (Call thread method args) = refl
words_are id (Return thread method value) = refl
words_are id (Except thread method) = refl

result_is : (value : Option ApiValue) → result_after value ≡ flat_map following (result_words value)
result_is None = refl
result_is (Some value) = sym (append_none (value_after value))

module _ (methods : List ListedMethod) (m : ListedMethod) where
  abbrev with_head : List ℕ → ℕ → List ℕ → List ℕ
  with_head verb thread rest = verb ++ (following (decimal thread) ++ (following m.id.class ++ (following m.id.name ++ (following m.id.desc ++ rest))))

  text_is : (event : Event) → slice_get methods (method_listed event) ≡ Some m → event_text methods event ≡ verb_of event ++ flat_map following (others_of m.id event)
  text_is (Call thread method args) there =
      rw there (head_is (codes "call") (decimal thread) m.id.class m.id.name m.id.desc (flat_map value_after args) ∙ ap (with_head (codes "call") thread) (values_are args))
  text_is (Return thread method value) there =
      rw there (head_is (codes "return") (decimal thread) m.id.class m.id.name m.id.desc (result_after value) ∙ ap (with_head (codes "return") thread) (result_is value))
  text_is (Except thread method) there =
      rw there (sym (append_none (codes "except" ++ following (decimal thread) ++ (following m.id.class ++ following m.id.name ++ following m.id.desc))) ∙ head_is (codes "except") (decimal thread) m.id.class m.id.name m.id.desc [])

  module _ (library : Library) (event : Event) (there : slice_get methods (method_listed event) ≡ Some m) (is : IsEventOf library m.id event) (whole : IsInWords m.id) where
    text_spaced : event_text methods event ≡ spaced (verb_of event) (others_of m.id event)
    text_spaced = text_is event there ∙ spaced_is (verb_of event) (others_of m.id event)

    clear : AllByRecursion HasNoBreak (verb_of event ∷ others_of m.id event)
    clear = (verb_is_word event, others_are_words library m.id whole event is)

    -- the words of the line are those of the event
    pub line_words : pieces 32 (event_text methods event) ≡ event_words m.id event
    line_words = ap (pieces 32) text_spaced ∙ spaced_pieces (verb_of event) (others_of m.id event) clear.0 clear.1 ∙ sym (words_are m.id event)

    pub line_is_whole : AllByRecursion (λ b. b ≢ 10) (event_text methods event)
    line_is_whole = subst (AllByRecursion (λ b. b ≢ 10)) (sym text_spaced) (in_line (verb_of event ∷ others_of m.id event) clear)

pub event_again : (library : Library) (methods : List ListedMethod) (event : Event) → IsPrinted library methods event → entry_of library (pieces 32 (event_text methods event)) ≡ Ok (Seen event)
event_again library methods event is =
    ap (entry_of library) (line_words methods is.method library event is.there is.is is.words) ∙ words_again library is.method.id event is.is
