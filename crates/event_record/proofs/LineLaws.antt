-- What is read of a line is encoded so, and what is encoded so is read.
use Rattle.std.proofs.Common.{◌≡◌, ℕ, ◌<◌, ◌^◌, ℤ, pos, negsuc, Bool, true, false, cond, List, [], ◌∷◌, ◌++◌, length, map, Option, Some, None, Ok, Err, refl, sym, ap, ◌∙◌, subst, arith, FitsSigned, append_assoc}
use Rattle.std.specs.Prelude.{◌&&◌, ◌||◌, ◌==◌, nat_lt, codes, decimal, ok_or}
use Rattle.std.specs.Fmt.{signed_decimal}
use Rattle.std.specs.Int.{w32, w64}
use Rattle.std.specs.List.{AllByRecursion}
use Rattle.std.specs.Option.{option_map_or}
use Rattle.std.proofs.lemmas.Bool.{and_parts, eqb-true, false≢true, lt-ltb, ltb-true}
use Rattle.std.proofs.lemmas.Int.{ints}
use Rattle.std.proofs.lemmas.List.{append-nil, nil_from_length}
use Rattle.mon_base.specs.Reading.{◌>>=◌, need}
use Rattle.mon_base.specs.declared.method.MethodId.{MethodId}
use Rattle.api_listing.specs.Fault.{Read}
use Rattle.api_listing.specs.declared.events.ApiAnswer.{ApiAnswer}
use Rattle.api_listing.specs.declared.events.ApiAnswer.TheVariants as answers
use Rattle.api_listing.specs.declared.events.ApiValue.{ApiValue}
use Rattle.api_listing.specs.declared.events.Event.TheVariants.{Call, Return, Except}
use Rattle.api_listing.specs.declared.fault.FormFault.TheVariants.{NoForm}
use Rattle.event_record.specs.declared.entry.Entry.{Entry}
use Rattle.event_record.specs.declared.entry.Entry.TheVariants.{Go, Answer, Seen, End}
use Rattle.event_record.specs.Entry.{answer_line, answer_of, answer_with, arg_answer, bare_answer, call_event, end_line, ends, entry_of, event_line, event_of, except_event, fresh_answer, gives_nothing, go_line, id_of, listed_index, int_answer, is, is_count, is_end, is_int, line_of, method_event, result_of, return_event, text_answer, throws_answer, values_from}
use Rattle.event_record.specs.Library.{Library}
use Rattle.event_record.specs.Number.{as_count, index_of, int_of, number_of}
use Rattle.event_record.specs.Printing.{HasNoBreak, IsGiven, IsValue, result_words}
use Rattle.event_record.specs.Encoding.{Ending, Finished, Deadlock, Stopped, Budget, Device, Running, IsAnswer, IsStopValue, EncodesEnd, EncodesEntry, EncodesEvent, answer_words, ending_words, steps_told}
use Rattle.event_record.specs.Value.{hex_at, value_at, value_word}
use Rattle.event_record.proofs.Again.{hex_again, index_again, int_again}
use Rattle.event_record.proofs.EventsAgain.{words_again}
use Rattle.event_record.proofs.Found.{either, hex_found, index_found, int_found, need_ok, ok_is, some_ok, text_is, then_ok, value_found}
use Rattle.event_record.proofs.Numbers.{number_again, number_found}

-- ---- found: steps

index_read : (word : List ℕ) (n : ℕ) → listed_index word ≡ Ok n → (word ≡ decimal n) × (n < 2 ^ 32)
index_read word n h = index_found word n (some_ok (index_of word) NoForm n h)

go_found : (library : Library) (thread count : List ℕ) (rest : List (List ℕ)) (entry : Entry) → go_line thread count rest ≡ Ok entry → EncodesEntry library (codes "go" ∷ thread ∷ count ∷ rest) entry
unfolding go_line
go_found library thread count rest entry h =
    let t = then_ok (listed_index thread) (λ t. listed_index count >>= λ n. need (nat_lt 0 n && length rest == 0) NoForm >>= λ ended. Ok (Go t n)) entry h in
    let n = then_ok (listed_index count) (λ n. need (nat_lt 0 n && length rest == 0) NoForm >>= λ ended. Ok (Go t.0 n)) entry t.2 in
    let e = then_ok (need (nat_lt 0 n.0 && length rest == 0) NoForm) (λ ended. Ok (Go t.0 n.0)) entry n.2 in
    let tests = and_parts (nat_lt 0 n.0) (length rest == 0) (need_ok (nat_lt 0 n.0 && length rest == 0) NoForm e.0 e.1) in
    let none : rest ≡ [] = nil_from_length rest (eqb-true (length rest) 0 tests.1) in
    let a = index_read thread t.0 t.1 in
    let b = index_read count n.0 n.1 in
    let words : codes "go" ∷ thread ∷ count ∷ rest ≡ codes "go" ∷ decimal t.0 ∷ decimal n.0 ∷ [] = cc in
    subst (EncodesEntry library (codes "go" ∷ thread ∷ count ∷ rest)) (ok_is e.2) (record { encoded = words; numbered = a.1; some = ltb-true 0 n.0 tests.0; few = b.1 })

-- the words of an answer
abbrev EncodedAnswer : Library → List (List ℕ) → ApiAnswer → Type 0
EncodedAnswer library words answer = (words ≡ answer_words answer) × IsAnswer library answer

bare_found : (library : Library) (kind : List ℕ) (answer : ApiAnswer) → bare_answer kind ≡ Ok answer → EncodedAnswer library (kind ∷ []) answer
unfolding bare_answer
bare_found library kind answer h =
    either (EncodedAnswer library (kind ∷ []) answer) (is kind (codes "nothing")) (Ok answers.Nothing) (cond (is kind (codes "null")) (Ok answers.Null) (cond (is kind (codes "receiver")) (Ok answers.Receiver) (Err NoForm))) (Ok answer) h
    (λ t e. as_kind (codes "nothing") answers.Nothing t (ok_is e) refl tt)
    (λ t e. either (EncodedAnswer library (kind ∷ []) answer) (is kind (codes "null")) (Ok answers.Null) (cond (is kind (codes "receiver")) (Ok answers.Receiver) (Err NoForm)) (Ok answer) e
    (λ t f. as_kind (codes "null") answers.Null t (ok_is f) refl tt)
    (λ t f. either (EncodedAnswer library (kind ∷ []) answer) (is kind (codes "receiver")) (Ok answers.Receiver) (Err NoForm) (Ok answer) f
    (λ t g. as_kind (codes "receiver") answers.Receiver t (ok_is g) refl tt)
    (λ t g. absurd cc))) where
      as_kind : (text : List ℕ) (a : ApiAnswer) → is kind text ≡ true → a ≡ answer → text ∷ [] ≡ answer_words a → IsAnswer library a → EncodedAnswer library (kind ∷ []) answer
      as_kind text a t same words fits =
          let encoded : kind ∷ [] ≡ answer_words a = ap (λ (k : List ℕ). k ∷ []) (text_is kind text t) ∙ words in
          subst (EncodedAnswer library (kind ∷ [])) same (encoded, fits)

-- the kind and the word of an answer with a word after it
module _ (library : Library) (kind word : List ℕ) (answer : ApiAnswer) where
  abbrev Goal : Type 0
  Goal = EncodedAnswer library (kind ∷ word ∷ []) answer

  as_kind : (text : List ℕ) (a : ApiAnswer) → is kind text ≡ true → a ≡ answer → text ∷ word ∷ [] ≡ answer_words a → IsAnswer library a → Goal
  as_kind text a t same words fits =
      let encoded : kind ∷ word ∷ [] ≡ answer_words a = ap (λ (k : List ℕ). k ∷ word ∷ []) (text_is kind text t) ∙ words in
      subst (EncodedAnswer library (kind ∷ word ∷ [])) same (encoded, fits)

  int_kind : is kind (codes "int") ≡ true → int_answer word ≡ Ok answer → Goal
  unfolding int_answer
  int_kind t h =
      let read = then_ok (ok_or (int_of word) NoForm) (λ n. Ok (answers.Int n)) answer h in
      let found = int_found word read.0 (some_ok (int_of word) NoForm read.0 read.1) in
      as_kind (codes "int") (answers.Int read.0) t (ok_is read.2) (ap (λ (w : List ℕ). codes "int" ∷ w ∷ []) found.0) found.1

  text_kind : is kind (codes "text") ≡ true → text_answer word ≡ Ok answer → Goal
  unfolding text_answer
  text_kind t h =
      let read = then_ok (hex_at word) (λ bytes. Ok (answers.Text bytes)) answer h in
      let found = hex_found word read.0 read.1 in
      as_kind (codes "text") (answers.Text read.0) t (ok_is read.2) (ap (λ (w : List ℕ). codes "text" ∷ w ∷ []) found.0) found.1

  fresh_kind : is kind (codes "fresh") ≡ true → fresh_answer library word ≡ Ok answer → Goal
  unfolding fresh_answer
  fresh_kind t h =
      let read = then_ok (need (library.knows word) NoForm) (λ known. Ok (answers.Fresh word)) answer h in
      as_kind (codes "fresh") (answers.Fresh word) t (ok_is read.2) refl (need_ok (library.knows word) NoForm read.0 read.1)

  throws_kind : is kind (codes "throws") ≡ true → throws_answer library word ≡ Ok answer → Goal
  unfolding throws_answer
  throws_kind t h =
      let read = then_ok (need (library.knows word) NoForm) (λ known. Ok (answers.Throws word)) answer h in
      as_kind (codes "throws") (answers.Throws word) t (ok_is read.2) refl (need_ok (library.knows word) NoForm read.0 read.1)

  arg_kind : is kind (codes "arg") ≡ true → arg_answer word ≡ Ok answer → Goal
  unfolding arg_answer
  arg_kind t h =
      let read = then_ok (listed_index word) (λ i. Ok (answers.Arg i)) answer h in
      let found = index_read word read.0 read.1 in
      as_kind (codes "arg") (answers.Arg read.0) t (ok_is read.2) (ap (λ (w : List ℕ). codes "arg" ∷ w ∷ []) found.0) found.1

  abbrev after_arg : Read ApiAnswer
  after_arg = cond (is kind (codes "throws")) (throws_answer library word) (Err NoForm)

  abbrev after_fresh : Read ApiAnswer
  after_fresh = cond (is kind (codes "arg")) (arg_answer word) after_arg

  abbrev after_text : Read ApiAnswer
  after_text = cond (is kind (codes "fresh")) (fresh_answer library word) after_fresh

  abbrev after_int : Read ApiAnswer
  after_int = cond (is kind (codes "text")) (text_answer word) after_text

  with_found : answer_with library kind word ≡ Ok answer → Goal
  unfolding answer_with
  with_found h =
      either Goal (is kind (codes "int")) (int_answer word) after_int (Ok answer) h int_kind
      (λ t e. either Goal (is kind (codes "text")) (text_answer word) after_text (Ok answer) e text_kind
      (λ t f. either Goal (is kind (codes "fresh")) (fresh_answer library word) after_fresh (Ok answer) f fresh_kind
      (λ t g. either Goal (is kind (codes "arg")) (arg_answer word) after_arg (Ok answer) g arg_kind
      (λ t i. either Goal (is kind (codes "throws")) (throws_answer library word) (Err NoForm) (Ok answer) i throws_kind
      (λ t j. absurd cc)))))

answer_found : (library : Library) (kind : List ℕ) (rest : List (List ℕ)) (answer : ApiAnswer) → answer_of library kind rest ≡ Ok answer → EncodedAnswer library (kind ∷ rest) answer
unfolding answer_of
answer_found library kind [] answer h = bare_found library kind answer h
answer_found library kind (word ∷ []) answer h = with_found library kind word answer h
answer_found library kind (word ∷ other ∷ rest) answer h = absurd cc

answer_line_found : (library : Library) (thread kind : List ℕ) (rest : List (List ℕ)) (entry : Entry) → answer_line library thread kind rest ≡ Ok entry → EncodesEntry library (codes "answer" ∷ thread ∷ kind ∷ rest) entry
unfolding answer_line
answer_line_found library thread kind rest entry h =
    let t = then_ok (listed_index thread) (λ t. answer_of library kind rest >>= λ a. Ok (Answer t a)) entry h in
    let a = then_ok (answer_of library kind rest) (λ a. Ok (Answer t.0 a)) entry t.2 in
    let number = index_read thread t.0 t.1 in
    let found = answer_found library kind rest a.0 a.1 in
    let words : codes "answer" ∷ thread ∷ kind ∷ rest ≡ codes "answer" ∷ decimal t.0 ∷ answer_words a.0 = ap (λ (w : List ℕ). codes "answer" ∷ w ∷ kind ∷ rest) number.0 ∙ ap (λ (ws : List (List ℕ)). codes "answer" ∷ decimal t.0 ∷ ws) found.0 in
    subst (EncodesEntry library (codes "answer" ∷ thread ∷ kind ∷ rest)) (ok_is a.2) (record { encoded = words; numbered = number.1; is = found.1 })

-- ---- found: events

-- values after those that are done
record AreValues (done : List ApiValue) (words : List (List ℕ)) (out : List ApiValue) : Type 0 where
  values : List ApiValue
  all : out ≡ done ++ values
  encoded : words ≡ map value_word values
  fit : AllByRecursion IsValue values

values_found : (done : List ApiValue) (words : List (List ℕ)) (out : List ApiValue) → AllByRecursion HasNoBreak words → values_from done words ≡ Ok out → AreValues done words out
values_found done [] out clear h = record { values = []; all = sym (ok_is h) ∙ sym (append-nil done); encoded = refl; fit = tt }
values_found done (word ∷ words) out clear h =
    let first = then_ok (value_at word) (λ v. values_from (done ++ v ∷ []) words) out h in
    let value = value_found word first.0 clear.0 first.1 in
    let later = values_found (done ++ first.0 ∷ []) words out clear.1 first.2 in
    record {
      values = first.0 ∷ later.values;
      all = later.all ∙ append_assoc done (first.0 ∷ []) later.values;
      encoded = ap (λ (w : List ℕ). w ∷ words) value.0 ∙ ap (λ (ws : List (List ℕ)). value_word first.0 ∷ ws) later.encoded;
      fit = (value.1, later.fit);
    }

-- the event of a method that is found
module _ (library : Library) (id : MethodId) (thread method : ℕ) (numbered : thread < 2 ^ 32) (there : library.finds id ≡ Some method) where
  abbrev words_with : List ℕ → List (List ℕ) → List (List ℕ)
  words_with verb values = verb ∷ decimal thread ∷ id.class ∷ id.name ∷ id.desc ∷ values

  call_found : (values : List (List ℕ)) (entry : Entry) → AllByRecursion HasNoBreak values → call_event thread method values ≡ Ok entry → EncodesEntry library (words_with (codes "call") values) entry
  unfolding call_event
  call_found values entry clear h =
      let read = then_ok (values_from [] values) (λ args. Ok (Seen (Call thread method args))) entry h in
      let found = values_found [] values read.0 clear read.1 in
      let event : EncodesEvent library (words_with (codes "call") values) (Call thread method found.values) =
      record { id = id; encoded = ap (words_with (codes "call")) found.encoded; is = record { there = there; numbered = numbered; given = found.fit } } in
      subst (EncodesEntry library (words_with (codes "call") values)) (ap (λ (vs : List ApiValue). Seen (Call thread method vs)) (sym found.all) ∙ ok_is read.2) event

  -- the event of a result
  returned : (words : List (List ℕ)) (value : Option ApiValue) → words ≡ words_with (codes "return") (result_words value) → IsGiven id.desc (Return thread method value) → EncodesEvent library words (Return thread method value)
  returned words None encoded given = record { id = id; encoded = encoded; is = record { there = there; numbered = numbered; given = given } }
  returned words (Some value) encoded given = record { id = id; encoded = encoded; is = record { there = there; numbered = numbered; given = given } }

  result_found : (values : List (List ℕ)) (value : Option ApiValue) → AllByRecursion HasNoBreak values → result_of (gives_nothing id.desc) values ≡ Ok value → EncodesEvent library (words_with (codes "return") values) (Return thread method value)
  unfolding result_of
  result_found [] value clear h =
      either (EncodesEvent library (words_with (codes "return") []) (Return thread method value)) (gives_nothing id.desc) (Ok None) (Err NoForm) (Ok value) h
      (λ void e. subst (λ (v : Option ApiValue). EncodesEvent library (words_with (codes "return") []) (Return thread method v)) (ok_is e) (returned (words_with (codes "return") []) None refl void))
      (λ void e. absurd cc)
  result_found (word ∷ []) value clear h =
      either (EncodesEvent library (words_with (codes "return") (word ∷ [])) (Return thread method value)) (gives_nothing id.desc) (Err NoForm) (value_at word >>= λ v. Ok (Some v)) (Ok value) h
      (λ void e. absurd cc)
      (λ void e.
      let read = then_ok (value_at word) (λ v. Ok (Some v)) value e in
      let found = value_found word read.0 clear.0 read.1 in
      let encoded : words_with (codes "return") (word ∷ []) ≡ words_with (codes "return") (value_word read.0 ∷ []) = ap (λ (w : List ℕ). words_with (codes "return") (w ∷ [])) found.0 in
      subst (λ (v : Option ApiValue). EncodesEvent library (words_with (codes "return") (word ∷ [])) (Return thread method v)) (ok_is read.2) (returned (words_with (codes "return") (word ∷ [])) (Some read.0) encoded (void, found.1)))
  result_found (word ∷ other ∷ rest) value clear h = absurd cc

  return_found : (values : List (List ℕ)) (entry : Entry) → AllByRecursion HasNoBreak values → return_event thread method (gives_nothing id.desc) values ≡ Ok entry → EncodesEntry library (words_with (codes "return") values) entry
  unfolding return_event
  return_found values entry clear h =
      let read = then_ok (result_of (gives_nothing id.desc) values) (λ value. Ok (Seen (Return thread method value))) entry h in
      subst (EncodesEntry library (words_with (codes "return") values)) (ok_is read.2) (result_found values read.0 clear read.1)

  except_found : (values : List (List ℕ)) (entry : Entry) → except_event thread method values ≡ Ok entry → EncodesEntry library (words_with (codes "except") values) entry
  unfolding except_event
  except_found values entry h =
      let read = then_ok (need (length values == 0) NoForm) (λ ended. Ok (Seen (Except thread method))) entry h in
      let none : values ≡ [] = nil_from_length values (eqb-true (length values) 0 (need_ok (length values == 0) NoForm read.0 read.1)) in
      let event : EncodesEvent library (words_with (codes "except") values) (Except thread method) =
      record { id = id; encoded = ap (words_with (codes "except")) none; is = record { there = there; numbered = numbered; given = tt } } in
      subst (EncodesEntry library (words_with (codes "except") values)) (ok_is read.2) event

  with_verb : (verb text : List ℕ) (values : List (List ℕ)) (entry : Entry) → is verb text ≡ true → EncodesEntry library (words_with text values) entry → EncodesEntry library (words_with verb values) entry
  with_verb verb text values entry t s = subst (λ (v : List ℕ). EncodesEntry library (words_with v values) entry) (sym (text_is verb text t)) s

  event_found : (verb : List ℕ) (values : List (List ℕ)) (entry : Entry) → AllByRecursion HasNoBreak values → event_of verb thread method (gives_nothing id.desc) values ≡ Ok entry → EncodesEntry library (words_with verb values) entry
  unfolding event_of
  event_found verb values entry clear h =
      either (EncodesEntry library (words_with verb values) entry) (is verb (codes "call")) (call_event thread method values)
      (cond (is verb (codes "return")) (return_event thread method (gives_nothing id.desc) values) (cond (is verb (codes "except")) (except_event thread method values) (Err NoForm))) (Ok entry) h
      (λ t e. with_verb verb (codes "call") values entry t (call_found values entry clear e))
      (λ t e. either (EncodesEntry library (words_with verb values) entry) (is verb (codes "return")) (return_event thread method (gives_nothing id.desc) values)
      (cond (is verb (codes "except")) (except_event thread method values) (Err NoForm)) (Ok entry) e
      (λ t f. with_verb verb (codes "return") values entry t (return_found values entry clear f))
      (λ t f. either (EncodesEntry library (words_with verb values) entry) (is verb (codes "except")) (except_event thread method values) (Err NoForm) (Ok entry) f
      (λ t g. with_verb verb (codes "except") values entry t (except_found values entry g))
      (λ t g. absurd cc)))

event_line_found : (library : Library) (verb thread class : List ℕ) (rest : List (List ℕ)) (entry : Entry) → AllByRecursion HasNoBreak rest → event_line library verb thread class rest ≡ Ok entry → EncodesEntry library (verb ∷ thread ∷ class ∷ rest) entry
unfolding event_line method_event
event_line_found library verb thread class [] entry clear h = absurd cc
event_line_found library verb thread class (name ∷ []) entry clear h = absurd cc
event_line_found library verb thread class (name ∷ desc ∷ values) entry clear h =
    let id = id_of class name desc in
    let t = then_ok (listed_index thread) (λ t. ok_or (library.finds id) NoForm >>= λ m. event_of verb t m (gives_nothing desc) values) entry h in
    let m = then_ok (ok_or (library.finds id) NoForm) (λ m. event_of verb t.0 m (gives_nothing desc) values) entry t.2 in
    let number = index_read thread t.0 t.1 in
    let event = event_found library id t.0 m.0 number.1 (some_ok (library.finds id) NoForm m.0 m.1) verb values entry clear.1.1 m.2 in
    subst (λ (w : List ℕ). EncodesEntry library (verb ∷ w ∷ class ∷ name ∷ desc ∷ values) entry) (sym number.0) event

-- ---- found: the end

either_or : (P : Type 0) (a b : Bool) → (a || b) ≡ true → (a ≡ true → P) → (b ≡ true → P) → P
either_or P true b h f g = f refl
either_or P false b h f g = g h

count_found : (word : List ℕ) → is_count word ≡ true → (n : ℕ) × (word ≡ decimal n) × (n < 2 ^ 63)
count_found word h = by (number_of word) refl h where
  by : (o : Option ℤ) → number_of word ≡ o → option_map_or as_count o false ≡ true → (n : ℕ) × (word ≡ decimal n) × (n < 2 ^ 63)
  by None is h = absurd (false≢true h)
  by (Some (negsuc n)) is h = absurd (false≢true h)
  by (Some (pos n)) is h =
      let written = number_found word (pos n) is in
      let fits : FitsSigned w64 (pos n) = written.fits in
      (n, written.text_is, omega (arith, ints, fits))

value_told : (word : List ℕ) → is_int word ≡ true → (n : ℤ) × (word ≡ signed_decimal n) × FitsSigned w32 n
value_told word h = by (int_of word) refl h where
  by : (o : Option ℤ) → int_of word ≡ o → option_map_or (λ n. true) o false ≡ true → (n : ℤ) × (word ≡ signed_decimal n) × FitsSigned w32 n
  by None is h = absurd (false≢true h)
  by (Some n) is h = let found = int_found word n is in (n, found.0, found.1)

ends_found : (kind second : List ℕ) (rest : List (List ℕ)) → ends kind second rest ≡ true → EncodesEnd (codes "end" ∷ kind ∷ second ∷ rest)
ends_found kind second [] h =
    either_or (EncodesEnd (codes "end" ∷ kind ∷ second ∷ [])) (is kind (codes "finished")) (is kind (codes "deadlock") || (is kind (codes "budget") || (is kind (codes "device") || is kind (codes "running")))) tests.0
    (λ t. record { ending = Finished count.0; encoded = as_kind (codes "finished") t; is = record { count = count.2; value = tt } })
    (λ t. either_or (EncodesEnd (codes "end" ∷ kind ∷ second ∷ [])) (is kind (codes "deadlock")) (is kind (codes "budget") || (is kind (codes "device") || is kind (codes "running"))) t
    (λ t. record { ending = Deadlock count.0; encoded = as_kind (codes "deadlock") t; is = record { count = count.2; value = tt } })
    (λ t. either_or (EncodesEnd (codes "end" ∷ kind ∷ second ∷ [])) (is kind (codes "budget")) (is kind (codes "device") || is kind (codes "running")) t
    (λ t. record { ending = Budget count.0; encoded = as_kind (codes "budget") t; is = record { count = count.2; value = tt } })
    (λ t. either_or (EncodesEnd (codes "end" ∷ kind ∷ second ∷ [])) (is kind (codes "device")) (is kind (codes "running")) t
    (λ t. record { ending = Device count.0; encoded = as_kind (codes "device") t; is = record { count = count.2; value = tt } })
    (λ t. record { ending = Running count.0; encoded = as_kind (codes "running") t; is = record { count = count.2; value = tt } })))) where
      tests : (is_end kind ≡ true) × (is_count second ≡ true)
      tests = and_parts (is_end kind) (is_count second) h

      count : (n : ℕ) × (second ≡ decimal n) × (n < 2 ^ 63)
      count = count_found second tests.1

      as_kind : (text : List ℕ) → is kind text ≡ true → codes "end" ∷ kind ∷ second ∷ [] ≡ codes "end" ∷ text ∷ decimal count.0 ∷ []
      as_kind text t = ap (λ (k : List ℕ). codes "end" ∷ k ∷ second ∷ []) (text_is kind text t) ∙ ap (λ (w : List ℕ). codes "end" ∷ text ∷ w ∷ []) count.1
ends_found kind second (third ∷ []) h =
    let tests = and_parts (is kind (codes "stopped")) (is_int second && is_count third) h in
    let numbers = and_parts (is_int second) (is_count third) tests.1 in
    let value = value_told second numbers.0 in
    let count = count_found third numbers.1 in
    let encoded : codes "end" ∷ kind ∷ second ∷ third ∷ [] ≡ codes "end" ∷ codes "stopped" ∷ signed_decimal value.0 ∷ decimal count.0 ∷ [] =
    ap (λ (k : List ℕ). codes "end" ∷ k ∷ second ∷ third ∷ []) (text_is kind (codes "stopped") tests.0)
    ∙ ap (λ (w : List ℕ). codes "end" ∷ codes "stopped" ∷ w ∷ third ∷ []) value.1
    ∙ ap (λ (w : List ℕ). codes "end" ∷ codes "stopped" ∷ signed_decimal value.0 ∷ w ∷ []) count.1 in
    record { ending = Stopped value.0 count.0; encoded = encoded; is = record { count = count.2; value = value.2 } }
ends_found kind second (third ∷ other ∷ rest) h = absurd (false≢true h)

end_line_found : (library : Library) (kind second : List ℕ) (rest : List (List ℕ)) (entry : Entry) → end_line kind second rest ≡ Ok entry → EncodesEntry library (codes "end" ∷ kind ∷ second ∷ rest) entry
unfolding end_line
end_line_found library kind second rest entry h =
    let read = then_ok (need (ends kind second rest) NoForm) (λ so. Ok End) entry h in
    subst (EncodesEntry library (codes "end" ∷ kind ∷ second ∷ rest)) (ok_is read.2) (ends_found kind second rest (need_ok (ends kind second rest) NoForm read.0 read.1))

-- ---- found: any line

with_word : (library : Library) (verb text : List ℕ) (rest : List (List ℕ)) (entry : Entry) → is verb text ≡ true → EncodesEntry library (text ∷ rest) entry → EncodesEntry library (verb ∷ rest) entry
with_word library verb text rest entry t s = subst (λ (v : List ℕ). EncodesEntry library (v ∷ rest) entry) (sym (text_is verb text t)) s

pub entry_found : (library : Library) (words : List (List ℕ)) (entry : Entry) → AllByRecursion HasNoBreak words → entry_of library words ≡ Ok entry → EncodesEntry library words entry
unfolding entry_of line_of
entry_found library [] entry clear h = absurd cc
entry_found library (verb ∷ []) entry clear h = absurd cc
entry_found library (verb ∷ second ∷ []) entry clear h = absurd cc
entry_found library (verb ∷ second ∷ third ∷ rest) entry clear h =
    either (EncodesEntry library (verb ∷ second ∷ third ∷ rest) entry) (is verb (codes "go")) (go_line second third rest)
    (cond (is verb (codes "answer")) (answer_line library second third rest) (cond (is verb (codes "end")) (end_line second third rest) (event_line library verb second third rest))) (Ok entry) h
    (λ t e. with_word library verb (codes "go") (second ∷ third ∷ rest) entry t (go_found library second third rest entry e))
    (λ t e. either (EncodesEntry library (verb ∷ second ∷ third ∷ rest) entry) (is verb (codes "answer")) (answer_line library second third rest)
    (cond (is verb (codes "end")) (end_line second third rest) (event_line library verb second third rest)) (Ok entry) e
    (λ t f. with_word library verb (codes "answer") (second ∷ third ∷ rest) entry t (answer_line_found library second third rest entry f))
    (λ t f. either (EncodesEntry library (verb ∷ second ∷ third ∷ rest) entry) (is verb (codes "end")) (end_line second third rest) (event_line library verb second third rest) (Ok entry) f
    (λ t g. with_word library verb (codes "end") (second ∷ third ∷ rest) entry t (end_line_found library second third rest entry g))
    (λ t g. event_line_found library verb second third rest entry clear.1.1.1 g)))

-- ---- again

pub count_again : (n : ℕ) → n < 2 ^ 63 → is_count (decimal n) ≡ true
count_again n small =
    let fits : FitsSigned w64 (pos n) = omega (arith, ints) in
    ap (λ (o : Option ℤ). option_map_or as_count o false) (number_again (pos n) fits)

ending_again : (library : Library) (ending : Ending) → steps_told ending < 2 ^ 63 → IsStopValue ending → entry_of library (ending_words ending) ≡ Ok End
unfolding entry_of line_of end_line
ending_again library (Finished n) few value = rw (count_again n few) refl
ending_again library (Deadlock n) few value = rw (count_again n few) refl
ending_again library (Stopped v n) few value = rw (int_again v value, count_again n few) refl
ending_again library (Budget n) few value = rw (count_again n few) refl
ending_again library (Device n) few value = rw (count_again n few) refl
ending_again library (Running n) few value = rw (count_again n few) refl

answer_again : (library : Library) (thread : ℕ) (answer : ApiAnswer) → thread < 2 ^ 32 → IsAnswer library answer → entry_of library (codes "answer" ∷ decimal thread ∷ answer_words answer) ≡ Ok (Answer thread answer)
unfolding entry_of line_of answer_line answer_of bare_answer answer_with int_answer text_answer fresh_answer throws_answer arg_answer
answer_again library thread answers.Nothing small is = rw (index_again thread small) refl
answer_again library thread (answers.Int n) small is = rw (index_again thread small, int_again n is) refl
answer_again library thread answers.Null small is = rw (index_again thread small) refl
answer_again library thread (answers.Text bytes) small is = rw (index_again thread small, hex_again bytes is) refl
answer_again library thread (answers.Fresh class) small is = rw (index_again thread small, is) refl
answer_again library thread (answers.Arg place) small is = rw (index_again thread small, index_again place is) refl
answer_again library thread answers.Receiver small is = rw (index_again thread small) refl
answer_again library thread (answers.Throws class) small is = rw (index_again thread small, is) refl

go_again : (library : Library) (thread count : ℕ) → thread < 2 ^ 32 → 0 < count → count < 2 ^ 32 → entry_of library (codes "go" ∷ decimal thread ∷ decimal count ∷ []) ≡ Ok (Go thread count)
unfolding entry_of line_of go_line
go_again library thread count small some few = rw (index_again thread small, index_again count few, lt-ltb 0 count some) refl

pub entry_again : (library : Library) (words : List (List ℕ)) (entry : Entry) → EncodesEntry library words entry → entry_of library words ≡ Ok entry
entry_again library words (Go thread count) s = ap (entry_of library) s.encoded ∙ go_again library thread count s.numbered s.some s.few
entry_again library words (Answer thread answer) s = ap (entry_of library) s.encoded ∙ answer_again library thread answer s.numbered s.is
entry_again library words (Seen event) s = ap (entry_of library) s.encoded ∙ words_again library s.id event s.is
entry_again library words End s = ap (entry_of library) s.encoded ∙ ending_again library s.ending s.is.count s.is.value
