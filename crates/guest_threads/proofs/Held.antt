-- Monitors by the place of the first of a value.
use Rattle.std.proofs.Common.{◌≡◌, ℕ, zero, suc, ◌+◌, ◌-◌, ◌<◌, ◌==◌, Bool, true, false, not, cond, List, [], ◌∷◌, ◌++◌, length, get_or, take, drop, Option, Some, None, Result, Ok, Err, refl, sym, ap, ◌∙◌, add-one, eq-eqb, arith}
use Rattle.std.specs.Prelude.{◌≢◌, slice_get, slice_set, if◌then◌else◌, option_map, option_and_then, is_some, IfSome}
use Rattle.std.specs.List.{position_from}
use Rattle.std.specs.Option.{option_map_or}
use Rattle.std.proofs.lemmas.Bool.{ne_eqb}
use native.Mathlib.Numerals.{unary_clauses}
use Rattle.bytecode_model.proofs.Placing.{find_at}
use Rattle.guest_heap.specs.declared.object.Monitor.{Monitor}
use Rattle.guest_heap.specs.declared.value.Value.{Value}
use Rattle.guest_frames.specs.Values.{are_one}
use Rattle.guest_model.specs.Monitors.{entered, left, held_once_less, held_once_more}
use Rattle.guest_model.specs.Enabled.{is_held_by_other}
use Rattle.guest_threads.specs.Becomes.{Becomes}
use Rattle.guest_model.specs.declared.fault.StepFault.{StepFault}
use Rattle.guest_model.specs.declared.fault.StepFault.TheVariants as faults
use Rattle.guest_threads.specs.Monitors.{entered_again, left_at}

-- ---- places

shift : {X : Type 0} (test : X → Bool) (index : ℕ) (xs : List X) → position_from test (index + 1) xs ≡ option_map suc (position_from test index xs)
shift test index [] = refl
shift test index (x ∷ xs) = by (test x) _ _ (shift test (index + 1) xs) where
  by : (b : Bool) (o p : Option ℕ) → o ≡ option_map suc p → cond b (Some (index + 1)) o ≡ option_map suc (cond b (Some index) p)
  by true o p e = ap Some (add-one index)
  by false o p e = e

pub set_same : {X : Type 0} (xs : List X) (i : ℕ) (x : X) → slice_get xs i ≡ Some x → slice_set xs i x ≡ xs
set_same [] i x e = absurd cc
set_same (y ∷ ys) zero x e = let h : y ≡ x = cc in ap (λ (z : _). z ∷ ys) (sym h)
set_same (y ∷ ys) (suc i) x e = ap (λ (zs : List _). y ∷ zs) (set_same ys i x e)

above : (n q : ℕ) (o : Option ℕ) → ((k : ℕ) → Some k ≡ o → k < n) → Some q ≡ option_map suc o → q < suc n
above n q None each e = absurd cc
above n q (Some k) each e = let same : q ≡ suc k = cc in omega (arith, same, each k refl)

-- a place that is found is one of the list
pub within : {X : Type 0} (test : X → Bool) (xs : List X) (p : ℕ) → Some p ≡ position_from test 0 xs → p < length xs
within test [] p e = absurd cc
within test (x ∷ xs) p e = front (test x) (within test xs) e where
  front : (b : Bool) → ((k : ℕ) → Some k ≡ position_from test 0 xs → k < length xs) → Some p ≡ cond b (Some 0) (position_from test 1 xs) → p < suc (length xs)
  front true each h = let same : p ≡ 0 = cc in omega (arith, same)
  front false each h = above (length xs) p (position_from test 0 xs) each (h ∙ shift test 0 xs)

-- what is read there
pub read_at : {X : Type 0} (xs : List X) (i : ℕ) (d : X) → i < length xs → slice_get xs i ≡ Some (get_or xs i d)
read_at [] i d lt = absurd (omega (arith, lt))
read_at (x ∷ xs) zero d lt = refl
read_at (x ∷ xs) (suc i) d lt = read_at xs i d (omega (arith, lt))

-- ---- entering

abbrev new : ℕ → Value → Monitor
new thread on = record { on = on; owner = thread; count = 1 }

abbrev set_in : List Monitor → ℕ → ℕ → Option Monitor → Option (List Monitor)
set_in ms thread p o = option_and_then (λ (m : Monitor). option_map (slice_set ms p) (entered_again thread m)) o

abbrev entered_by : List Monitor → ℕ → Value → Option ℕ → Option (List Monitor)
entered_by ms thread on None = Some (ms ++ new thread on ∷ [])
entered_by ms thread on (Some p) = set_in ms thread p (slice_get ms p)

module _ (thread : ℕ) (on : Value) where
  at_front : (m : Monitor) (ms : List Monitor) (b : Bool)
      → cond b (Some (held_once_more m ∷ ms)) None ≡ option_map (slice_set (m ∷ ms) 0) (cond b (Some (held_once_more m)) None)
  at_front m ms true = refl
  at_front m ms false = refl

  further : (m : Monitor) (ms : List Monitor) (p : ℕ) (o : Option Monitor)
      → option_map (λ (rest : List Monitor). m ∷ rest) (set_in ms thread p o) ≡ set_in (m ∷ ms) thread (suc p) o
  further m ms p None = refl
  further m ms p (Some n) = by (n.owner == thread) where
    by : (b : Bool) → option_map (λ (rest : List Monitor). m ∷ rest) (option_map (slice_set ms p) (cond b (Some (held_once_more n)) None))
        ≡ option_map (slice_set (m ∷ ms) (suc p)) (cond b (Some (held_once_more n)) None)
    by true = refl
    by false = refl

  following : (m : Monitor) (ms : List Monitor) (o : Option ℕ)
      → option_map (λ (rest : List Monitor). m ∷ rest) (entered_by ms thread on o) ≡ entered_by (m ∷ ms) thread on (option_map suc o)
  following m ms None = refl
  following m ms (Some p) = further m ms p (slice_get ms p)

  entered_is : (ms : List Monitor) → entered ms thread on ≡ entered_by ms thread on (position_from (λ (m : Monitor). are_one m.on on) 0 ms)
  entered_is [] = refl
  entered_is (m ∷ ms) = by (entered_is ms) (are_one m.on on) where
    by : entered ms thread on ≡ entered_by ms thread on (position_from (λ (n : Monitor). are_one n.on on) 0 ms) → (b : Bool) → cond b (cond (m.owner == thread) (Some (held_once_more m ∷ ms)) None) (option_map (λ (rest : List Monitor). m ∷ rest) (entered ms thread on))
        ≡ entered_by (m ∷ ms) thread on (cond b (Some 0) (position_from (λ (n : Monitor). are_one n.on on) 1 ms))
    by rest true = at_front m ms (m.owner == thread)
    by rest false =
        ap (option_map (λ (rest : List Monitor). m ∷ rest)) rest ∙ following m ms (position_from (λ (n : Monitor). are_one n.on on) 0 ms)
        ∙ ap (entered_by (m ∷ ms) thread on) (sym (shift (λ (n : Monitor). are_one n.on on) 0 ms))

  pub entered_none : (ms : List Monitor) → None ≡ position_from (λ (m : Monitor). are_one m.on on) 0 ms → entered ms thread on ≡ Some (ms ++ new thread on ∷ [])
  entered_none ms e = entered_is ms ∙ ap (entered_by ms thread on) (sym e)

  entered_some : (ms : List Monitor) (p : ℕ) (m : Monitor) → Some p ≡ position_from (λ (m : Monitor). are_one m.on on) 0 ms → slice_get ms p ≡ Some m
      → entered ms thread on ≡ option_map (slice_set ms p) (entered_again thread m)
  entered_some ms p m e there = entered_is ms ∙ ap (entered_by ms thread on) (sym e) ∙ ap (set_in ms thread p) there

  pub enters_there : (result : Result (Unit {0}) StepFault) (ms : List Monitor) (p : ℕ) (m made : Monitor)
      → Some p ≡ position_from (λ (m : Monitor). are_one m.on on) 0 ms → slice_get ms p ≡ Some m
      → Becomes result m made (entered_again thread m) → Becomes result ms (slice_set ms p made) (entered ms thread on)
  enters_there (Ok done) ms p m made e there h = entered_some ms p m e there ∙ ap (option_map (slice_set ms p)) h
  enters_there (Err faults.NotEnabled) ms p m made e there h =
      (entered_some ms p m e there ∙ ap (option_map (slice_set ms p)) h.0, ap (slice_set ms p) h.1 ∙ set_same ms p m there)
  enters_there (Err faults.Memory) ms p m made e there h = ap (slice_set ms p) h ∙ set_same ms p m there

-- ---- leaving

abbrev left_in : List Monitor → ℕ → ℕ → Option Monitor → Option (List Monitor)
left_in ms thread p o = option_and_then (λ (m : Monitor). if m.owner == thread then Some (left_at ms p m) else None) o

abbrev left_by : List Monitor → ℕ → Option ℕ → Option (List Monitor)
left_by ms thread None = None
left_by ms thread (Some p) = left_in ms thread p (slice_get ms p)

module _ (thread : ℕ) (on : Value) where
  front_left : (m : Monitor) (ms : List Monitor) → held_once_less m ms ≡ left_at (m ∷ ms) 0 m
  front_left m ms = by (m.count == 1) where
    by : (b : Bool) → cond b ms (record { on = m.on; owner = m.owner; count = m.count - 1 } ∷ ms)
        ≡ cond b (take 0 (m ∷ ms) ++ drop (0 + 1) (m ∷ ms)) (slice_set (m ∷ ms) 0 (record { on = m.on; owner = m.owner; count = m.count - 1 }))
    by true = refl
    by false = refl

  back_left : (m n : Monitor) (ms : List Monitor) (p : ℕ) → m ∷ left_at ms p n ≡ left_at (m ∷ ms) (suc p) n
  back_left m n ms p = by (n.count == 1) where
    by : (b : Bool) → m ∷ cond b (take p ms ++ drop (p + 1) ms) (slice_set ms p (record { on = n.on; owner = n.owner; count = n.count - 1 }))
        ≡ cond b (take (suc p) (m ∷ ms) ++ drop (suc p + 1) (m ∷ ms)) (slice_set (m ∷ ms) (suc p) (record { on = n.on; owner = n.owner; count = n.count - 1 }))
    by true = simp unary_clauses refl
    by false = refl

  left_further : (m : Monitor) (ms : List Monitor) (p : ℕ) (o : Option Monitor)
      → option_map (λ (rest : List Monitor). m ∷ rest) (left_in ms thread p o) ≡ left_in (m ∷ ms) thread (suc p) o
  left_further m ms p None = refl
  left_further m ms p (Some n) = by (n.owner == thread) where
    by : (b : Bool) → option_map (λ (rest : List Monitor). m ∷ rest) (cond b (Some (left_at ms p n)) None) ≡ cond b (Some (left_at (m ∷ ms) (suc p) n)) None
    by true = ap Some (back_left m n ms p)
    by false = refl

  left_after : (m : Monitor) (ms : List Monitor) (o : Option ℕ)
      → option_map (λ (rest : List Monitor). m ∷ rest) (left_by ms thread o) ≡ left_by (m ∷ ms) thread (option_map suc o)
  left_after m ms None = refl
  left_after m ms (Some p) = left_further m ms p (slice_get ms p)

  left_is : (ms : List Monitor) → left ms thread on ≡ left_by ms thread (position_from (λ (m : Monitor). are_one m.on on) 0 ms)
  left_is [] = refl
  left_is (m ∷ ms) = by (left_is ms) (are_one m.on on) where
    mine : (b : Bool) → cond b (Some (held_once_less m ms)) None ≡ cond b (Some (left_at (m ∷ ms) 0 m)) None
    mine true = ap Some (front_left m ms)
    mine false = refl

    by : left ms thread on ≡ left_by ms thread (position_from (λ (n : Monitor). are_one n.on on) 0 ms) → (b : Bool)
        → cond b (cond (m.owner == thread) (Some (held_once_less m ms)) None) (option_map (λ (rest : List Monitor). m ∷ rest) (left ms thread on))
        ≡ left_by (m ∷ ms) thread (cond b (Some 0) (position_from (λ (n : Monitor). are_one n.on on) 1 ms))
    by rest true = mine (m.owner == thread)
    by rest false =
        ap (option_map (λ (rest : List Monitor). m ∷ rest)) rest ∙ left_after m ms (position_from (λ (n : Monitor). are_one n.on on) 0 ms)
        ∙ ap (left_by (m ∷ ms) thread) (sym (shift (λ (n : Monitor). are_one n.on on) 0 ms))

  pub left_none : (ms : List Monitor) → None ≡ position_from (λ (m : Monitor). are_one m.on on) 0 ms → left ms thread on ≡ None
  left_none ms e = left_is ms ∙ ap (left_by ms thread) (sym e)

  pub left_some : (ms : List Monitor) (p : ℕ) (m : Monitor) → Some p ≡ position_from (λ (m : Monitor). are_one m.on on) 0 ms → slice_get ms p ≡ Some m
      → left ms thread on ≡ (if m.owner == thread then Some (left_at ms p m) else None)
  left_some ms p m e there = left_is ms ∙ ap (left_by ms thread) (sym e) ∙ ap (left_in ms thread p) there

  pub leaves_not : (ms given : List Monitor) (p : ℕ) (d : Monitor) → given ≡ ms → Some p ≡ position_from (λ (m : Monitor). are_one m.on on) 0 ms
      → (get_or given p d).owner ≢ thread → left ms thread on ≡ None
  leaves_not ms given p d same e other =
      left_some ms p (get_or ms p d) e (read_at ms p d (within (λ (m : Monitor). are_one m.on on) ms p e))
      ∙ ap (λ (b : Bool). cond b (Some (left_at ms p (get_or ms p d))) None) (ne_eqb (get_or ms p d).owner thread (λ h. other (ap (λ (zs : List Monitor). (get_or zs p d).owner) same ∙ h)))

  pub leaves_at : (ms given made : List Monitor) (p : ℕ) (d : Monitor) → given ≡ ms → Some p ≡ position_from (λ (m : Monitor). are_one m.on on) 0 ms
      → (get_or given p d).owner ≡ thread → made ≡ left_at ms p (get_or given p d) → left ms thread on ≡ Some made
  leaves_at ms given made p d same e own is =
      left_some ms p (get_or ms p d) e (read_at ms p d (within (λ (m : Monitor). are_one m.on on) ms p e))
      ∙ ap (λ (b : Bool). cond b (Some (left_at ms p (get_or ms p d))) None) (eq-eqb (get_or ms p d).owner thread (sym (ap (λ (zs : List Monitor). (get_or zs p d).owner) same) ∙ own))
      ∙ ap Some (sym (is ∙ ap (λ (zs : List Monitor). left_at ms p (get_or zs p d)) same))

  pub holds_none : (ms : List Monitor) → None ≡ position_from (λ (m : Monitor). are_one m.on on) 0 ms → false ≡ is_some (left ms thread on)
  holds_none ms e = sym (ap (λ (o : Option (List Monitor)). is_some o) (left_none ms e))

  pub holds_some : (ms : List Monitor) (p : ℕ) (d : Monitor) → Some p ≡ position_from (λ (m : Monitor). are_one m.on on) 0 ms
      → ((get_or ms p d).owner == thread) ≡ is_some (left ms thread on)
  holds_some ms p d e =
      by ((get_or ms p d).owner == thread) ∙ sym (ap (λ (o : Option (List Monitor)). is_some o) (left_some ms p (get_or ms p d) e (read_at ms p d (within (λ (m : Monitor). are_one m.on on) ms p e)))) where
        by : (b : Bool) → b ≡ is_some (cond b (Some (left_at ms p (get_or ms p d))) None)
        by true = refl
        by false = refl

-- ---- looking

pub held_by_place : (ms : List Monitor) (thread : ℕ) (on : Value) (o : Option ℕ) → o ≡ position_from (λ (m : Monitor). are_one m.on on) 0 ms
    → is_held_by_other ms thread on ≡ option_map_or (λ (m : Monitor). not (m.owner == thread)) (option_and_then (slice_get ms) o) false
held_by_place ms thread on o e =
    ap (λ (f : Option Monitor). option_map_or (λ (m : Monitor). not (m.owner == thread)) f false)
    (find_at (λ (m : Monitor). are_one m.on on) ms ∙ ap (option_and_then (slice_get ms)) (sym e))

pub held_none : (ms : List Monitor) (thread : ℕ) (on : Value) → None ≡ position_from (λ (m : Monitor). are_one m.on on) 0 ms → false ≡ is_held_by_other ms thread on
held_none ms thread on e = sym (held_by_place ms thread on None e)

pub held_some : (ms : List Monitor) (thread : ℕ) (on : Value) (p : ℕ) (d : Monitor) → Some p ≡ position_from (λ (m : Monitor). are_one m.on on) 0 ms
    → not ((get_or ms p d).owner == thread) ≡ is_held_by_other ms thread on
held_some ms thread on p d e =
    sym (held_by_place ms thread on (Some p) e
    ∙ ap (λ (o : Option Monitor). option_map_or (λ (m : Monitor). not (m.owner == thread)) o false) (read_at ms p d (within (λ (m : Monitor). are_one m.on on) ms p e)))

pub is_within : {X : Type 0} (test : X → Bool) (xs : List X) (o : Option ℕ) → o ≡ position_from test 0 xs → IfSome o (λ (p : ℕ). p < length xs)
is_within test xs None e = tt
is_within test xs (Some p) e = within test xs p e
