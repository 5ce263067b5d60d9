-- Monitors by the keys of their values.
use Rattle.std.proofs.Common.{◌≡◌, ℕ, ◌+◌, ◌*◌, ◌<◌, zero, suc, false, cond, eqb, List, [], ◌∷◌, ◌++◌, take, drop, Option, Some, None, refl, sym, ap, subst, ◌∙◌, arith}
use Rattle.std.specs.Prelude.{IfSome, is_some, option_and_then, option_map, slice_get, slice_set}
use Rattle.std.specs.List.{list_any, position_from}
use Rattle.std.proofs.lemmas.Bool.Decides.{nat_tests}
use Rattle.bytecode_model.proofs.Placing.{has_place}
use Rattle.guest_heap.specs.declared.object.Monitor.{Monitor}
use Rattle.guest_heap.specs.declared.value.Value.{Value}
use Rattle.guest_heap.specs.declared.value.Value.TheVariants as values
use Rattle.guest_frames.specs.Values.{are_one}
use Rattle.guest_threads.specs.KeyPlaces.{is_key}
use Rattle.guest_threads.specs.Monitors.{key_of, keys_of}
use Rattle.guest_threads.proofs.Numbered.{without, without_is}

-- ---- a key for each reference

same_tag : (i j tag : ℕ) → eqb (i * 4 + tag) (j * 4 + tag) ≡ eqb i j
same_tag i j tag = grind (arith, nat_tests)

-- Values of one kind have numbers with one remainder.
other_tag : (i j a b : ℕ) → a < 4 → b < 4 → eqb a b ≡ false → eqb (i * 4 + a) (j * 4 + b) ≡ false
other_tag i j a b s t apart = grind (arith, nat_tests)

one_by_key : (v w : Value) → IfSome (key_of w) (λ key. is_key key (key_of v) ≡ are_one v w)
one_by_key v (values.Int n) = tt
one_by_key (values.Int n) values.Null = refl
one_by_key values.Null values.Null = refl
one_by_key (values.Ref i) values.Null = other_tag i 0 1 0 (omega arith) (omega arith) refl
one_by_key (values.Class i) values.Null = other_tag i 0 2 0 (omega arith) (omega arith) refl
one_by_key (values.Lit i) values.Null = other_tag i 0 3 0 (omega arith) (omega arith) refl
one_by_key (values.Int n) (values.Ref j) = refl
one_by_key values.Null (values.Ref j) = other_tag 0 j 0 1 (omega arith) (omega arith) refl
one_by_key (values.Ref i) (values.Ref j) = same_tag i j 1
one_by_key (values.Class i) (values.Ref j) = other_tag i j 2 1 (omega arith) (omega arith) refl
one_by_key (values.Lit i) (values.Ref j) = other_tag i j 3 1 (omega arith) (omega arith) refl
one_by_key (values.Int n) (values.Class j) = refl
one_by_key values.Null (values.Class j) = other_tag 0 j 0 2 (omega arith) (omega arith) refl
one_by_key (values.Ref i) (values.Class j) = other_tag i j 1 2 (omega arith) (omega arith) refl
one_by_key (values.Class i) (values.Class j) = same_tag i j 2
one_by_key (values.Lit i) (values.Class j) = other_tag i j 3 2 (omega arith) (omega arith) refl
one_by_key (values.Int n) (values.Lit j) = refl
one_by_key values.Null (values.Lit j) = other_tag 0 j 0 3 (omega arith) (omega arith) refl
one_by_key (values.Ref i) (values.Lit j) = other_tag i j 1 3 (omega arith) (omega arith) refl
one_by_key (values.Class i) (values.Lit j) = other_tag i j 2 3 (omega arith) (omega arith) refl
one_by_key (values.Lit i) (values.Lit j) = same_tag i j 3

-- A value without a key is one with none.
none_by_key : (v w : Value) → key_of w ≡ None → are_one v w ≡ false
none_by_key (values.Int m) (values.Int n) e = refl
none_by_key values.Null (values.Int n) e = refl
none_by_key (values.Ref i) (values.Int n) e = refl
none_by_key (values.Class i) (values.Int n) e = refl
none_by_key (values.Lit i) (values.Int n) e = refl
none_by_key v values.Null e = absurd cc
none_by_key v (values.Ref j) e = absurd cc
none_by_key v (values.Class j) e = absurd cc
none_by_key v (values.Lit j) e = absurd cc

-- ---- places

module _ (on : Value) where
  by_keys : (key at : ℕ) (ms : List Monitor) → ((v : Value) → is_key key (key_of v) ≡ are_one v on)
      → position_from (is_key key) at (keys_of ms) ≡ position_from (λ (m : Monitor). are_one m.on on) at ms
  by_keys key at [] same = refl
  by_keys key at (m ∷ ms) same =
      ap (λ b. cond b (Some at) (position_from (is_key key) (at + 1) (keys_of ms))) (same m.on)
      ∙ ap (λ o. cond (are_one m.on on) (Some at) o) (by_keys key (at + 1) ms same)

  nowhere : (at : ℕ) (ms : List Monitor) → ((v : Value) → are_one v on ≡ false) → position_from (λ (m : Monitor). are_one m.on on) at ms ≡ None
  nowhere at [] none = refl
  nowhere at (m ∷ ms) none =
      ap (λ b. cond b (Some at) (position_from (λ (n : Monitor). are_one n.on on) (at + 1) ms)) (none m.on) ∙ nowhere (at + 1) ms none

  -- the place of a value is that of its key
  place_by : (ms : List Monitor) (key : Option ℕ) → key ≡ key_of on → IfSome key (λ k. (v : Value) → is_key k (key_of v) ≡ are_one v on)
      → option_and_then (λ k. position_from (is_key k) 0 (keys_of ms)) key ≡ position_from (λ (m : Monitor). are_one m.on on) 0 ms
  place_by ms None e same = sym (nowhere 0 ms (λ v. none_by_key v on (sym e)))
  place_by ms (Some k) e same = by_keys k 0 ms same

  all_ones : (key : Option ℕ) → key ≡ key_of on → IfSome key (λ k. (v : Value) → is_key k (key_of v) ≡ are_one v on)
  all_ones None e = tt
  all_ones (Some k) e = λ v. if_key (key_of on) k (sym e) (λ key. is_key key (key_of v) ≡ are_one v on) (one_by_key v on) where
    if_key : (o : Option ℕ) (k : ℕ) → o ≡ Some k → (P : ℕ → Type 0) → IfSome o P → P k
    if_key None k e P h = absurd cc
    if_key (Some j) k e P h = let same : j ≡ k = cc in subst P same h

  pub place_of_key : (ms : List Monitor) (keys : List (Option ℕ)) → keys ≡ keys_of ms
      → option_and_then (λ k. position_from (is_key k) 0 keys) (key_of on) ≡ position_from (λ (m : Monitor). are_one m.on on) 0 ms
  place_of_key ms keys is =
      ap (λ l. option_and_then (λ k. position_from (is_key k) 0 l) (key_of on)) is ∙ place_by ms (key_of on) refl (all_ones (key_of on) refl)

  -- a value that no monitor is of has a key that none of them has
  pub key_is_new : (ms : List Monitor) (keys : List (Option ℕ)) → keys ≡ keys_of ms → None ≡ position_from (λ (m : Monitor). are_one m.on on) 0 ms
      → IfSome (key_of on) (λ k. list_any (is_key k) keys ≡ false)
  key_is_new ms keys is none = by (key_of on) (place_of_key ms keys is ∙ sym none) where
    by : (o : Option ℕ) → option_and_then (λ k. position_from (is_key k) 0 keys) o ≡ None → IfSome o (λ k. list_any (is_key k) keys ≡ false)
    by None e = tt
    by (Some k) e = sym (has_place (is_key k) 0 keys) ∙ ap (λ (o : Option ℕ). is_some o) e

-- ---- changes

pub keys_pushed : (ms : List Monitor) (m : Monitor) → keys_of ms ++ key_of m.on ∷ [] ≡ keys_of (ms ++ m ∷ [])
keys_pushed [] m = refl
keys_pushed (n ∷ ms) m = ap (λ l. key_of n.on ∷ l) (keys_pushed ms m)

pub keys_set : (ms : List Monitor) (place : ℕ) (m made : Monitor) → slice_get ms place ≡ Some m → made.on ≡ m.on → keys_of (slice_set ms place made) ≡ keys_of ms
keys_set [] place m made there same = absurd cc
keys_set (n ∷ ms) zero m made there same = let first : n ≡ m = cc in ap (λ v. key_of v ∷ keys_of ms) (same ∙ ap (λ (x : Monitor). x.on) (sym first))
keys_set (n ∷ ms) (suc place) m made there same = ap (λ l. key_of n.on ∷ l) (keys_set ms place m made there same)

keys_left : (ms : List Monitor) (place : ℕ) → take place (keys_of ms) ++ drop (place + 1) (keys_of ms) ≡ keys_of (take place ms ++ drop (place + 1) ms)
keys_left ms place = without_is place (keys_of ms) ∙ by ms place ∙ ap keys_of (sym (without_is place ms)) where
  by : (ms : List Monitor) (place : ℕ) → without place (keys_of ms) ≡ keys_of (without place ms)
  by [] place = refl
  by (m ∷ ms) zero = refl
  by (m ∷ ms) (suc place) = ap (λ l. key_of m.on ∷ l) (by ms place)

-- ---- the same where keys are noted

pub if_new : (on : Value) (ms : List Monitor) (noted : Option (List (Option ℕ))) (key : Option ℕ) → key ≡ key_of on
    → None ≡ position_from (λ (m : Monitor). are_one m.on on) 0 ms → IfSome noted (λ keys. keys ≡ keys_of ms)
    → IfSome noted (λ keys. IfSome key (λ k. list_any (is_key k) keys ≡ false))
if_new on ms None key is none are = tt
if_new on ms (Some keys) key is none are = subst (λ (o : Option ℕ). IfSome o (λ k. list_any (is_key k) keys ≡ false)) (sym is) (key_is_new on ms keys are none)

pub if_left : (ms left : List Monitor) (place : ℕ) (noted forgot : Option (List (Option ℕ))) → IfSome noted (λ keys. keys ≡ keys_of ms)
    → left ≡ take place ms ++ drop (place + 1) ms → forgot ≡ option_map (λ keys. take place keys ++ drop (place + 1) keys) noted
    → IfSome forgot (λ keys. keys ≡ keys_of left)
if_left ms left place noted forgot are is made = subst (λ (o : Option (List (Option ℕ))). IfSome o (λ keys. keys ≡ keys_of left)) (sym made) (by noted are) where
  by : (noted : Option (List (Option ℕ))) → IfSome noted (λ keys. keys ≡ keys_of ms)
      → IfSome (option_map (λ (keys : List (Option ℕ)). take place keys ++ drop (place + 1) keys) noted) (λ keys. keys ≡ keys_of left)
  by None h = tt
  by (Some keys) h = ap (λ (l : List (Option ℕ)). take place l ++ drop (place + 1) l) h ∙ keys_left ms place ∙ ap keys_of (sym is)

pub if_set : (ms : List Monitor) (place : ℕ) (m made : Monitor) (noted : Option (List (Option ℕ))) → slice_get ms place ≡ Some m → made.on ≡ m.on
    → IfSome noted (λ keys. keys ≡ keys_of ms) → IfSome noted (λ keys. keys ≡ keys_of (slice_set ms place made))
if_set ms place m made None there same are = tt
if_set ms place m made (Some keys) there same are = are ∙ sym (keys_set ms place m made there same)
