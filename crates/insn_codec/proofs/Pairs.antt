-- Lists of values and of their types, one beside the other.
use Rattle.std.proofs.Common.{◌≡◌, ℕ, zero, suc, Bool, List, [], ◌∷◌, ◌++◌, length, drop, Option, Some, None, refl, ap, subst, ◌⊎◌, inl, inr}
use Rattle.std.specs.Prelude.{IsTrue, slice_get, slice_set, option_map, option_and_then}
use Rattle.std.specs.List.{filter_map}
use Rattle.insn_codec.specs.Following.{Paired}

pub and_then_of : {A B : Type 0} (f : A → Option B) (o : Option A) (y : B) → option_and_then f o ≡ Some y → (x : A) × (o ≡ Some x) × (f x ≡ Some y)
and_then_of f None y e = absurd cc
and_then_of f (Some x) y e = (x, refl, e)

some_is : {A : Type 0} (x y : A) → ◌≡◌ {A = Option A} (Some x) (Some y) → x ≡ y
some_is x y e = cc

pub map_of : {A B : Type 0} (f : A → B) (o : Option A) (y : B) → option_map f o ≡ Some y → (x : A) × (o ≡ Some x) × (f x ≡ y)
map_of f None y e = absurd cc
map_of f (Some x) y e = (x, refl, some_is (f x) y e)

module _ {V T : Type 0} (of : V → T → Bool) where
  pub length_paired : (vs : List V) (ts : List T) → Paired of vs ts → length vs ≡ length ts
  length_paired [] [] p = refl
  length_paired [] (t ∷ ts) p = absurd p
  length_paired (v ∷ vs) [] p = absurd p
  length_paired (v ∷ vs) (t ∷ ts) p = ap suc (length_paired vs ts p.1)

  pub get_paired : (vs : List V) (ts : List T) (i : ℕ) (t : T) → Paired of vs ts → slice_get ts i ≡ Some t → (v : V) × (slice_get vs i ≡ Some v) × IsTrue (of v t)
  get_paired [] [] i t p e = absurd cc
  get_paired [] (u ∷ ts) i t p e = absurd p
  get_paired (v ∷ vs) [] i t p e = absurd p
  get_paired (v ∷ vs) (u ∷ ts) zero t p e = (v, refl, subst (λ (x : T). IsTrue (of v x)) (some_is u t e) p.0)
  get_paired (v ∷ vs) (u ∷ ts) (suc i) t p e = get_paired vs ts i t p.1 e

  pub drop_paired : (n : ℕ) (vs : List V) (ts : List T) → Paired of vs ts → Paired of (drop n vs) (drop n ts)
  drop_paired zero vs ts p = p
  drop_paired (suc n) [] [] p = tt
  drop_paired (suc n) [] (t ∷ ts) p = absurd p
  drop_paired (suc n) (v ∷ vs) [] p = absurd p
  drop_paired (suc n) (v ∷ vs) (t ∷ ts) p = drop_paired n vs ts p.1

  pub set_paired : (vs : List V) (ts : List T) (i : ℕ) (v : V) (t : T) → IsTrue (of v t) → Paired of vs ts → Paired of (slice_set vs i v) (slice_set ts i t)
  set_paired [] [] i v t h p = tt
  set_paired [] (u ∷ ts) i v t h p = absurd p
  set_paired (w ∷ vs) [] i v t h p = absurd p
  set_paired (w ∷ vs) (u ∷ ts) zero v t h p = (h, p.1)
  set_paired (w ∷ vs) (u ∷ ts) (suc i) v t h p = (p.0, set_paired vs ts i v t h p.1)

  pub append_paired : (vs ws : List V) (ts us : List T) → Paired of vs ts → Paired of ws us → Paired of (vs ++ ws) (ts ++ us)
  append_paired [] ws [] us p q = q
  append_paired [] ws (t ∷ ts) us p q = absurd p
  append_paired (v ∷ vs) ws [] us p q = absurd p
  append_paired (v ∷ vs) ws (t ∷ ts) us p q = (p.0, append_paired vs ws ts us p.1 q)

  -- two places that are both there, or both not
  abbrev Beside : Option V → Option T → Type 0
  Beside o q = ((v : V) × (t : T) × (o ≡ Some v) × (q ≡ Some t) × IsTrue (of v t)) ⊎ ((o ≡ None) × (q ≡ None))

  beside : (vs : List V) (ts : List T) (i : ℕ) → Paired of vs ts → Beside (slice_get vs i) (slice_get ts i)
  beside [] [] i p = inr (refl, refl)
  beside [] (t ∷ ts) i p = absurd p
  beside (v ∷ vs) [] i p = absurd p
  beside (v ∷ vs) (t ∷ ts) zero p = inl (v, t, refl, refl, p.0)
  beside (v ∷ vs) (t ∷ ts) (suc i) p = beside vs ts i p.1

  pub picked_paired : (vs : List V) (ts : List T) (order : List ℕ) → Paired of vs ts → Paired of (filter_map (slice_get vs) order) (filter_map (slice_get ts) order)
  picked_paired vs ts [] p = tt
  picked_paired vs ts (i ∷ order) p = elim (beside vs ts i p) [
    | inl both ↦ rw (both.2, both.3) (both.4, picked_paired vs ts order p)
    | inr none ↦ rw (none.0, none.1) (picked_paired vs ts order p)
  ]
