-- Lists whose items belong together, place by place.
use Rattle.std.proofs.Common.{◌≡◌, ℕ, zero, suc, ◌+◌, ◌<◌, Bool, cond, List, [], ◌∷◌, length, map, Option, Some, refl, subst, ap, ap₂, arith}
use Rattle.std.specs.Prelude.{slice_get}
use Rattle.std.specs.List.{position_from}
use Rattle.guest_erasing.specs.Mirrors.{AreAlike}

-- what stands at a place of a list
pub stands : {X : Type 0} (xs : List X) (i : ℕ) → i < length xs → (x : X) × (slice_get xs i ≡ Some x)
stands [] i within = absurd (omega (arith, within))
stands (x ∷ xs) zero within = (x, refl)
stands (x ∷ xs) (suc i) within = stands xs i (omega (arith, within))

module _ {X Y : Type 0} (Belong : X → Y → Type 0) where
  pub alike_at : (xs : List X) (ys : List Y) (i : ℕ) (x : X) → AreAlike Belong xs ys → slice_get xs i ≡ Some x
      → (y : Y) × (slice_get ys i ≡ Some y) × Belong x y
  alike_at [] ys i x h e = absurd cc
  alike_at (z ∷ xs) [] i x h e = absurd h
  alike_at (z ∷ xs) (y ∷ ys) zero x h e =
      let same : z ≡ x = cc in
      (y, refl, subst (λ (w : X). Belong w y) same h.0)
  alike_at (z ∷ xs) (y ∷ ys) (suc i) x h e = alike_at xs ys i x h.1 e

  pub alike_length : (xs : List X) (ys : List Y) → AreAlike Belong xs ys → length ys ≡ length xs
  alike_length [] [] h = refl
  alike_length [] (y ∷ ys) h = absurd h
  alike_length (x ∷ xs) [] h = absurd h
  alike_length (x ∷ xs) (y ∷ ys) h = ap suc (alike_length xs ys h.1)

  -- what is the same of two that belong together is the same of the lists
  pub alike_map : {Z : Type 0} (f : X → Z) (g : Y → Z) → ((x : X) (y : Y) → Belong x y → g y ≡ f x)
      → (xs : List X) (ys : List Y) → AreAlike Belong xs ys → map g ys ≡ map f xs
  alike_map f g same [] [] h = refl
  alike_map f g same [] (y ∷ ys) h = absurd h
  alike_map f g same (x ∷ xs) [] h = absurd h
  alike_map f g same (x ∷ xs) (y ∷ ys) h = ap₂ ◌∷◌ (same x y h.0) (alike_map f g same xs ys h.1)

  pub alike_place : (p : X → Bool) (q : Y → Bool) → ((x : X) (y : Y) → Belong x y → q y ≡ p x)
      → (i : ℕ) (xs : List X) (ys : List Y) → AreAlike Belong xs ys → position_from q i ys ≡ position_from p i xs
  alike_place p q same i [] [] h = refl
  alike_place p q same i [] (y ∷ ys) h = absurd h
  alike_place p q same i (x ∷ xs) [] h = absurd h
  alike_place p q same i (x ∷ xs) (y ∷ ys) h =
      ap₂ (λ (b : Bool) (o : Option ℕ). cond b (Some i) o) (same x y h.0) (alike_place p q same (i + 1) xs ys h.1)
