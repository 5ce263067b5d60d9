-- The first place where a test passes, and lists with one item changed.
use Rattle.std.proofs.Common.{◌≡◌, ◌≢◌, ℕ, zero, suc, ◌+◌, ◌-◌, ◌≤◌, Bool, true, false, cond, List, [], ◌∷◌, Some, refl, sym, ap, subst, ◌∙◌, arith, slice_set}
use Rattle.std.specs.Prelude.{slice_get, map}
use Rattle.std.specs.List.{position_from}

pub record Stands {X : Type 0} (t : X → Bool) (i : ℕ) (xs : List X) (k : ℕ) : Type 0 where
  pub item : X
  pub following : i ≤ k
  pub there : slice_get xs (k - i) ≡ Some item
  pub passes : t item ≡ true

stands_next : {X : Type 0} (t : X → Bool) (i : ℕ) (x : X) (xs : List X) (k : ℕ) → (position_from t (i + 1) xs ≡ Some k → Stands t (i + 1) xs k) → position_from t i (x ∷ xs) ≡ Some k → Stands t i (x ∷ xs) k
stands_next t i x xs k later h = by (t x) refl h where
  by : (b : Bool) → t x ≡ b → cond b (Some i) (position_from t (i + 1) xs) ≡ Some k → Stands t i (x ∷ xs) k
  by true is h =
      let same : i ≡ k = cc in
      let n : k - i ≡ 0 = omega arith in
      record { item = x; following = omega arith; there = rw n refl; passes = is }
  by false is h =
      let s = later h in
      let n : k - i ≡ suc (k - (i + 1)) = omega (arith, s.following) in
      record { item = s.item; following = omega (arith, s.following); there = rw n s.there; passes = s.passes }

pub stands : {X : Type 0} (t : X → Bool) (i : ℕ) (xs : List X) (k : ℕ) → position_from t i xs ≡ Some k → Stands t i xs k
stands t i [] k h = absurd cc
stands t i (x ∷ xs) k h = stands_next t i x xs k (stands t (i + 1) xs k) h

-- the item in the first place passes
pub passes_at : {X : Type 0} (t : X → Bool) (xs : List X) (k : ℕ) (x : X) → position_from t 0 xs ≡ Some k → slice_get xs k ≡ Some x → t x ≡ true
passes_at t xs k x first there =
    let s = stands t 0 xs k first in
    let n : k - 0 ≡ k = omega arith in
    let found : slice_get xs k ≡ Some s.item = subst (λ (j : ℕ). slice_get xs j ≡ Some s.item) n s.there in
    let same : s.item ≡ x = cc in
    sym (ap t same) ∙ s.passes

pub position_from-map : {X Y : Type 0} (v : X → Y) (t : Y → Bool) (i : ℕ) (xs : List X) → position_from t i (map v xs) ≡ position_from (λ x. t (v x)) i xs
position_from-map v t i [] = refl
position_from-map v t i (x ∷ xs) = ap (cond (t (v x)) (Some i)) (position_from-map v t (i + 1) xs)

pub slice_get-set_here : {X : Type 0} (xs : List X) (k : ℕ) (x y : X) → slice_get xs k ≡ Some x → slice_get (slice_set xs k y) k ≡ Some y
slice_get-set_here [] k x y there = absurd cc
slice_get-set_here (z ∷ xs) zero x y there = refl
slice_get-set_here (z ∷ xs) (suc k) x y there = slice_get-set_here xs k x y there

pub slice_get-set_other : {X : Type 0} (xs : List X) (k j : ℕ) (y : X) → k ≢ j → slice_get (slice_set xs k y) j ≡ slice_get xs j
slice_get-set_other [] k j y apart = refl
slice_get-set_other (z ∷ xs) zero zero y apart = absurd (apart refl)
slice_get-set_other (z ∷ xs) zero (suc j) y apart = refl
slice_get-set_other (z ∷ xs) (suc k) zero y apart = refl
slice_get-set_other (z ∷ xs) (suc k) (suc j) y apart = slice_get-set_other xs k j y (λ same. apart (ap (λ (n : ℕ). suc n) same))

pub map-set : {X Y : Type 0} (v : X → Y) (xs : List X) (k : ℕ) (y : X) → map v (slice_set xs k y) ≡ slice_set (map v xs) k (v y)
map-set v [] k y = refl
map-set v (z ∷ xs) zero y = refl
map-set v (z ∷ xs) (suc k) y = ap (λ ys. v z ∷ ys) (map-set v xs k y)

pub set_same : {X : Type 0} (xs : List X) (k : ℕ) (x : X) → slice_get xs k ≡ Some x → slice_set xs k x ≡ xs
set_same [] k x there = refl
set_same (z ∷ xs) zero x there =
    let same : z ≡ x = cc in
    ap (λ y. y ∷ xs) (sym same)
set_same (z ∷ xs) (suc k) x there = ap (λ ys. z ∷ ys) (set_same xs k x there)
