-- What stands in lists that are made of blocks of four, one for each index.
use Rattle.std.proofs.Common.{◌≡◌, ℕ, zero, suc, ◌+◌, ◌*◌, ◌<◌, List, [], ◌∷◌, ◌++◌, length, Some, refl, ap, ◌∙◌, arith}
use Rattle.std.specs.Prelude.{slice_get}

-- What stands in the first list stands in both together,
pub get_still : {X : Type 0} (xs ys : List X) (at : ℕ) (x : X) → slice_get xs at ≡ Some x → slice_get (xs ++ ys) at ≡ Some x
get_still [] ys at x h = absurd cc
get_still (y ∷ xs) ys zero x h = h
get_still (y ∷ xs) ys (suc at) x h = get_still xs ys at x h

-- and what stands in the second stands after all of the first.
pub get_past : {X : Type 0} (xs ys : List X) (k at : ℕ) → at ≡ length xs + k → slice_get (xs ++ ys) at ≡ slice_get ys k
get_past [] ys k at e = let here : at ≡ k = omega arith in ap (slice_get ys) here
get_past (x ∷ xs) ys k zero e = absurd (omega arith)
get_past (x ∷ xs) ys k (suc at) e = get_past xs ys k at (omega arith)

module _ {X : Type 0} (block : ℕ → List X) (blocks : ℕ → ℕ → List X) (four : (index : ℕ) → length (block index) ≡ 4)
    (first : (index n : ℕ) → blocks index (suc n) ≡ block index ++ blocks (index + 1) n) where
  -- the k-th of the block after so many others
  block_after : (n index others k at : ℕ) (x : X) → others < n → at ≡ 4 * others + k → slice_get (block (index + others)) k ≡ Some x → slice_get (blocks index n) at ≡ Some x
  block_after zero index others k at x within e h = absurd (omega arith)
  block_after (suc n) index zero k at x within e h =
      let here : at ≡ k = omega arith in
      let same : index ≡ index + zero = omega arith in
      ap (λ (xs : List X). slice_get xs at) (first index n)
      ∙ get_still (block index) (blocks (index + 1) n) at x (ap (slice_get (block index)) here ∙ ap (λ (i : ℕ). slice_get (block i) k) same ∙ h)
  block_after (suc n) index (suc others) k at x within e h =
      let past : at ≡ length (block index) + (4 * others + k) = omega (arith, four index) in
      let same : index + 1 + others ≡ index + suc others = omega arith in
      ap (λ (xs : List X). slice_get xs at) (first index n)
      ∙ get_past (block index) (blocks (index + 1) n) (4 * others + k) at past
      ∙ block_after n (index + 1) others k (4 * others + k) x (omega arith) refl (ap (λ (i : ℕ). slice_get (block i) k) same ∙ h)

  -- the k-th of the block of this index, where they begin with that of 0
  pub block_at : (n index k at : ℕ) (x : X) → index < n → at ≡ 4 * index + k → slice_get (block index) k ≡ Some x → slice_get (blocks 0 n) at ≡ Some x
  block_at n index k at x within e h =
      let same : 0 + index ≡ index = omega arith in
      block_after n 0 index k at x within e (ap (λ (i : ℕ). slice_get (block i) k) same ∙ h)
