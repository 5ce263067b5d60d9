-- Lists of which the first items are taken, and in which one is set.
use Rattle.std.proofs.Common.{◌≡◌, ℕ, zero, suc, ◌<◌, ◌≤◌, ◌-◌, ◌+◌, List, [], ◌∷◌, ◌++◌, length, take, drop, replicate, Some, refl, ap, ◌∙◌, subst, arith}
use Rattle.std.specs.Prelude.{slice_get, slice_set}
use Rattle.std.proofs.Common.{length-append}
use Rattle.std.proofs.Math.Seq.{take-append-add}
use Rattle.std.proofs.lemmas.List.{take-replicate, length-replicate}

pub get_taken : {X : Type 0} (n : ℕ) (xs : List X) (i : ℕ) (x : X) → slice_get (take n xs) i ≡ Some x → slice_get xs i ≡ Some x
get_taken zero xs i x e = absurd cc
get_taken (suc n) [] i x e = absurd cc
get_taken (suc n) (y ∷ xs) zero x e = e
get_taken (suc n) (y ∷ xs) (suc i) x e = get_taken n xs i x e

pub get_within : {X : Type 0} (xs : List X) (i : ℕ) (x : X) → slice_get xs i ≡ Some x → i < length xs
get_within [] i x e = absurd cc
get_within (y ∷ xs) zero x e = omega arith
get_within (y ∷ xs) (suc i) x e = let h : i < length xs = get_within xs i x e in omega arith

pub set_taken : {X : Type 0} (n : ℕ) (xs : List X) (i : ℕ) (x : X) → take n (slice_set xs i x) ≡ slice_set (take n xs) i x
set_taken zero xs i x = refl
set_taken (suc n) [] i x = refl
set_taken (suc n) (y ∷ xs) zero x = refl
set_taken (suc n) (y ∷ xs) (suc i) x = ap (λ zs. y ∷ zs) (set_taken n xs i x)

pub set_dropped : {X : Type 0} (n : ℕ) (xs : List X) (i : ℕ) (x : X) → i < n → drop n (slice_set xs i x) ≡ drop n xs
set_dropped zero xs i x h = absurd (omega (arith, h))
set_dropped (suc n) [] i x h = refl
set_dropped (suc n) (y ∷ xs) zero x h = refl
set_dropped (suc n) (y ∷ xs) (suc i) x h = set_dropped n xs i x (omega (arith, h))

pub many_set : {X : Type 0} (xs : List X) (i : ℕ) (x : X) → length (slice_set xs i x) ≡ length xs
many_set [] i x = refl
many_set (y ∷ xs) zero x = refl
many_set (y ∷ xs) (suc i) x = ap (λ (n : ℕ). suc n) (many_set xs i x)

pub many_taken : {X : Type 0} (n : ℕ) (xs : List X) → length (take n xs) ≤ length xs
many_taken zero xs = omega arith
many_taken (suc n) [] = omega arith
many_taken (suc n) (y ∷ xs) = let h : length (take n xs) ≤ length xs = many_taken n xs in omega arith

-- what a list is filled up to, of what it is filled up to further
pub take_filled : {X : Type 0} (xs : List X) (n m : ℕ) (x : X) → length xs ≤ n → n ≤ m
    → take n (xs ++ replicate (m - length xs) x) ≡ xs ++ replicate (n - length xs) x
take_filled {X = X} xs n m x h k =
    let e : length xs + (n - length xs) ≡ n = omega arith in
    let few : n - length xs ≤ m - length xs = omega arith in
    subst (λ (j : ℕ). take j (xs ++ replicate (m - length xs) x) ≡ xs ++ replicate (n - length xs) x) e
    (take-append-add xs (replicate (m - length xs) x) (n - length xs)
    ∙ ap (λ (zs : List X). xs ++ zs) (take-replicate (n - length xs) (m - length xs) x few))

pub many_filled : {X : Type 0} (xs : List X) (n : ℕ) (x : X) → length xs ≤ n → length (xs ++ replicate (n - length xs) x) ≡ n
many_filled xs n x h = simp (length-append, length-replicate) (omega arith)
