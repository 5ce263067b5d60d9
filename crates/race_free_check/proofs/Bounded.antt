-- Numbers that are small enough to be added without overflow, and those that lie between numbers of 32 bits.
use Rattle.std.proofs.Common.{◌≡◌, ℕ, zero, suc, ◌^◌, ◌<◌, ℤ, Bool, true, false, cond, List, [], ◌∷◌, ◌++◌, length, get_or, filter, refl, arith}
use Rattle.std.specs.Prelude.{◌≤ℤ◌, int_le, flat_map, FitsSigned}
use Rattle.std.specs.Int.{w32}
use Rattle.std.specs.List.{AllByRecursion}
use Rattle.std.proofs.lemmas.Bool.{and_parts}
use Rattle.std.proofs.lemmas.Int.{ints}
use Rattle.conspec_automaton.specs.Points.{around, ascending, near}
use Rattle.conspec_automaton.specs.Range.{is_between}
use Rattle.race_free_check.specs.Small.{AreSmall, IsSmall}
use Rattle.race_free_check.proofs.Rising.{ascending_all}

-- ---- what holds of all

pub all_joined : {X : Type 0} (P : X → Type 0) (xs ys : List X) → AllByRecursion P xs → AllByRecursion P ys → AllByRecursion P (xs ++ ys)
all_joined P [] ys first second = second
all_joined P (x ∷ xs) ys first second = (first.0, all_joined P xs ys first.1 second)

pub all_pushed : {X : Type 0} (P : X → Type 0) (xs : List X) (x : X) → AllByRecursion P xs → P x → AllByRecursion P (xs ++ x ∷ [])
all_pushed P xs x all p = all_joined P xs (x ∷ []) all (p, tt)

pub all_at : {X : Type 0} (P : X → Type 0) (xs : List X) (i : ℕ) (d : X) → AllByRecursion P xs → i < length xs → P (get_or xs i d)
all_at P [] i d all below = absurd (omega arith)
all_at P (x ∷ xs) zero d all below = all.0
all_at P (x ∷ xs) (suc i) d all below = all_at P xs i d all.1 (omega arith)

all_weaker : {X : Type 0} (P Q : X → Type 0) → ((x : X) → P x → Q x) → (xs : List X) → AllByRecursion P xs → AllByRecursion Q xs
all_weaker P Q weaker [] all = tt
all_weaker P Q weaker (x ∷ xs) all = (weaker x all.0, all_weaker P Q weaker xs all.1)

pub filtered_all : {X : Type 0} (test : X → Bool) (xs : List X) → AllByRecursion (λ x. test x ≡ true) (filter test xs)
filtered_all test [] = tt
filtered_all test (x ∷ xs) = by (test x) refl (filtered_all test xs) where
  by : (b : Bool) → test x ≡ b → AllByRecursion (λ y. test y ≡ true) (filter test xs) → AllByRecursion (λ y. test y ≡ true) (cond b (x ∷ filter test xs) (filter test xs))
  by true e rest = (e, rest)
  by false e rest = rest

-- ---- small numbers

pub small_pushed : (bound : ℕ) (ns : List ℤ) (n : ℤ) → AreSmall bound ns → IsSmall bound n → AreSmall bound (ns ++ n ∷ [])
small_pushed bound ns n all small = all_pushed (IsSmall bound) ns n all small

pub small_at : (bound : ℕ) (ns : List ℤ) (i : ℕ) (d : ℤ) → AreSmall bound ns → i < length ns → IsSmall bound (get_or ns i d)
small_at bound ns i d all below = all_at (IsSmall bound) ns i d all below

pub all_wider : (ns : List ℤ) → AreSmall (2 ^ 31) ns → AreSmall (2 ^ 34) ns
all_wider ns all = all_weaker (IsSmall (2 ^ 31)) (IsSmall (2 ^ 34)) (λ n small. record { low = omega (arith, ints); high = omega (arith, ints) }) ns all

pub small_in_order : (bound : ℕ) (ns : List ℤ) → AreSmall bound ns → AreSmall bound (ascending ns)
small_in_order bound ns all = ascending_all (IsSmall bound) ns all

-- ---- numbers between two others

from_le : (n m : ℤ) → int_le n m ≡ true → n ≤ℤ m
from_le n m e = grind (arith, ints)

fits_between : (low high n : ℤ) → FitsSigned w32 low → FitsSigned w32 high → is_between low high n ≡ true → FitsSigned w32 n
fits_between low high n least most e =
    let p = and_parts (int_le low n) (int_le n high) e in
    let over = from_le low n p.0 in
    let under = from_le n high p.1 in
    omega (arith, ints)

pub near_between : (low high : ℤ) (ns : List ℤ) → AllByRecursion (λ n. is_between low high n ≡ true) (near low high ns)
near_between low high ns = filtered_all (is_between low high) (flat_map around ns)

-- What lies near numbers, between two of 32 bits, has 32 bits.
pub near_fits : (low high : ℤ) (ns : List ℤ) → FitsSigned w32 low → FitsSigned w32 high → AllByRecursion (FitsSigned w32) (near low high ns)
near_fits low high ns least most =
    all_weaker (λ n. is_between low high n ≡ true) (FitsSigned w32) (λ n. fits_between low high n least most) (near low high ns) (near_between low high ns)
