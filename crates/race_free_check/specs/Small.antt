-- Numbers that are small enough to be added without overflow, and lists of the same numbers. (docs/RACES.md)
use Rattle.std.specs.Prelude.{◌≡◌, ℕ, ℤ, pos, neg_ℤ, ◌≤ℤ◌, Bool, List}
use Rattle.std.specs.Ordering.{int_eq}
use Rattle.std.specs.List.{AllByRecursion, list_any}

-- The number is no greater than the bound, and no less than the bound below 0.
pub record IsSmall (bound : ℕ) (n : ℤ) : Type 0 where
  pub low : neg_ℤ (pos bound) ≤ℤ n
  pub high : n ≤ℤ pos bound

abbrev pub AreSmall : ℕ → List ℤ → Type 0
AreSmall bound numbers = AllByRecursion (IsSmall bound) numbers

-- whether the number is among these
abbrev pub has : List ℤ → ℤ → Bool
has numbers n = list_any (int_eq n) numbers

-- The lists have the same numbers, in any order, each as often as it may be.
abbrev pub HasSame : List ℤ → List ℤ → Type 0
HasSame numbers others = (n : ℤ) → has numbers n ≡ has others n
