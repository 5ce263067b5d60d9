-- Keys in an order, each with a number that rises along it. (docs/MACHINE.md)
use Rattle.std.specs.Prelude.{◌≡◌, ◌≤◌, ◌+◌, ◌==◌, ⊤, ℕ, Bool, false, if◌then◌else◌, List, [], ◌∷◌, length, Option, Some, None, IfSome}
use Rattle.std.specs.BTreeMap.{BTreeMap, get}
use Rattle.std.specs.List.{list_any}
use Rattle.std.specs.Ordering.{nat_cmp}

abbrev pub is_key : ℕ → Option ℕ → Bool
is_key key None = false
is_key key (Some k) = k == key

-- the number beside the first place that has the key
abbrev pub number_of : ℕ → List (Option ℕ) → List ℕ → Option ℕ
number_of key [] numbers = None
number_of key (k ∷ keys) [] = None
number_of key (k ∷ keys) (n ∷ numbers) = if is_key key k then Some n else number_of key keys numbers

-- No key stands twice.
abbrev pub AreApart : List (Option ℕ) → Type 0
AreApart [] = ⊤
AreApart (k ∷ keys) = IfSome k (λ key. list_any (is_key key) keys ≡ false) × AreApart keys

-- Each number is above the one before it; the first is no lower than `low`, and each is below `next`.
abbrev pub RiseBetween : ℕ → List ℕ → ℕ → Type 0
RiseBetween low [] next = low ≤ next
RiseBetween low (n ∷ numbers) next = (low ≤ n) × RiseBetween (n + 1) numbers next

-- The map has the number of each key, and no other.
pub record AreNumbered (keys : List (Option ℕ)) (numbers : List ℕ) (next : ℕ) (noted : BTreeMap ℕ ℕ) : Type 0 where
  pub paired : length numbers ≡ length keys
  pub apart : AreApart keys
  pub rise : RiseBetween 0 numbers next
  pub known : (key : ℕ) → get nat_cmp noted key ≡ number_of key keys numbers
