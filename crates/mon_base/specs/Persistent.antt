-- Arrays that share what they have in common. (docs/LINKING.md)
use Rattle.std.specs.Prelude.{◌≡◌, ℕ, zero, suc, ◌/◌, ◌%◌, ◌==◌, Bool, List, if◌then◌else◌, Option, Some, None, slice_get}
use Rattle.std.specs.List.{list_any}
use Rattle.std.specs.Option.{option_and_then}
use Rattle.mon_base.specs.declared.persistent.Halves.{Halves}

-- the half with the item of this number
abbrev pub half_of : Halves → ℕ → ℕ
half_of halves number = if number % 2 == 0 then halves.even else halves.odd

-- with another one there
abbrev pub with_half : Halves → ℕ → ℕ → Halves
with_half halves number half =
    if number % 2 == 0 then record { even = half; odd = halves.odd } else record { even = halves.even; odd = half }

-- The item of this number: at depth 0 the root is the one item, and else the place of two halves.
abbrev pub item_at : List Halves → ℕ → ℕ → ℕ → Option ℕ
item_at nodes zero root zero = Some root
item_at nodes zero root (suc number) = None
item_at nodes (suc depth) root number =
    option_and_then (λ halves. item_at nodes depth (half_of halves number) (number / 2)) (slice_get nodes root)

-- What has a place keeps it.
abbrev pub Keeps : List Halves → List Halves → Type 0
Keeps old new = (place : ℕ) (halves : Halves) → slice_get old place ≡ Some halves → slice_get new place ≡ Some halves

-- The one array is the other with this item at this number.
abbrev pub Puts : List Halves → List Halves → ℕ → ℕ → ℕ → ℕ → ℕ → Type 0
Puts old new depth root number item result =
    (q x : ℕ) → item_at old depth root q ≡ Some x → item_at new depth result q ≡ Some (if q == number then item else x)

-- whether the number is one of these
abbrev pub has_number : List ℕ → ℕ → Bool
has_number numbers number = list_any (λ other. number == other) numbers

-- The one array is the other with this item at these numbers.
abbrev pub PutsEach : List Halves → List Halves → ℕ → ℕ → List ℕ → ℕ → ℕ → Type 0
PutsEach old new depth root numbers item result =
    (q x : ℕ) → item_at old depth root q ≡ Some x → item_at new depth result q ≡ Some (if has_number numbers q then item else x)
