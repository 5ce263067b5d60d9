-- Names in a map or a set. (docs/CERTIFICATES.md)
use Rattle.std.specs.Prelude.{◌≡◌, ℕ, Bool, List, length, Option, Some, None, nat_lt, if◌then◌else◌, ⊤}
use Rattle.std.specs.List.{AllByRecursion}
use Rattle.cert_format.specs.declared.index.Known.{Known}
use Rattle.std.specs.Borrow.{Bor}
use Rattle.std.specs.BTreeMap.{BTreeMap, get_by}
use Rattle.std.specs.BTreeSet.{BTreeSet, contains_by}
use Rattle.std.specs.Ordering.{nat_cmp}
use Rattle.std.specs.Cmp.Lexicographic.{slice_cmp}
use Rattle.cert_format.specs.Names.{Name, name_index}

-- the place of the name, if it is one of the names
abbrev pub found : List Name → Name → Option ℕ
found names name = if nat_lt (name_index names name) (length names) then Some (name_index names name) else None

-- The map has the place of each of the names, and nothing else.
abbrev pub HasPlaces : List Name → BTreeMap (Bor Name) ℕ → Type 0
HasPlaces names places = (name : Name) → get_by (λ key. slice_cmp nat_cmp name key.now) places ≡ found names name

-- whether it is one of the names
abbrev pub stands : List Name → Name → Bool
stands names name = nat_lt (name_index names name) (length names)

-- The set has each of the names, and nothing else.
abbrev pub HasNames : List Name → BTreeSet (Bor Name) → Type 0
HasNames names seen = (name : Name) → contains_by (λ key. slice_cmp nat_cmp name key.now) seen ≡ stands names name

-- ---- names that are found sooner

-- What is known of a name is its place.
abbrev pub IsKnown : List Name → Option Known → Type 0
IsKnown names None = ⊤
IsKnown names (Some known) = found names known.name.now ≡ Some known.place

abbrev pub ArePlaced : List Name → List (Option Known) → Type 0
ArePlaced names slots = AllByRecursion (IsKnown names) slots
