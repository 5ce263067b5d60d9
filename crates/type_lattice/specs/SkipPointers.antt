-- Ways up: each place may have one above it, and each way ends. (docs/TYPING.md)
use Rattle.std.specs.Prelude.{◌≡◌, ℕ, zero, suc, ◌<◌, ◌≤◌, ◌==◌, Bool, List, [], ◌∷◌, length, map, find, Option, Some, slice_get, take, option_and_then}
use Rattle.std.specs.List.{list_any}
use Rattle.std.specs.Option.{option_map_or}
use Rattle.type_lattice.specs.declared.skip_pointers.SkipPointer.{SkipPointer}

-- the place above, if there is one
abbrev pub parent_of : List (Option ℕ) → ℕ → Option ℕ
parent_of parents at = option_and_then (λ (p : Option ℕ). p) (slice_get parents at)

-- the place and those above it, at most n of these
abbrev pub skips_up : ℕ → List (Option ℕ) → ℕ → List ℕ
skips_up zero parents at = at ∷ []
skips_up (suc n) parents at = at ∷ option_map_or (skips_up n parents) (parent_of parents at) []

-- the place and those above it, the nearest first
abbrev pub path_up : List (Option ℕ) → ℕ → List ℕ
path_up parents at = skips_up (length parents) parents at

-- Each way ends, and no place is beyond the list.
pub record AreParents (parents : List (Option ℕ)) : Type 0 where
  pub ends : (at : ℕ) → skips_up (suc (length parents)) parents at ≡ path_up parents at
  pub within : (at above : ℕ) → parent_of parents at ≡ Some above → above < length parents

-- whether the place is one of these
abbrev pub has_place : List ℕ → ℕ → Bool
has_place places at = list_any (λ (p : ℕ). p == at) places

-- the first on the one way that is on the other, too
abbrev pub meeting : List (Option ℕ) → ℕ → ℕ → Option ℕ
meeting parents a b = find (has_place (path_up parents b)) (path_up parents a)

-- ---- what is kept of a place

abbrev pub parents_of : List SkipPointer → List (Option ℕ)
parents_of skip_pointers = map (λ (w : SkipPointer). w.parent) skip_pointers

-- what is kept of a place whose way is not gone yet
abbrev pub unknown : Option ℕ → SkipPointer
unknown parent = record { parent = parent; height = 0; steps = 0; jump = 0 }

-- What is kept tells how many places the way has, and one of them further up, so many steps away.
pub record IsSkipPointer (parents : List (Option ℕ)) (at : ℕ) (kept : SkipPointer) : Type 0 where
  pub height : kept.height ≡ length (path_up parents at)
  pub jump : slice_get (path_up parents at) kept.steps ≡ Some kept.jump
  pub moves : (above : ℕ) → parent_of parents at ≡ Some above → 0 < kept.steps

-- The height of the place is known.
pub record IsKnown (skip_pointers : List SkipPointer) (at : ℕ) : Type 0 where
  pub kept : SkipPointer
  pub there : slice_get skip_pointers at ≡ Some kept
  pub known : 0 < kept.height

-- What is known is right.
pub record AreBegun (skip_pointers : List SkipPointer) : Type 0 where
  pub parents : AreParents (parents_of skip_pointers)
  pub right : (at : ℕ) (kept : SkipPointer) → slice_get skip_pointers at ≡ Some kept → 0 < kept.height → IsSkipPointer (parents_of skip_pointers) at kept

-- All is known.
pub record AreSkipPointers (skip_pointers : List SkipPointer) : Type 0 where
  pub parents : AreParents (parents_of skip_pointers)
  pub right : (at : ℕ) (kept : SkipPointer) → slice_get skip_pointers at ≡ Some kept → IsSkipPointer (parents_of skip_pointers) at kept

-- The path is the front of the way, and the next place on the way is known.
pub record IsOpen (skip_pointers : List SkipPointer) (start : ℕ) (path : List ℕ) : Type 0 where
  pub front : path ≡ take (length path) (path_up (parents_of skip_pointers) start)
  pub next : (at : ℕ) → slice_get (path_up (parents_of skip_pointers) start) (length path) ≡ Some at → IsKnown skip_pointers at

-- So far up the way there is this place.
pub record LeadsUp (parents : List (Option ℕ)) (at most above gone : ℕ) : Type 0 where
  pub some : 0 < gone
  pub few : gone ≤ most
  pub there : slice_get (path_up parents at) gone ≡ Some above

-- As far up both ways there are these places, and the ways do not meet before.
pub record LeadBothUp (parents : List (Option ℕ)) (a b above beyond : ℕ) : Type 0 where
  pub gone : ℕ
  pub one : slice_get (path_up parents a) gone ≡ Some above
  pub other : slice_get (path_up parents b) gone ≡ Some beyond
  pub some : 0 < gone
  pub apart : (k c : ℕ) → k < gone → slice_get (path_up parents a) k ≡ Some c → slice_get (path_up parents b) k ≡ Some c → ⊥
