-- Where the client's instructions stand in code with blocks, and which of them a place belongs to. What is after the end goes on one
-- by one. (docs/TRANSPARENCY.md)
use Rattle.std.specs.Prelude.{ℕ, zero, suc, ◌+◌, ◌-◌, ◌==◌, Bool, false, not, nat_lt, if◌then◌else◌, is_some, List, [], ◌∷◌, length, slice_get, Option}
use Rattle.std.specs.Option.{option_map_or}
use Rattle.offset_patch.specs.declared.block.Block.{Block}
use Rattle.offset_patch.specs.Splicing.{call_place, part_of}

-- for each instruction of a method its block, if it has one
abbrev pub Sites : Type 0
Sites = List (Option Block)

-- where the part of the client's instruction of this index begins
abbrev pub front : Sites → ℕ → ℕ
front [] index = index
front (site ∷ sites) zero = zero
front (site ∷ sites) (suc index) = length (part_of site) + front sites index

-- where that instruction stands itself
abbrev pub stand : Sites → ℕ → ℕ
stand [] index = index
stand (site ∷ sites) zero = call_place (part_of site)
stand (site ∷ sites) (suc index) = length (part_of site) + stand sites index

-- the client's instruction to whose part a place belongs
abbrev pub own : Sites → ℕ → ℕ
own [] at = at
own (site ∷ sites) at = if nat_lt at (length (part_of site)) then zero else suc (own sites (at - length (part_of site)))

-- The client's instruction of this index has a block.
abbrev pub has_block : Sites → ℕ → Bool
has_block sites index = option_map_or is_some (slice_get sites index) false

-- The place is of a block, and not its first.
abbrev pub is_inside : Sites → ℕ → Bool
is_inside sites at = not (at == front sites (own sites at))

-- The place is of a block, and before its call.
abbrev pub is_before_call : Sites → ℕ → Bool
is_before_call sites at = nat_lt at (stand sites (own sites at))
