-- Where the instructions stand whose origins are told. (docs/BLOCKS.md)
use Rattle.std.specs.Prelude.{◌≡◌, ℕ, ◌+◌, get_or, List, [], ◌∷◌, slice_index, Option, None, ⊤}
use Rattle.bytecode_model.specs.declared.origin.Origin.{Origin}
use Rattle.bytecode_model.specs.declared.origin.Origin.TheVariants as origins
use Rattle.offset_patch.specs.declared.block.Block.{Block}
use Rattle.offset_patch.specs.Splicing.{call_place, fronts_of, part_of}

-- where the instruction of this origin stands: a client's instruction where the call stands in its part, after its front
abbrev pub place_told : List (Option Block) → Origin → ℕ
place_told sites (origins.Client index) = slice_index (fronts_of sites) index + call_place (part_of (get_or sites index None))
place_told sites (origins.Block site place) = slice_index (fronts_of sites) site + place

-- Each instruction, from the one at `at` on, stands where its origin tells.
abbrev pub StandAsTold : List (Option Block) → ℕ → List Origin → Type 0
StandAsTold sites at [] = ⊤
StandAsTold sites at (one ∷ told) = (at ≡ place_told sites one) × StandAsTold sites (at + 1) told
