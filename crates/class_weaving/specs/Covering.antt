-- What the client's handlers cover in a method with blocks. (docs/BLOCKS.md)
use Rattle.std.specs.Prelude.{◌≡◌, ℕ, ◌+◌, ◌<◌, List, length, slice_get, slice_index, Option, Some}
use Rattle.std.specs.List.{AllByRecursion}
use Rattle.bytecode_model.specs.declared.program.Handler.{Handler}
use Rattle.bytecode_model.specs.Rules.{covers}
use Rattle.bytecode_model.specs.Sound.{IsWithin}
use Rattle.offset_patch.specs.declared.block.Block.{Block}
use Rattle.offset_patch.specs.Fits.{IsSite}
use Rattle.offset_patch.specs.Splicing.{fronts_of, part_of}
use Rattle.offset_patch.specs.Splicing.{at_fronts}

-- A client's handler, with its bounds at their fronts, covers each instruction of the part of a client's instruction exactly where
-- it covered that instruction.
abbrev pub HandlersCoverParts : Type 0
HandlersCoverParts =
    (sites : List (Option Block)) (handler : Handler) (index place : ℕ) (site : Option Block)
    → AllByRecursion IsSite sites → IsWithin (length sites) handler → slice_get sites index ≡ Some site → place < length (part_of site)
    → covers (slice_index (fronts_of sites) index + place) (at_fronts (fronts_of sites) handler) ≡ covers index handler
