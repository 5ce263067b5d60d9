-- Blocks that were made before, found by the method that is called. (docs/BLOCKS.md)
use Rattle.std.specs.Prelude.{◌≡◌, ℕ, List, Option, Some, slice_get}
use Rattle.std.specs.BTreeMap.{BTreeMap, get}
use Rattle.std.specs.Ordering.{nat_cmp}
use Rattle.bytecode_model.specs.declared.program.Target.{Target}
use Rattle.bytecode_model.specs.declared.program.Target.TheVariants.{ApiMethod}
use Rattle.offset_patch.specs.declared.block.Block.{Block}

-- At the place that is known of a method stands the block of a call of it.
pub record AreMade (block : Target → Option Block) (sites : List (Option Block)) (places : BTreeMap ℕ ℕ) : Type 0 where
  pub there : (method at : ℕ) → get nat_cmp places method ≡ Some at → slice_get sites at ≡ Some (block (ApiMethod method))
