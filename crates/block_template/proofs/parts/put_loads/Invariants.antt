use Rattle.std.proofs.Common.{◌≡◌, ◌+◌, ◌++◌, length}
use Rattle.block_template.specs.Parts.{loads}
use Rattle.block_template.proofs.parts.put_loads.Given as goal

abbrev pub invariant-loop-left : goal.invariant-loop-left
invariant-loop-left l = record {
  so_far : l.items ++ loads l.locked l.base l.loaded l.left ≡ l.fn.items ++ loads l.locked l.base 0 l.arguments;
  count : l.loaded + length l.left ≡ length l.arguments;
}

abbrev pub decreases-loop-left : goal.decreases-loop-left
decreases-loop-left l = length l.left
