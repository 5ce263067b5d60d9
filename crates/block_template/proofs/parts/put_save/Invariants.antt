use Rattle.std.proofs.Common.{◌≡◌, ◌≤◌, ◌++◌, length, take}
use Rattle.block_template.specs.Parts.{save}
use Rattle.block_template.proofs.parts.put_save.Given as goal

abbrev pub invariant-loop-left : goal.invariant-loop-left
invariant-loop-left l = record {
  so_far : l.items ++ save l.base 0 (take l.left l.arguments) ≡ l.fn.items ++ save l.base 0 l.arguments;
  within : l.left ≤ length l.arguments;
}

abbrev pub decreases-loop-left : goal.decreases-loop-left
decreases-loop-left l = l.left
