use Rattle.std.proofs.Common.{◌≡◌, ◌+◌, ◌≤◌, length}
use Rattle.conspec_tree.specs.Updates.{all_range_atoms}
use Rattle.conspec_tree.proofs.updates.all_range_atoms.Given as goal

abbrev pub invariant-loop-left : goal.invariant-loop-left
invariant-loop-left l = record {
  so_far : l.count + all_range_atoms l.left ≡ all_range_atoms l.updates;
  low : l.count + length l.left ≤ length l.updates;
}

abbrev pub decreases-loop-left : goal.decreases-loop-left
decreases-loop-left l = length l.left
