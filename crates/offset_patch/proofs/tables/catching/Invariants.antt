use Rattle.std.proofs.Common.{◌≡◌, ◌+◌, ◌≤◌, length}
use Rattle.offset_patch.specs.Splicing.{catching}
use Rattle.offset_patch.proofs.tables.catching.Given as goal

abbrev pub invariant-loop-left : goal.invariant-loop-left
invariant-loop-left l = record {
  so_far : l.count + catching l.left ≡ catching l.sites;
  bound : l.count + length l.left ≤ length l.sites;
}

abbrev pub decreases-loop-left : goal.decreases-loop-left
decreases-loop-left l = length l.left
