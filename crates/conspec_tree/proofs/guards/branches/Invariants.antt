use Rattle.std.proofs.Common.{◌≡◌, ◌+◌, length}
use Rattle.conspec_tree.specs.Guards.{branches}
use Rattle.conspec_tree.proofs.guards.branches.Given as goal

abbrev pub invariant-loop-left : goal.invariant-loop-left
invariant-loop-left l = l.count + branches l.left ≡ branches l.guards

abbrev pub decreases-loop-left : goal.decreases-loop-left
decreases-loop-left l = length l.left
