use Rattle.std.proofs.Common.{◌≡◌, length}
use Rattle.conspec_tree.specs.Guards.{longest_from, longest}
use Rattle.conspec_tree.proofs.guards.longest.Given as goal

abbrev pub invariant-loop-left : goal.invariant-loop-left
invariant-loop-left l = longest_from l.most l.left ≡ longest l.conjs

abbrev pub decreases-loop-left : goal.decreases-loop-left
decreases-loop-left l = length l.left
