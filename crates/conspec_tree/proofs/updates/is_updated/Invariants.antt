use Rattle.std.proofs.Common.{◌≡◌, length}
use Rattle.conspec_tree.specs.Updates.{is_updated}
use Rattle.conspec_tree.proofs.updates.is_updated.Given as goal

abbrev pub invariant-loop-left : goal.invariant-loop-left
invariant-loop-left l = is_updated l.left l.var ≡ is_updated l.updates l.var

abbrev pub decreases-loop-left : goal.decreases-loop-left
decreases-loop-left l = length l.left
