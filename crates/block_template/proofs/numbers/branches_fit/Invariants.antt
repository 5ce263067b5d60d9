use Rattle.std.proofs.Common.{length}
use Rattle.std.specs.List.{AllByRecursion}
use Rattle.block_template.specs.Good.{AreNumbers}
use Rattle.block_template.proofs.numbers.branches_fit.Given as goal

abbrev pub invariant-loop-left : goal.invariant-loop-left
invariant-loop-left l = AllByRecursion AreNumbers l.left → AllByRecursion AreNumbers l.branches

abbrev pub decreases-loop-left : goal.decreases-loop-left
decreases-loop-left l = length l.left
