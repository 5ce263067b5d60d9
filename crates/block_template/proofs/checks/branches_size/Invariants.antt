use Rattle.std.proofs.Common.{◌≡◌, ◌+◌, length}
use Rattle.block_template.specs.Parts.{branches_size}
use Rattle.block_template.proofs.checks.branches_size.Given as goal

abbrev pub invariant-loop-left : goal.invariant-loop-left
invariant-loop-left l = l.size + branches_size l.left ≡ branches_size l.branches

abbrev pub decreases-loop-left : goal.decreases-loop-left
decreases-loop-left l = length l.left
