use Rattle.std.proofs.Common.{◌≡◌, ◌+◌, length}
use Rattle.block_template.specs.Parts.{updates_size}
use Rattle.block_template.proofs.checks.updates_size.Given as goal

abbrev pub invariant-loop-left : goal.invariant-loop-left
invariant-loop-left l = l.size + updates_size l.left ≡ updates_size l.updates

abbrev pub decreases-loop-left : goal.decreases-loop-left
decreases-loop-left l = length l.left
