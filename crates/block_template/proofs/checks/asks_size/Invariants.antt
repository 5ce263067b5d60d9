use Rattle.std.proofs.Common.{◌≡◌, ◌+◌, length}
use Rattle.block_template.specs.Parts.{asks_size}
use Rattle.block_template.proofs.checks.asks_size.Given as goal

abbrev pub invariant-loop-left : goal.invariant-loop-left
invariant-loop-left l = l.size + asks_size l.left ≡ asks_size l.atoms

abbrev pub decreases-loop-left : goal.decreases-loop-left
decreases-loop-left l = length l.left
