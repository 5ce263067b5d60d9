-- What is found among the updates that are left is what is found among all.
use Rattle.std.proofs.Common.{◌≡◌, length}
use Rattle.block_logic.specs.Terms.{variable_after}
use Rattle.cert_maker.proofs.terms.variable_after.Given as goal

abbrev pub invariant-loop-left : goal.invariant-loop-left
invariant-loop-left l = variable_after l.left l.var ≡ variable_after l.updates l.var

abbrev pub decreases-loop-left : goal.decreases-loop-left
decreases-loop-left l = length l.left
