-- The terms so far, and after them those of the variables that are left.
use Rattle.std.proofs.Common.{◌≡◌, ◌+◌, ◌++◌, length}
use Rattle.block_logic.specs.Terms.{after_updates, variables_after}
use Rattle.cert_maker.proofs.terms.after_updates.Given as goal

abbrev pub invariant-loop-left : goal.invariant-loop-left
invariant-loop-left l = record {
  so_far : l.terms ++ variables_after l.updates l.var (length l.left) ≡ after_updates l.policy l.updates;
  count : l.var + length l.left ≡ length l.policy.vars;
}

abbrev pub decreases-loop-left : goal.decreases-loop-left
decreases-loop-left l = length l.left
