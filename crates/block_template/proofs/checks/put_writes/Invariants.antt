use Rattle.std.proofs.Common.{◌≡◌, ◌+◌, ◌++◌, length}
use Rattle.block_template.specs.Parts.{writes}
use Rattle.block_template.specs.Pushing.{bools_in}
use Rattle.block_template.proofs.checks.put_writes.Given as goal

abbrev pub invariant-loop-left : goal.invariant-loop-left
invariant-loop-left l = record {
  so_far : l.items ++ writes (bools_in l.vars) l.phase l.branch l.n l.left ≡ l.fn.items ++ writes (bools_in l.vars) l.phase l.branch 0 l.updates;
  count : l.n + length l.left ≡ length l.updates;
}

abbrev pub decreases-loop-left : goal.decreases-loop-left
decreases-loop-left l = length l.left
