use Rattle.std.proofs.Common.{◌≡◌, ◌+◌, ◌++◌, length}
use Rattle.std.specs.List.{AllByRecursion}
use Rattle.block_template.specs.Parts.{branches, branches_size, check}
use Rattle.block_template.specs.Pushing.{bools_in}
use Rattle.block_template.specs.Room.{HasLocals}
use Rattle.block_template.proofs.checks.put_check.Given as goal

abbrev pub invariant-loop-left : goal.invariant-loop-left
invariant-loop-left l = record {
  so_far : l.items ++ branches (bools_in l.vars) l.base l.clause.phase l.branch l.begin l.done l.left
      ≡ l.fn.items ++ check (bools_in l.vars) l.base l.at l.clause;
  size : l.begin + branches_size l.left ≡ l.done;
  count : l.branch + length l.left ≡ length l.clause.branches;
  locals : AllByRecursion (HasLocals l.base) l.left;
}

abbrev pub decreases-loop-left : goal.decreases-loop-left
decreases-loop-left l = length l.left
