use Rattle.std.proofs.Common.{◌≡◌, ◌+◌, ◌++◌, length}
use Rattle.std.specs.List.{AllByRecursion}
use Rattle.block_template.specs.declared.item.Role.TheVariants as roles
use Rattle.block_template.specs.declared.steps.Step.{Step}
use Rattle.block_template.specs.Parts.{write}
use Rattle.block_template.specs.Pushing.{bools_in}
use Rattle.block_template.specs.Room.{ActHasLocal}
use Rattle.block_template.specs.Steps.{laid, update_size}
use Rattle.block_template.proofs.checks.put_write.Given as goal

abbrev pub invariant-loop-left : goal.invariant-loop-left
invariant-loop-left l = record {
  so_far : l.items ++ laid (bools_in l.vars) 0 0 (roles.Update l.phase l.branch l.update) l.done l.left
      ≡ l.fn.items ++ write (bools_in l.vars) l.phase l.branch l.update l.fn.made;
  count : l.done + length l.left ≡ update_size l.fn.made;
  locals : AllByRecursion (λ (s : Step). ActHasLocal 0 s.act) l.left;
}

abbrev pub decreases-loop-left : goal.decreases-loop-left
decreases-loop-left l = length l.left
