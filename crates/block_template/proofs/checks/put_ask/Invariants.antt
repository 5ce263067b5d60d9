use Rattle.std.proofs.Common.{◌≡◌, ◌+◌, ◌++◌, length}
use Rattle.std.specs.List.{AllByRecursion}
use Rattle.block_template.specs.declared.item.Role.TheVariants as roles
use Rattle.block_template.specs.declared.steps.Step.{Step}
use Rattle.block_template.specs.Parts.{ask}
use Rattle.block_template.specs.Pushing.{bools_in}
use Rattle.block_template.specs.Room.{ActHasLocal}
use Rattle.block_template.specs.Steps.{ask_size, laid}
use Rattle.block_template.proofs.checks.put_ask.Given as goal

abbrev pub invariant-loop-left : goal.invariant-loop-left
invariant-loop-left l = record {
  so_far : l.items ++ laid (bools_in l.vars) l.base l.next (roles.Ask l.phase l.branch l.atom) l.done l.left
      ≡ l.fn.items ++ ask (bools_in l.vars) l.base l.phase l.branch l.atom l.next l.fn.asked;
  count : l.done + length l.left ≡ ask_size l.fn.asked;
  locals : AllByRecursion (λ (s : Step). ActHasLocal l.base s.act) l.left;
}

abbrev pub decreases-loop-left : goal.decreases-loop-left
decreases-loop-left l = length l.left
