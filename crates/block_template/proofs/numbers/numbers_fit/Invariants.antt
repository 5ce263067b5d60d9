use Rattle.std.proofs.Common.{length}
use Rattle.std.specs.List.{AllByRecursion}
use Rattle.conspec_automaton.specs.declared.policy.Clause.{Clause}
use Rattle.block_template.specs.Good.{AreNumbers, HasNumbers}
use Rattle.block_template.proofs.numbers.numbers_fit.Given as goal

abbrev pub invariant-loop-left : goal.invariant-loop-left
invariant-loop-left l = AllByRecursion (λ (c : Clause). AllByRecursion AreNumbers c.branches) l.left → HasNumbers l.policy

abbrev pub decreases-loop-left : goal.decreases-loop-left
decreases-loop-left l = length l.left
