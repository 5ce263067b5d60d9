use Rattle.std.proofs.Common.{◌≡◌, true, length}
use Rattle.std.specs.List.{AllByRecursion}
use Rattle.conspec_automaton.specs.Trying.{is_small}
use Rattle.race_free_check.specs.Deciding.{AreClausesOf, all_small}
use Rattle.race_free_check.proofs.deciding.all_small.Given as goal

abbrev pub invariant-loop-left : goal.invariant-loop-left
invariant-loop-left l = record {
  same : all_small l.policy l.left ≡ all_small l.policy l.trials;
  clauses : AllByRecursion (AreClausesOf l.policy) l.left;
  small : AllByRecursion (λ trial. is_small l.policy trial ≡ true) l.left → AllByRecursion (λ trial. is_small l.policy trial ≡ true) l.trials;
}

abbrev pub decreases-loop-left : goal.decreases-loop-left
decreases-loop-left l = length l.left
