use Rattle.std.proofs.Common.{◌≡◌, true, length}
use Rattle.std.specs.List.{AllByRecursion}
use Rattle.conspec_automaton.specs.Trying.{is_small}
use Rattle.race_free_check.specs.Deciding.{AreClausesOf, judged}
use Rattle.race_free_check.proofs.deciding.judged.Given as goal

abbrev pub invariant-loop-left : goal.invariant-loop-left
invariant-loop-left l = record {
  same : judged l.policy l.left ≡ judged l.policy l.trials;
  clauses : AllByRecursion (AreClausesOf l.policy) l.left;
  small : AllByRecursion (λ trial. is_small l.policy trial ≡ true) l.left;
}

abbrev pub decreases-loop-left : goal.decreases-loop-left
decreases-loop-left l = length l.left
