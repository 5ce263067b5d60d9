use Rattle.std.proofs.Common.{◌≡◌, ◌+◌, ◌++◌, length, filter}
use Rattle.std.specs.List.{enumerate_from}
use Rattle.conspec_automaton.specs.Trying.{Placed}
use Rattle.race_free_check.specs.Deciding.{is_wanted}
use Rattle.race_free_check.proofs.trial.clauses_where.Given as goal

abbrev pub invariant-loop-left : goal.invariant-loop-left
invariant-loop-left l = record {
  is : l.found.items ++ filter (λ (c : Placed). is_wanted l.of_calls c.1.phase) (enumerate_from l.place l.left) ≡ filter (λ (c : Placed). is_wanted l.of_calls c.1.phase) (enumerate_from 0 l.policy.clauses);
  count : l.place + length l.left ≡ length l.policy.clauses;
}

abbrev pub decreases-loop-left : goal.decreases-loop-left
decreases-loop-left l = length l.left
