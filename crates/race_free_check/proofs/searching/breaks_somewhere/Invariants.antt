use Rattle.std.proofs.Common.{◌≡◌, drop}
use Rattle.conspec_automaton.specs.Points.{states_of}
use Rattle.conspec_automaton.specs.Trying.{clauses_of}
use Rattle.race_free_check.specs.Distinct.{distinct_events, distinct_seconds}
use Rattle.race_free_check.specs.Choosing.{IsMade}
use Rattle.race_free_check.specs.Searching.{IsSecond, broken_among}
use Rattle.race_free_check.proofs.searching.breaks_somewhere.Given as goal

abbrev pub invariant-loop-number : goal.invariant-loop-number
invariant-loop-number l = record {
  same : broken_among l.search.policy (drop l.number (states_of l.search.policy (clauses_of l.search.trial))) (distinct_events l.search.trial.first.1) (distinct_seconds l.search.trial.second) ≡ broken_among l.search.policy (states_of l.search.policy (clauses_of l.search.trial)) (distinct_events l.search.trial.first.1) (distinct_seconds l.search.trial.second);
  first : IsMade l.search.trial.first.1 l.point.first;
  second : IsSecond l.search.trial.second l.point.second;
}
