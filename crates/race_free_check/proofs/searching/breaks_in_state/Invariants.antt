use Rattle.std.proofs.Common.{◌≡◌, drop}
use Rattle.race_free_check.specs.Distinct.{distinct_events, distinct_seconds}
use Rattle.race_free_check.specs.Choosing.{IsMade}
use Rattle.race_free_check.specs.Searching.{IsSecond, broken_in_state}
use Rattle.race_free_check.proofs.searching.breaks_in_state.Given as goal

abbrev pub invariant-loop-number : goal.invariant-loop-number
invariant-loop-number l = record {
  same : broken_in_state l.search.policy l.fn.point.state (drop l.number (distinct_events l.search.trial.first.1)) (distinct_seconds l.search.trial.second) ≡ broken_in_state l.search.policy l.fn.point.state (distinct_events l.search.trial.first.1) (distinct_seconds l.search.trial.second);
  state : l.point.state ≡ l.fn.point.state;
  first : IsMade l.search.trial.first.1 l.point.first;
  second : IsSecond l.search.trial.second l.point.second;
}
