use Rattle.std.proofs.Common.{◌≡◌, drop}
use Rattle.race_free_check.specs.Distinct.{distinct_seconds}
use Rattle.race_free_check.specs.Searching.{IsSecond, broken_with}
use Rattle.race_free_check.proofs.searching.breaks_with_first.Given as goal

abbrev pub invariant-loop-number : goal.invariant-loop-number
invariant-loop-number l = record {
  same : broken_with l.search.policy l.fn.point.state l.fn.point.first (drop l.number (distinct_seconds l.search.trial.second)) ≡ broken_with l.search.policy l.fn.point.state l.fn.point.first (distinct_seconds l.search.trial.second);
  state : l.point.state ≡ l.fn.point.state;
  first : l.point.first ≡ l.fn.point.first;
  second : IsSecond l.search.trial.second l.point.second;
}
