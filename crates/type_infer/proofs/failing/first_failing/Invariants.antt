use Rattle.std.proofs.Common.{◌-◌, ◌<◌, ◌≤◌}
use Rattle.type_infer.specs.Solving.{IsReady}
use Rattle.type_infer.specs.Untyped.{CanBeMet, CannotBeMet}
use Rattle.type_infer.proofs.failing.first_failing.Given as goal

abbrev pub invariant-halving : goal.invariant-halving
invariant-halving l = record {
  apart : l.met < l.unmet;
  within : l.unmet ≤ l.n;
  met : CanBeMet l.body.program l.body.own l.body.class l.body.method l.met;
  unmet : IsReady l.body → CannotBeMet l.body.program l.body.own l.body.class l.body.method l.n → CannotBeMet l.body.program l.body.own l.body.class l.body.method l.unmet;
}

abbrev pub decreases-halving : goal.decreases-halving
decreases-halving l = l.unmet - l.met
