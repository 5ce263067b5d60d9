use Rattle.std.proofs.Common.{refl}
use Rattle.cert_checker.proofs.judging.check.Goals as goal

pub returns-clause-allowed : goal.returns-clause-allowed
returns-clause-allowed c = λ ok. record {
  accepted = c.in_ok-accepted.ensures.ok.0 refl;
  race = c.in_ok-judge_races.ensures.race refl;
  few = c.in_ok-judge_races.ensures.few refl;
}

pub returns-clause-secure : goal.returns-clause-secure
returns-clause-secure c = λ ok. c.in_ok-accepted.ensures.secure refl (c.in_ok-judge_races.ensures.race refl)
