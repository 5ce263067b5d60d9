use Rattle.std.proofs.Common.{◌∙◌, ap, sym}
use Rattle.std.specs.Prelude.{is_ok}
use Rattle.cert_checker.proofs.Judged.{decided_so, free_so, only_memory}
use Rattle.cert_checker.proofs.judging.judge_races.Goals as goal

pub returns-in-Release-clause-race : goal.returns-in-Release-clause-race
returns-in-Release-clause-race c = λ ok same. free_so c.args.policy.now c.decide.result c.decide.ensures.free (sym (ap is_ok c.race_denied.ensures) ∙ ok)

pub returns-in-Release-clause-few : goal.returns-in-Release-clause-few
returns-in-Release-clause-few c = λ ok same. c.decide.ensures.small (decided_so c.decide.result (sym (ap is_ok c.race_denied.ensures) ∙ ok))

pub returns-in-Release-clause-only : goal.returns-in-Release-clause-only
returns-in-Release-clause-only c = λ free few.
    rw c.race_denied.ensures (only_memory c.args.policy.now c.decide.result c.decide.ensures.racy c.decide.ensures.limit (free c.in-Release.is) (few c.in-Release.is))
