use Rattle.std.proofs.Common.{refl}
use Rattle.race_free_check.proofs.trial.is_of_calls.Goals as goal

pub returns-in-Before : goal.returns-in-Before
returns-in-Before c = rw c.in-Before.is refl

pub returns-in-After : goal.returns-in-After
returns-in-After c = rw c.in-After.is refl

pub returns-in-Exceptional : goal.returns-in-Exceptional
returns-in-Exceptional c = rw c.in-Exceptional.is refl
