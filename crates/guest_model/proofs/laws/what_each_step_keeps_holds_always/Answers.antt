use Rattle.guest_model.proofs.Always.{test_holds}
use Rattle.guest_model.proofs.laws.what_each_step_keeps_holds_always.Goals as goal

pub returns : goal.returns
returns c = record { holds = test_holds }
