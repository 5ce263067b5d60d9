use Rattle.lift_schedule.proofs.Lifts.{lifts_are_told}
use Rattle.lift_schedule.proofs.laws.lifts_are_told.Goals as goal

pub returns : goal.returns
returns c = lifts_are_told
