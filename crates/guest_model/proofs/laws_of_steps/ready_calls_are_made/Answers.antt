use Rattle.guest_model.proofs.Calls.{calling_steps}
use Rattle.guest_model.proofs.laws_of_steps.ready_calls_are_made.Goals as goal

pub returns : goal.returns
returns c = record { made = calling_steps }
