use Rattle.guest_model.proofs.Moving.{free_entered, entering_steps, leaving_steps}
use Rattle.guest_model.proofs.laws_of_steps.free_monitors_are_entered.Goals as goal

pub returns : goal.returns
returns c = record { entered = free_entered; enters = entering_steps; leaves = leaving_steps }
