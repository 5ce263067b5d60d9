use Rattle.guest_model.proofs.Enabled.{steps_enabled}
use Rattle.guest_model.proofs.laws_of_steps.steps_are_enabled.Goals as goal

pub returns : goal.returns
returns c = record { enabled = steps_enabled }
