use Rattle.guest_model.proofs.Making.{enabled_made}
use Rattle.guest_model.proofs.laws_of_steps.enabled_steps_are_made.Goals as goal

pub returns : goal.returns
returns c = record { made = enabled_made }
