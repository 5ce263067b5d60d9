use Rattle.guest_model.proofs.Moving.{answers_step}
use Rattle.guest_model.proofs.laws_of_steps.fitting_answers_are_taken.Goals as goal

pub returns : goal.returns
returns c = record { taken = answers_step }
