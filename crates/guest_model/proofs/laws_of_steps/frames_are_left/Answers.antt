use Rattle.guest_model.proofs.Moving.{throwing_steps, returning_steps}
use Rattle.guest_model.proofs.laws_of_steps.frames_are_left.Goals as goal

pub returns : goal.returns
returns c = record { throws = throwing_steps; returns = returning_steps }
