use Rattle.guest_model.proofs.Permitted.{answers_are_permitted}
use Rattle.guest_model.proofs.laws_of_steps.answers_are_permitted.Goals as goal

pub returns : goal.returns
returns c = record { rows = answers_are_permitted }
