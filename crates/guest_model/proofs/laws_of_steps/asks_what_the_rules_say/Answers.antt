use Rattle.guest_model.proofs.Asks.{enabled_are_steps, fitting_are_steps}
use Rattle.guest_model.proofs.laws_of_steps.asks_what_the_rules_say.Goals as goal

pub returns : goal.returns
returns c = record { threads = enabled_are_steps; answers = fitting_are_steps }
