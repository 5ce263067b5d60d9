use Rattle.guest_model.proofs.Turning.{turns_find_the_enabled, who_asks_nothing_goes}
use Rattle.guest_model.proofs.laws_of_steps.turns_find_the_enabled.Goals as goal

pub returns : goal.returns
returns c = record { found = turns_find_the_enabled; plain = who_asks_nothing_goes }
