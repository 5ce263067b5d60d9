use Rattle.guest_model.proofs.Catching.{covering_is_found}
use Rattle.guest_model.proofs.laws.covering_handlers_are_found.Goals as goal

pub returns : goal.returns
returns c = record { found = covering_is_found }
