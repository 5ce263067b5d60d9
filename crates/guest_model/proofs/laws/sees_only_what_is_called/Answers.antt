use Rattle.guest_model.proofs.ClosedPlaces.{sees_only_called}
use Rattle.guest_model.proofs.laws.sees_only_what_is_called.Goals as goal

pub returns : goal.returns
returns c = record { sees = λ program reached sound closed. sees_only_called program reached sound closed }
