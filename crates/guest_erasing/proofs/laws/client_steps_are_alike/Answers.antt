use Rattle.guest_erasing.proofs.Steps.{client_steps_alike}
use Rattle.guest_erasing.proofs.laws.client_steps_are_alike.Goals as goal

pub returns : goal.returns
returns c = client_steps_alike
