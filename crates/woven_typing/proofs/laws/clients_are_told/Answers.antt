use Rattle.woven_typing.proofs.WovenTyped.{clients_told}
use Rattle.woven_typing.proofs.laws.clients_are_told.Goals as goal

pub returns : goal.returns
returns c = clients_told
