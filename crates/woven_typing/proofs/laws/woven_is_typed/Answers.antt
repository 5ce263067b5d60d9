use Rattle.woven_typing.proofs.WovenTyped.{woven_typed}
use Rattle.woven_typing.proofs.laws.woven_is_typed.Goals as goal

pub returns : goal.returns
returns c = woven_typed
