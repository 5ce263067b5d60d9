use Rattle.woven_typing.proofs.WovenTyped.{blocks_reached}
use Rattle.woven_typing.proofs.laws.items_are_reached.Goals as goal

pub returns : goal.returns
returns c = blocks_reached
