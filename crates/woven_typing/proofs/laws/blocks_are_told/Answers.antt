use Rattle.woven_typing.proofs.WovenTyped.{blocks_told}
use Rattle.woven_typing.proofs.laws.blocks_are_told.Goals as goal

pub returns : goal.returns
returns c = blocks_told
