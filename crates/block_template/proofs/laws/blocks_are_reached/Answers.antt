use Rattle.block_template.proofs.Reaching.{blocks_are_reached}
use Rattle.block_template.proofs.laws.blocks_are_reached.Goals as goal

pub returns : goal.returns
returns c = blocks_are_reached
