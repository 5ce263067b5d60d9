use Rattle.block_template.proofs.Ahead.{go_forward}
use Rattle.block_template.proofs.laws.blocks_go_forward.Goals as goal

pub returns : goal.returns
returns c = go_forward
