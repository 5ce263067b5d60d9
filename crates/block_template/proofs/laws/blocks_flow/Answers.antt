use Rattle.block_template.proofs.BlockFlows.{blocks_flow}
use Rattle.block_template.proofs.laws.blocks_flow.Goals as goal

pub returns : goal.returns
returns c = blocks_flow
