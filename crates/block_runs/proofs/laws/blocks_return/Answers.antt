use Rattle.block_runs.proofs.Whole.{return_well}
use Rattle.block_runs.proofs.laws.blocks_return.Goals as goal

pub returns : goal.returns
returns c = return_well
