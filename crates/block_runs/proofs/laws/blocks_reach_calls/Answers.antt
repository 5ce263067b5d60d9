use Rattle.block_runs.proofs.Whole.{reach_calls}
use Rattle.block_runs.proofs.laws.blocks_reach_calls.Goals as goal

pub returns : goal.returns
returns c = reach_calls
