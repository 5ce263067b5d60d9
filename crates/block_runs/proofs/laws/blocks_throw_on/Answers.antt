use Rattle.block_runs.proofs.Whole.{no_handler, throw_on}
use Rattle.block_runs.proofs.laws.blocks_throw_on.Goals as goal

pub returns : goal.returns
returns c = record { throws = throw_on; needs = no_handler }
