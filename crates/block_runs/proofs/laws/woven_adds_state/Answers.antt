use Rattle.block_runs.proofs.Adding.{adds}
use Rattle.block_runs.proofs.laws.woven_adds_state.Goals as goal

pub returns : goal.returns
returns c = adds
