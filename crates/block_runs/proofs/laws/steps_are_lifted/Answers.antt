use Rattle.block_runs.proofs.Lifted.{steps_lifted}
use Rattle.block_runs.proofs.laws.steps_are_lifted.Goals as goal

pub returns : goal.returns
returns c = steps_lifted
