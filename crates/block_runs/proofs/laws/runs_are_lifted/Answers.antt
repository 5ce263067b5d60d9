use Rattle.block_runs.proofs.Lifted.{runs_lifted}
use Rattle.block_runs.proofs.laws.runs_are_lifted.Goals as goal

pub returns : goal.returns
returns c = runs_lifted
