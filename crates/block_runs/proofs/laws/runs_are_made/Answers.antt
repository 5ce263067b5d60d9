use Rattle.block_runs.proofs.Made.{runs_are_made}
use Rattle.block_runs.proofs.laws.runs_are_made.Goals as goal

pub returns : goal.returns
returns c = runs_are_made
