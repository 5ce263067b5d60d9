use Rattle.inliner_tool.proofs.Runs.{runs_are_replayed}
use Rattle.inliner_tool.proofs.run.runs_are_replayed.Goals as goal

pub returns : goal.returns
returns c = runs_are_replayed
