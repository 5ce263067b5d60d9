use Rattle.inliner_tool.proofs.Lifting.{lifts_are_runs}
use Rattle.inliner_tool.proofs.lift.lifts_are_runs.Goals as goal

pub returns : goal.returns
returns c = lifts_are_runs c.lifts_are_told.ensures c.replays_are_runs.ensures.runs
