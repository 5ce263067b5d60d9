use Rattle.inliner_tool.proofs.RunDecided.{run_decides}
use Rattle.inliner_tool.proofs.run.run_decides.Goals as goal

pub returns : goal.returns
returns c = run_decides
