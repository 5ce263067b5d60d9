use Rattle.inliner_tool.proofs.CheckDecision.{check_decides}
use Rattle.inliner_tool.proofs.check.check_decides.Goals as goal

pub returns : goal.returns
returns c = check_decides
