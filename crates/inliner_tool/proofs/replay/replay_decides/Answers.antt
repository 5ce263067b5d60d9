use Rattle.inliner_tool.proofs.RunDecision.{replay_decides}
use Rattle.inliner_tool.proofs.replay.replay_decides.Goals as goal

pub returns : goal.returns
returns c = replay_decides
