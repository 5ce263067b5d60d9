use Rattle.inliner_tool.proofs.Decision.{race_decides}
use Rattle.inliner_tool.proofs.race.race_decides.Goals as goal

pub returns : goal.returns
returns c = race_decides
