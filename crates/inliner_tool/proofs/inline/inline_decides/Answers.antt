use Rattle.inliner_tool.proofs.InlineDecision.{inline_decides}
use Rattle.inliner_tool.proofs.inline.inline_decides.Goals as goal

pub returns : goal.returns
returns c = inline_decides
