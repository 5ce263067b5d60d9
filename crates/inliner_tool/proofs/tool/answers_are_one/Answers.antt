use Rattle.inliner_tool.proofs.Once.{gives_once}
use Rattle.inliner_tool.proofs.tool.answers_are_one.Goals as goal

pub returns : goal.returns
returns c = gives_once
