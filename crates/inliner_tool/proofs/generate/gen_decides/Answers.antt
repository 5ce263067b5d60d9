use Rattle.inliner_tool.proofs.Generating.{gen_decides}
use Rattle.inliner_tool.proofs.generate.gen_decides.Goals as goal

pub returns : goal.returns
returns c = gen_decides
