use Rattle.std.proofs.Common.{arith}
use Rattle.std.proofs.lemmas.Grind.{common_steps}
use Rattle.conspec_parse.specs.Head.{header_at}
use Rattle.conspec_parse.proofs.head.header_at.Goals as goal

pub returns : goal.returns
unfolding header_at
returns c = grind (arith, common_steps)
