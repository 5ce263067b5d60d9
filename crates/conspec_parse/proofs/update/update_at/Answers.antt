use Rattle.std.proofs.Common.{arith}
use Rattle.std.proofs.lemmas.Grind.{common_steps}
use Rattle.conspec_parse.specs.Updates.{update_at}
use Rattle.conspec_parse.proofs.update.update_at.Goals as goal

pub returns : goal.returns
unfolding update_at
returns c = grind (arith, common_steps)
