use Rattle.std.proofs.Common.{arith}
use Rattle.std.proofs.lemmas.Grind.{common_steps}
use Rattle.insn_codec.proofs.writing.put_local.Goals as goal

pub returns-then-wide : goal.returns-then-wide
returns-then-wide c = grind (arith, common_steps)

pub returns-else-wide : goal.returns-else-wide
returns-else-wide c = grind (arith, common_steps)
