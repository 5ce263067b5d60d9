use Rattle.std.proofs.Common.{arith}
use Rattle.std.proofs.lemmas.Grind.{common_steps}
use Rattle.insn_codec.proofs.writing.put_insn.Goals as goal

pub returns-in-Local : goal.returns-in-Local
returns-in-Local c = grind (arith, common_steps)

pub returns-in-Inc : goal.returns-in-Inc
returns-in-Inc c = grind (arith, common_steps)
