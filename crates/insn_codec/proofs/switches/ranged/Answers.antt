use Rattle.std.proofs.Common.{arith}
use Rattle.std.proofs.lemmas.Grind.{common_steps}
use Rattle.insn_codec.specs.Reading.{ranged_at}
use Rattle.insn_codec.proofs.switches.ranged.Goals as goal

pub returns-clause-reads : goal.returns-clause-reads
unfolding ranged_at
returns-clause-reads c = grind (arith, common_steps)
