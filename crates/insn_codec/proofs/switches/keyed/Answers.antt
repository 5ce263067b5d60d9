use Rattle.std.proofs.Common.{arith}
use Rattle.std.proofs.lemmas.Grind.{common_steps}
use Rattle.insn_codec.specs.Reading.{keyed_at}
use Rattle.insn_codec.proofs.switches.keyed.Goals as goal

pub returns-clause-reads : goal.returns-clause-reads
unfolding keyed_at
returns-clause-reads c = grind (arith, common_steps)
