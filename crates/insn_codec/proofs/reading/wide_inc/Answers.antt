use Rattle.std.proofs.Common.{arith}
use Rattle.std.proofs.lemmas.Grind.{common_steps}
use Rattle.insn_codec.specs.Reading.{wide_inc_at}
use Rattle.insn_codec.proofs.reading.wide_inc.Goals as goal

pub returns-clause-reads : goal.returns-clause-reads
unfolding wide_inc_at
returns-clause-reads c = grind (arith, common_steps)
