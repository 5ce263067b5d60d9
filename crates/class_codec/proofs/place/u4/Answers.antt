use Rattle.std.proofs.Common.{arith}
use Rattle.std.proofs.lemmas.Grind.{common_steps}
use Rattle.class_codec.specs.Reading.{u4_at}
use Rattle.class_codec.proofs.place.u4.Goals as goal

pub returns-clause-reads : goal.returns-clause-reads
unfolding u4_at
returns-clause-reads c = grind (arith, common_steps)
