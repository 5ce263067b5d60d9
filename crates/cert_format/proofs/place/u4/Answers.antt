use Rattle.std.proofs.Common.{arith}
use Rattle.std.proofs.lemmas.Grind.{common_steps}
use Rattle.cert_format.specs.Reading.{u4_at}
use Rattle.cert_format.proofs.place.u4.Goals as goal

pub returns : goal.returns
unfolding u4_at
returns c = grind (arith, common_steps)
