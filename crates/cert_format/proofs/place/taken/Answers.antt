use Rattle.std.proofs.Common.{arith}
use Rattle.std.proofs.lemmas.Grind.{common_steps}
use Rattle.cert_format.specs.Reading.{taken_at}
use Rattle.cert_format.proofs.place.taken.Goals as goal

pub returns : goal.returns
unfolding taken_at
returns c = grind (arith, common_steps)
