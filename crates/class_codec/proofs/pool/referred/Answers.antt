use Rattle.std.proofs.Common.{arith}
use Rattle.std.proofs.lemmas.Grind.{elements}
use Rattle.class_codec.proofs.pool.referred.Goals as goal

pub returns : goal.returns
returns c = grind (arith, elements)
