use Rattle.std.proofs.Common.{arith}
use Rattle.std.proofs.lemmas.Grind.{elements}
use Rattle.class_codec.specs.Reading.{caught_at}
use Rattle.class_codec.proofs.attributes.caught.Goals as goal

pub returns : goal.returns
unfolding caught_at
returns c = grind (arith, elements)
