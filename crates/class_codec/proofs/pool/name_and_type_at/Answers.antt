use Rattle.std.proofs.Common.{arith}
use Rattle.std.proofs.lemmas.Grind.{elements}
use Rattle.class_codec.specs.Pool.{name_and_type_at}
use Rattle.class_codec.proofs.pool.name_and_type_at.Goals as goal

pub returns-in_ok-desc-in-Some-NameAndType : goal.returns-in_ok-desc-in-Some-NameAndType
unfolding name_and_type_at
returns-in_ok-desc-in-Some-NameAndType c = grind (arith, elements)
