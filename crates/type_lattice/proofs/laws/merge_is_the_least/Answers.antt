use Rattle.type_lattice.proofs.Bounds.{merge_above}
use Rattle.type_lattice.proofs.Least.{merge_least}
use Rattle.type_lattice.proofs.laws.merge_is_the_least.Goals as goal

pub returns : goal.returns
returns c = record { above = merge_above; least = merge_least }
