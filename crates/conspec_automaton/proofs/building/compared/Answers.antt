use Rattle.std.proofs.Common.{w32, refl}
use Rattle.std.proofs.lemmas.Int.{to_z-of_z}
use Rattle.conspec_automaton.proofs.building.compared.Goals as goal

pub returns : goal.returns
returns c = rw (to_z-of_z w32 c.args.value c.ranges.value) refl
