use Rattle.std.proofs.Common.{◌≡◌, take}
use Rattle.conspec_automaton.specs.Building.{atoms_of}
use Rattle.conspec_automaton.proofs.building.atoms_of.Given as goal

abbrev pub invariant-loop-update : goal.invariant-loop-update
invariant-loop-update l = l.all ≡ atoms_of l.maxint (take l.update-index l.updates) l.atoms
