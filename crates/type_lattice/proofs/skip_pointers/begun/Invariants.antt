use Rattle.std.proofs.Common.{◌≡◌, map, take}
use Rattle.type_lattice.specs.SkipPointers.{unknown}
use Rattle.type_lattice.proofs.skip_pointers.begun.Given as goal

abbrev pub invariant-loop-parent : goal.invariant-loop-parent
invariant-loop-parent l = l.items.items ≡ map unknown (take l.parent-index l.parents)
