use Rattle.std.proofs.Common.{◌≡◌, map, take}
use Rattle.guest_tables.specs.Arities.{class_arities}
use Rattle.guest_tables.proofs.arities.arities_of.Given as goal

abbrev pub invariant-loop-class : goal.invariant-loop-class
invariant-loop-class l = l.counts ≡ map class_arities (take l.class-index l.program.classes)
