use Rattle.std.proofs.Common.{◌≡◌, map, take}
use Rattle.guest_tables.specs.Library.{is_fresh}
use Rattle.guest_tables.proofs.library.tested.Given as goal

abbrev pub invariant-loop-class : goal.invariant-loop-class
invariant-loop-class l = l.fresh ≡ map is_fresh (take l.class-index l.classes)
