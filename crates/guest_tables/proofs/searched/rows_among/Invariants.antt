use Rattle.std.proofs.Common.{◌≡◌, map, take}
use Rattle.guest_tables.specs.Searched.{row_of}
use Rattle.guest_tables.proofs.searched.rows_among.Given as goal

abbrev pub invariant-loop-class : goal.invariant-loop-class
invariant-loop-class l = l.rows ≡ map (row_of l.fn.program) (take l.class-index l.classes)
