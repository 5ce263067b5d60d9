use Rattle.std.proofs.Common.{◌≡◌, ◌++◌, length}
use Rattle.std.specs.Prelude.{filter_map}
use Rattle.guest_model.specs.Places.{class_index}
use Rattle.guest_tables.proofs.searched.places_of.Given as goal

abbrev pub invariant-loop-left : goal.invariant-loop-left
invariant-loop-left l = l.places ++ filter_map (class_index l.fn.program) l.left ≡ filter_map (class_index l.fn.program) l.fn.names

abbrev pub decreases-loop-left : goal.decreases-loop-left
decreases-loop-left l = length l.left
