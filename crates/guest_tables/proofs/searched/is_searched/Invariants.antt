use Rattle.std.proofs.Common.{◌≡◌, Some, length}
use Rattle.bytecode_model.specs.Classes.{classes_of}
use Rattle.bytecode_model.specs.SearchOrder.{Name, is_one_of, search_order, superclasses}
use Rattle.guest_model.specs.Places.{class_index}
use Rattle.guest_tables.proofs.searched.is_searched.Given as goal

abbrev pub invariant-loop-place : goal.invariant-loop-place
invariant-loop-place l =
    (other : Name) → class_index l.fn.program other ≡ Some l.fn.other
    → is_one_of (search_order (classes_of l.fn.program) l.at) other ≡ is_one_of (search_order (classes_of l.fn.program) l.fn.name) other

abbrev pub decreases-loop-place : goal.decreases-loop-place
decreases-loop-place l = length (superclasses (classes_of l.fn.program) l.at)
