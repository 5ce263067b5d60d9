use Rattle.std.proofs.Common.{◌≡◌, length}
use Rattle.std.specs.Prelude.{slice_get}
use Rattle.std.specs.List.{filter_map}
use Rattle.guest_model.specs.Layout.{constant_bytes}
use Rattle.guest_operations.proofs.constants.first_constant.Given as goal

abbrev pub invariant-loop-left : goal.invariant-loop-left
invariant-loop-left l = slice_get (filter_map (constant_bytes l.fn.pool) l.left) 0 ≡ slice_get (filter_map (constant_bytes l.fn.pool) l.fn.attrs) 0

abbrev pub decreases-loop-left : goal.decreases-loop-left
decreases-loop-left l = length l.left
