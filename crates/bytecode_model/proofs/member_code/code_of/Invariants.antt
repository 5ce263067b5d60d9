use Rattle.std.proofs.Common.{◌≡◌, length}
use Rattle.std.specs.List.{filter_map, slice_get}
use Rattle.bytecode_model.specs.Conditions.{code_in}
use Rattle.bytecode_model.proofs.member_code.code_of.Given as goal

abbrev pub invariant-loop-left : goal.invariant-loop-left
invariant-loop-left l = slice_get (filter_map code_in l.left) 0 ≡ slice_get (filter_map code_in l.attrs) 0

abbrev pub decreases-loop-left : goal.decreases-loop-left
decreases-loop-left l = length l.left
