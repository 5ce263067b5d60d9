use Rattle.std.proofs.Common.{◌≡◌, ◌≤◌, ◌+◌, length}
use Rattle.std.specs.List.{filter_map}
use Rattle.bytecode_model.specs.Conditions.{code_in}
use Rattle.bytecode_model.proofs.member_code.count_codes.Given as goal

abbrev pub invariant-loop-left : goal.invariant-loop-left
invariant-loop-left l = record {
  so_far : l.count + length (filter_map code_in l.left) ≡ length (filter_map code_in l.attrs);
  room : l.count + length l.left ≤ length l.attrs;
}

abbrev pub decreases-loop-left : goal.decreases-loop-left
decreases-loop-left l = length l.left
