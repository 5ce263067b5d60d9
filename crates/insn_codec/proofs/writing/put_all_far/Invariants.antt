use Rattle.std.proofs.Common.{◌≡◌, ◌++◌, length}
use Rattle.std.specs.List.{flat_map}
use Rattle.insn_codec.specs.Encoding.{i4, offset}
use Rattle.insn_codec.specs.Writing.{all_far}
use Rattle.insn_codec.proofs.writing.put_all_far.Given as goal

abbrev pub invariant-loop-left : goal.invariant-loop-left
invariant-loop-left l = (all_far l.starts l.at l.left ≡ all_far l.starts l.at l.targets)
    × (l.out ++ flat_map (λ to. i4 (offset l.starts l.at to)) l.left ≡ l.fn.out ++ flat_map (λ to. i4 (offset l.starts l.at to)) l.targets)

abbrev pub decreases-loop-left : goal.decreases-loop-left
decreases-loop-left l = length l.left
