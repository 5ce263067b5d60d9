use Rattle.std.proofs.Common.{◌≡◌, ◌+◌, length}
use Rattle.bytecode_model.specs.Described.{name_length}
use Rattle.frame_types.proofs.described.name_length.Given as goal

abbrev pub invariant-loop-left : goal.invariant-loop-left
invariant-loop-left l =
    (l.count + name_length l.left ≡ name_length l.fn.text) × (l.count + length l.left ≡ length l.fn.text)

abbrev pub decreases-loop-left : goal.decreases-loop-left
decreases-loop-left l = length l.left
