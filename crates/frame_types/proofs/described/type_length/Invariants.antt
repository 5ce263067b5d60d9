use Rattle.std.proofs.Common.{◌≡◌, ◌+◌, length}
use Rattle.bytecode_model.specs.Described.{type_length}
use Rattle.frame_types.proofs.described.type_length.Given as goal

abbrev pub invariant-loop-left : goal.invariant-loop-left
invariant-loop-left l =
    (l.count + type_length l.left ≡ type_length l.fn.text) × (l.count + length l.left ≡ length l.fn.text)

abbrev pub decreases-loop-left : goal.decreases-loop-left
decreases-loop-left l = length l.left
