use Rattle.std.proofs.Common.{◌≡◌, length}
use Rattle.bytecode_model.specs.Described.{result_text}
use Rattle.frame_types.proofs.described.result_text.Given as goal

abbrev pub invariant-loop-left : goal.invariant-loop-left
invariant-loop-left l =
    result_text l.left ≡ result_text l.fn.desc

abbrev pub decreases-loop-left : goal.decreases-loop-left
decreases-loop-left l = length l.left
