use Rattle.std.proofs.Common.{◌≡◌, length}
use Rattle.offset_patch.specs.Lines.{are_within}
use Rattle.offset_patch.proofs.lines.are_within.Given as goal

abbrev pub invariant-loop-left : goal.invariant-loop-left
invariant-loop-left l = are_within l.room l.left ≡ are_within l.most l.attrs

abbrev pub decreases-loop-left : goal.decreases-loop-left
decreases-loop-left l = length l.left
