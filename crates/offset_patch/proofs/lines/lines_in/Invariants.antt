use Rattle.std.proofs.Common.{◌≡◌, ◌++◌, length}
use Rattle.offset_patch.specs.Lines.{lines_in}
use Rattle.offset_patch.proofs.lines.lines_in.Given as goal

abbrev pub invariant-loop-line : goal.invariant-loop-line
invariant-loop-line l = l.lines ++ lines_in l.left ≡ lines_in l.bytes

abbrev pub decreases-loop-line : goal.decreases-loop-line
decreases-loop-line l = length l.left
