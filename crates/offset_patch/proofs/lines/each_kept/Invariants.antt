use Rattle.std.proofs.Common.{◌≡◌, ◌++◌, length}
use Rattle.offset_patch.specs.Lines.{moved_in, each_kept}
use Rattle.offset_patch.proofs.lines.each_kept.Given as goal

abbrev pub invariant-loop-left : goal.invariant-loop-left
invariant-loop-left l = l.kept ++ each_kept l.entries (moved_in l.moves) l.left ≡ each_kept l.entries (moved_in l.moves) l.attrs

abbrev pub decreases-loop-left : goal.decreases-loop-left
decreases-loop-left l = length l.left
