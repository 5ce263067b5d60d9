use Rattle.std.proofs.Common.{◌≡◌, ◌++◌, List, length, option_map}
use Rattle.offset_patch.specs.Lines.{Line, moved_in, lines_moved}
use Rattle.offset_patch.proofs.lines.lines_moved.Given as goal

abbrev pub invariant-loop-left : goal.invariant-loop-left
invariant-loop-left l =
    option_map (λ (others : List Line). l.made ++ others) (lines_moved (moved_in l.moves) l.left) ≡ lines_moved (moved_in l.moves) l.lines

abbrev pub decreases-loop-left : goal.decreases-loop-left
decreases-loop-left l = length l.left
