use Rattle.std.proofs.Common.{◌≡◌, length}
use Rattle.std.specs.List.{filter_map}
use Rattle.offset_patch.specs.Entries.{with_wants}
use Rattle.offset_patch.specs.Splicing.{want_of}
use Rattle.offset_patch.proofs.splicing.add_part.Given as goal

abbrev pub invariant-loop-left : goal.invariant-loop-left
invariant-loop-left l = with_wants l.entries (filter_map want_of l.left) ≡ with_wants l.fn.entries (filter_map want_of l.part)

abbrev pub decreases-loop-left : goal.decreases-loop-left
decreases-loop-left l = length l.left
