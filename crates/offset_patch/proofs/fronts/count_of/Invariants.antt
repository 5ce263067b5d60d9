use Rattle.std.proofs.Common.{◌≡◌, ◌+◌, length}
use Rattle.offset_patch.specs.Splicing.{count_of}
use Rattle.offset_patch.proofs.fronts.count_of.Given as goal

abbrev pub invariant-loop-left : goal.invariant-loop-left
invariant-loop-left l = l.count + count_of l.left ≡ count_of l.sites

abbrev pub decreases-loop-left : goal.decreases-loop-left
decreases-loop-left l = length l.left
