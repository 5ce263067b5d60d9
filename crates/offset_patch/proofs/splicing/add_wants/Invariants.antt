use Rattle.std.proofs.Common.{◌≡◌, length}
use Rattle.offset_patch.specs.Splicing.{grown}
use Rattle.offset_patch.proofs.splicing.add_wants.Given as goal

abbrev pub invariant-loop-left : goal.invariant-loop-left
invariant-loop-left l = grown l.entries l.left ≡ grown l.fn.entries l.sites

abbrev pub decreases-loop-left : goal.decreases-loop-left
decreases-loop-left l = length l.left
