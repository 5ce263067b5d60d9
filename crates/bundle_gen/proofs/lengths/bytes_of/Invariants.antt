use Rattle.std.proofs.Common.{◌≡◌, ◌+◌, length}
use Rattle.bundle_gen.specs.Sizes.{bytes_of}
use Rattle.bundle_gen.proofs.lengths.bytes_of.Given as goal

abbrev pub invariant-loop-left : goal.invariant-loop-left
invariant-loop-left l = l.bytes + bytes_of l.left ≡ bytes_of l.files

abbrev pub decreases-loop-left : goal.decreases-loop-left
decreases-loop-left l = length l.left
