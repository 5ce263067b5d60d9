use Rattle.std.proofs.Common.{◌≡◌, ◌++◌, length}
use Rattle.api_listing.specs.Nearest.{interfaces_of}
use Rattle.class_index.proofs.memberless.interfaces_of.Given as goal

abbrev pub invariant-loop-left : goal.invariant-loop-left
invariant-loop-left l = l.names ++ interfaces_of l.left ≡ interfaces_of l.classes

abbrev pub decreases-loop-left : goal.decreases-loop-left
decreases-loop-left l = length l.left
