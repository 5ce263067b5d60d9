use Rattle.std.proofs.Common.{◌≡◌, ◌++◌, length}
use Rattle.std.specs.List.{filter}
use Rattle.class_index.specs.Library.{may_own}
use Rattle.class_index.proofs.library.owners_among.Given as goal

abbrev pub invariant-loop-left : goal.invariant-loop-left
invariant-loop-left l = l.some ++ filter (may_own l.owners) l.left ≡ filter (may_own l.owners) l.order

abbrev pub decreases-loop-left : goal.decreases-loop-left
decreases-loop-left l = length l.left
