use Rattle.std.proofs.Common.{◌≡◌, length}
use Rattle.class_weaving.specs.Woven.{first_code}
use Rattle.class_weaving.proofs.members.first_code.Given as goal

abbrev pub invariant-loop-left : goal.invariant-loop-left
invariant-loop-left l = first_code l.left ≡ first_code l.attrs

abbrev pub decreases-loop-left : goal.decreases-loop-left
decreases-loop-left l = length l.left
