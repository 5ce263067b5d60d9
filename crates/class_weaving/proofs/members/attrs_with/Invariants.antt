use Rattle.std.proofs.Common.{◌≡◌, ◌++◌, map, length}
use Rattle.class_weaving.specs.Woven.{attr_with}
use Rattle.class_weaving.proofs.members.attrs_with.Given as goal

abbrev pub invariant-loop-left : goal.invariant-loop-left
invariant-loop-left l = l.attrs ++ map (attr_with l.code) l.left ≡ map (attr_with l.code) l.olds

abbrev pub decreases-loop-left : goal.decreases-loop-left
decreases-loop-left l = length l.left
