use Rattle.std.proofs.Common.{◌≡◌, ◌++◌, length, map}
use Rattle.class_index.specs.Asking.{asks_of}
use Rattle.class_index.proofs.asking.flags_of.Given as goal

abbrev pub invariant-loop-left : goal.invariant-loop-left
invariant-loop-left l = l.flags ++ map (asks_of l.listing l.class) l.left ≡ map (asks_of l.listing l.class) l.files

abbrev pub decreases-loop-left : goal.decreases-loop-left
decreases-loop-left l = length l.left
