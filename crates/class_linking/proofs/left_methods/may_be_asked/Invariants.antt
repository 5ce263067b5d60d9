use Rattle.std.proofs.Common.{length}
use Rattle.std.specs.List.{AllByRecursion}
use Rattle.class_index.specs.Asking.{IsUnasked}
use Rattle.class_linking.proofs.left_methods.may_be_asked.Given as goal

abbrev pub invariant-loop-left : goal.invariant-loop-left
invariant-loop-left l = AllByRecursion (IsUnasked l.index.files l.index.listing) l.left → AllByRecursion (IsUnasked l.index.files l.index.listing) l.classes

abbrev pub decreases-loop-left : goal.decreases-loop-left
decreases-loop-left l = length l.left
