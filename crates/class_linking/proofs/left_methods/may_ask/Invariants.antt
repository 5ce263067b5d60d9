use Rattle.std.proofs.Common.{length}
use Rattle.std.specs.List.{AllByRecursion}
use Rattle.class_index.specs.Asking.{AsksNothing}
use Rattle.class_linking.proofs.left_methods.may_ask.Given as goal

abbrev pub invariant-loop-left : goal.invariant-loop-left
invariant-loop-left l =
    AllByRecursion (AsksNothing l.index.files l.index.listing l.interface) l.left → AllByRecursion (AsksNothing l.index.files l.index.listing l.interface) l.classes

abbrev pub decreases-loop-left : goal.decreases-loop-left
decreases-loop-left l = length l.left
