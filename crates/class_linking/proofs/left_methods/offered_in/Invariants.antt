use Rattle.std.proofs.Common.{◌≡◌, length}
use Rattle.bytecode_model.specs.LeftMethods.{offered_in}
use Rattle.class_linking.proofs.left_methods.offered_in.Given as goal

abbrev pub invariant-loop-left : goal.invariant-loop-left
invariant-loop-left l = offered_in l.index.files l.index.listing l.id l.left ≡ offered_in l.index.files l.index.listing l.id l.classes

abbrev pub decreases-loop-left : goal.decreases-loop-left
decreases-loop-left l = length l.left
