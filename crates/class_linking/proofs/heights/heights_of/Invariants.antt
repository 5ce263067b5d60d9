use Rattle.class_linking.specs.Heights.{AreHeights}
use Rattle.class_linking.proofs.heights.heights_of.Given as goal

abbrev pub invariant-loop-class : goal.invariant-loop-class
invariant-loop-class l = AreHeights l.heights l.classes
