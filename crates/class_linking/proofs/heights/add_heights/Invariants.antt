use Rattle.class_linking.specs.Heights.{AreHeights, LeavesAfter}
use Rattle.class_linking.proofs.heights.add_heights.Given as goal

abbrev pub invariant-loop : goal.invariant-loop
invariant-loop l = record {
  known : AreHeights l.heights l.classes;
  leaves : LeavesAfter l.classes l.at l.height;
}
