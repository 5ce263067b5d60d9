use Rattle.class_linking.proofs.Leaving.{Gone}
use Rattle.class_linking.proofs.heights.height_of.Given as goal

abbrev pub invariant-loop-steps : goal.invariant-loop-steps
invariant-loop-steps l = Gone l.classes l.name l.at l.steps
