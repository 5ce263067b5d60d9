use Rattle.class_index.specs.Asking.{AreAsked}
use Rattle.class_index.proofs.index.asked_above.Given as goal

abbrev pub invariant-loop-class : goal.invariant-loop-class
invariant-loop-class l = AreAsked l.files l.listing l.asked
