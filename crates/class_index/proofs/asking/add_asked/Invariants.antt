use Rattle.class_index.specs.Asking.{AreAsked}
use Rattle.class_index.proofs.asking.add_asked.Given as goal

abbrev pub invariant-loop-class : goal.invariant-loop-class
invariant-loop-class l = AreAsked l.files l.listing l.asked
