use Rattle.class_index.specs.Library.{AreShared}
use Rattle.class_index.proofs.library.add_given.Given as goal

abbrev pub invariant-loop-class : goal.invariant-loop-class
invariant-loop-class l = AreShared l.owners l.classes l.shared
