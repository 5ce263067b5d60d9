use Rattle.class_index.specs.Nearest.{AreNumbers}
use Rattle.class_index.proofs.numbers.add_references.Given as goal

abbrev pub invariant-loop-constant : goal.invariant-loop-constant
invariant-loop-constant l = AreNumbers l.numbers
