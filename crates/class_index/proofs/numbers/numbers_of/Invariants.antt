use Rattle.class_index.specs.Nearest.{AreNumbers}
use Rattle.class_index.proofs.numbers.numbers_of.Given as goal

abbrev pub invariant-loop-file : goal.invariant-loop-file
invariant-loop-file l = AreNumbers l.numbers
