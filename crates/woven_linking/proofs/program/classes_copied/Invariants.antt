use Rattle.std.proofs.Common.{◌≡◌, take}
use Rattle.woven_linking.proofs.program.classes_copied.Given as goal

abbrev pub invariant-loop-class : goal.invariant-loop-class
invariant-loop-class l = l.copies ≡ take l.class-index l.classes
