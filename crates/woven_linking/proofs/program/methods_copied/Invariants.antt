use Rattle.std.proofs.Common.{◌≡◌, take}
use Rattle.woven_linking.proofs.program.methods_copied.Given as goal

abbrev pub invariant-loop-method : goal.invariant-loop-method
invariant-loop-method l = l.copies ≡ take l.method-index l.methods
