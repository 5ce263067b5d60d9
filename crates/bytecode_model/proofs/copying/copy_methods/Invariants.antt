use Rattle.std.proofs.Common.{◌≡◌, take}
use Rattle.bytecode_model.proofs.copying.copy_methods.Given as goal

abbrev pub invariant-loop-method : goal.invariant-loop-method
invariant-loop-method l = l.copy ≡ take l.method-index l.methods
