use Rattle.std.proofs.Common.{◌≡◌, map, take}
use Rattle.bytecode_model.specs.declared.program.Method.{Method}
use Rattle.guest_model.specs.Calls.{arity}
use Rattle.guest_tables.proofs.arities.arities_in.Given as goal

abbrev pub invariant-loop-method : goal.invariant-loop-method
invariant-loop-method l = l.counts ≡ map (λ (m : Method). arity m.desc) (take l.method-index l.methods)
