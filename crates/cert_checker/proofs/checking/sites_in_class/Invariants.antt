use Rattle.std.proofs.Common.{◌≡◌, ◌≤◌, ◌*◌, take}
use Rattle.std.specs.Prelude.{count_by, sum_by}
use Rattle.bytecode_model.specs.declared.program.Method.{Method}
use Rattle.block_logic.specs.Operands.{has_clause}
use Rattle.cert_checker.proofs.checking.sites_in_class.Given as goal

abbrev pub invariant-loop-method : goal.invariant-loop-method
invariant-loop-method l =
    (l.sites ≡ sum_by (λ (m : Method). count_by (has_clause l.policy) m.refs) (take l.method-index l.class.methods)) × (l.sites ≤ 65536 * l.method-index)
