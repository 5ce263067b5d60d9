use Rattle.std.proofs.Common.{◌≡◌, ◌≤◌, ◌*◌, take}
use Rattle.std.specs.Prelude.{count_by, sum_by}
use Rattle.bytecode_model.specs.declared.program.LinkedClass.{LinkedClass}
use Rattle.bytecode_model.specs.declared.program.Method.{Method}
use Rattle.block_logic.specs.Operands.{has_clause}
use Rattle.cert_checker.proofs.checking.sites_of.Given as goal

abbrev pub invariant-loop-class : goal.invariant-loop-class
invariant-loop-class l =
    (l.sites ≡ sum_by (λ (c : LinkedClass). sum_by (λ (m : Method). count_by (has_clause l.policy) m.refs) c.methods) (take l.class-index l.program.classes)) × (l.sites ≤ 4294967296 * l.class-index)
