use Rattle.std.proofs.Common.{◌≡◌, ◌+◌, length}
use Rattle.std.specs.Prelude.{bytes_eq}
use Rattle.std.specs.List.{position_from}
use Rattle.bytecode_model.specs.declared.program.LinkedClass.{LinkedClass}
use Rattle.block_logic.specs.Operands.{state_name}
use Rattle.block_logic.specs.State.{state_at}
use Rattle.cert_checker.proofs.state.state_at.Given as goal

abbrev pub invariant-loop-left : goal.invariant-loop-left
invariant-loop-left l = record {
  same : position_from (λ (c : LinkedClass). bytes_eq c.name state_name) l.at l.left ≡ state_at l.classes;
  count : l.at + length l.left ≡ length l.classes;
}

abbrev pub decreases-loop-left : goal.decreases-loop-left
decreases-loop-left l = length l.left
