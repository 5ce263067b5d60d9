use Rattle.std.proofs.Common.{◌≡◌, ◌+◌, length}
use Rattle.block_logic.specs.State.{wrong_field}
use Rattle.cert_checker.proofs.state.wrong_field.Given as goal

abbrev pub invariant-loop-left : goal.invariant-loop-left
invariant-loop-left l = record {
  same : wrong_field l.pool l.at l.left l.fields ≡ wrong_field l.pool 0 l.vars l.fn.fields;
  count : l.at + length l.left ≡ length l.vars;
}

abbrev pub decreases-loop-left : goal.decreases-loop-left
decreases-loop-left l = length l.left
