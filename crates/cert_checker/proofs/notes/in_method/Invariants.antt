use Rattle.std.proofs.Common.{◌≡◌, ◌+◌, length}
use Rattle.block_logic.specs.Accepted.{reached_fault}
use Rattle.cert_checker.specs.Acceptance.{in_method}
use Rattle.cert_checker.specs.Places.{first_from}
use Rattle.cert_checker.proofs.notes.in_method.Given as goal

abbrev pub invariant-loop-left : goal.invariant-loop-left
invariant-loop-left l = record {
  same : first_from (reached_fault l.rules l.frames l.told l.method) l.at l.left ≡ in_method l.rules l.frames l.told l.method;
  count : l.at + l.left ≡ length l.method.insns;
}

abbrev pub decreases-loop-left : goal.decreases-loop-left
decreases-loop-left l = l.left
