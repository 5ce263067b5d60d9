use Rattle.std.proofs.Common.{◌≡◌, ◌+◌, ◌++◌, length}
use Rattle.class_weaving.specs.Woven.{clients_from}
use Rattle.class_weaving.proofs.code.clients.Given as goal

abbrev pub invariant-loop-left : goal.invariant-loop-left
invariant-loop-left l = record {
  so_far : l.origins ++ clients_from l.at l.left ≡ clients_from 0 l.insns;
  count : l.at + length l.left ≡ length l.insns;
}

abbrev pub decreases-loop-left : goal.decreases-loop-left
decreases-loop-left l = length l.left
