use Rattle.std.proofs.Common.{◌≡◌, ◌+◌, length}
use Rattle.class_linking.specs.Fault.{linked_from}
use Rattle.class_linking.specs.Known.{AreRemembered}
use Rattle.class_linking.specs.Operands.{operand_at}
use Rattle.class_linking.proofs.Loop.{with_front}
use Rattle.class_linking.proofs.operands.operands_linked.Given as goal

abbrev pub invariant-loop-left : goal.invariant-loop-left
invariant-loop-left l = record {
  so_far : with_front l.targets.items (linked_from (operand_at l.index.files l.index.listing l.class l.pool l.method) l.at l.left) ≡ linked_from (operand_at l.index.files l.index.listing l.class l.pool l.method) 0 l.insns;
  count : l.at + length l.left ≡ length l.insns;
  known : AreRemembered l.index.files l.index.listing l.pool l.known;
}

abbrev pub decreases-loop-left : goal.decreases-loop-left
decreases-loop-left l = length l.left
