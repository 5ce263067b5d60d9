use Rattle.std.proofs.Common.{◌≡◌, ◌+◌, ◌++◌, length}
use Rattle.class_text.specs.Shown.{insn_lines}
use Rattle.class_text.proofs.printing.push_insns_at.Given as goal

abbrev pub invariant-loop-left : goal.invariant-loop-left
invariant-loop-left l = record {
  so_far : l.out ++ insn_lines l.library l.pool l.index l.places l.left ≡ l.fn.out ++ insn_lines l.library l.pool 0 l.starts l.insns;
  count : l.index + length l.left ≡ length l.insns;
}

abbrev pub decreases-loop-left : goal.decreases-loop-left
decreases-loop-left l = length l.left
