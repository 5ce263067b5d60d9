use Rattle.std.proofs.Common.{◌≡◌, ◌≤◌, ◌+◌, ◌++◌, length}
use Rattle.insn_codec.specs.Encoding.{len_from}
use Rattle.insn_codec.specs.Targets.{marks_from}
use Rattle.insn_codec.proofs.layout.marks.Given as goal

abbrev pub invariant-loop-left : goal.invariant-loop-left
invariant-loop-left l = (l.marks.items ++ marks_from l.number l.at l.left ≡ marks_from 0 0 l.insns)
    × (l.at + len_from l.at l.left ≡ len_from 0 l.insns)
    × (l.number ≤ l.at)

abbrev pub decreases-loop-left : goal.decreases-loop-left
decreases-loop-left l = length l.left
