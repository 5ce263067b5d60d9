use Rattle.std.proofs.Common.{◌≡◌, ◌+◌, length}
use Rattle.insn_codec.specs.Encoding.{len_from}
use Rattle.insn_codec.specs.Reading.{ended}
use Rattle.insn_codec.proofs.layout.check_end.Given as goal

abbrev pub invariant-loop-left : goal.invariant-loop-left
invariant-loop-left l = (ended l.at l.left ≡ ended 0 l.insns)
    × (l.at + len_from l.at l.left ≡ len_from 0 l.insns)

abbrev pub decreases-loop-left : goal.decreases-loop-left
decreases-loop-left l = length l.left
