use Rattle.std.proofs.Common.{◌≡◌, ◌+◌, ◌++◌, length}
use Rattle.insn_codec.specs.Encoding.{starts_from, starts_of, len_from}
use Rattle.insn_codec.proofs.layout.starts.Given as goal

abbrev pub invariant-loop-left : goal.invariant-loop-left
invariant-loop-left l = (l.starts.items ++ starts_from l.at l.left ≡ starts_of l.insns)
    × (l.at + len_from l.at l.left ≡ len_from 0 l.insns)

abbrev pub decreases-loop-left : goal.decreases-loop-left
decreases-loop-left l = length l.left
