use Rattle.std.proofs.Common.{◌≡◌, ◌+◌, ◌++◌, length}
use Rattle.std.specs.List.{AllByRecursion}
use Rattle.insn_codec.specs.Encoding.{len_from, bytes_from}
use Rattle.insn_codec.specs.Fits.{IsInsn}
use Rattle.insn_codec.specs.Writing.{reach_from}
use Rattle.insn_codec.proofs.writing.put_all.Given as goal

abbrev pub invariant-loop-left : goal.invariant-loop-left
invariant-loop-left l = (reach_from l.starts l.at l.left ≡ reach_from l.starts 0 l.insns)
    × (l.out ++ bytes_from l.starts l.at l.left ≡ l.fn.out ++ bytes_from l.starts 0 l.insns)
    × (l.at + len_from l.at l.left ≡ len_from 0 l.insns)
    × AllByRecursion IsInsn l.left

abbrev pub decreases-loop-left : goal.decreases-loop-left
decreases-loop-left l = length l.left
