use Rattle.std.proofs.Common.{◌≡◌, map, length}
use Rattle.insn_codec.specs.Reading.{ascend, ascend_from}
use Rattle.insn_codec.proofs.switches.ascend.Given as goal

abbrev pub invariant-loop-left : goal.invariant-loop-left
invariant-loop-left l = ascend_from l.least (map (λ one. one.key) l.left) ≡ ascend (map (λ one. one.key) l.keys)

abbrev pub decreases-loop-left : goal.decreases-loop-left
decreases-loop-left l = length l.left
