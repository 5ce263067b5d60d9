use Rattle.std.proofs.Common.{◌≡◌, ◌+◌, ◌++◌, length}
use Rattle.woven_typing.specs.Framing.{parts_typed}
use Rattle.woven_typing.proofs.framing.put_parts.Given as goal

abbrev pub invariant-loop-insns : goal.invariant-loop-insns
invariant-loop-insns l =
    (l.out ++ parts_typed l.client l.at l.insns l.refs l.frames ≡ l.fn.out ++ parts_typed l.client 0 l.fn.insns l.fn.refs l.fn.frames)
    × (l.at + length l.insns ≡ length l.fn.insns)

abbrev pub decreases-loop-insns : goal.decreases-loop-insns
decreases-loop-insns l = length l.insns
