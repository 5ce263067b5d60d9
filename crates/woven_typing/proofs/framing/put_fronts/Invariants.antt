use Rattle.std.proofs.Common.{◌≡◌, ◌+◌, ◌*◌, ◌≤◌, ◌++◌, length, map}
use Rattle.offset_patch.specs.Splicing.{fronts_from}
use Rattle.block_template.specs.Blocks.{plan_of}
use Rattle.woven_typing.proofs.framing.put_fronts.Given as goal

abbrev pub invariant-loop-left : goal.invariant-loop-left
invariant-loop-left l =
    (l.fronts ++ fronts_from l.at (map ((plan_of l.items.policy l.items.mode).block 0) l.left)
    ≡ l.fn.fronts ++ fronts_from 0 (map ((plan_of l.items.policy l.items.mode).block 0) l.refs))
    × (l.at + 65536 * length l.left ≤ 65536 * length l.refs)

abbrev pub decreases-loop-left : goal.decreases-loop-left
decreases-loop-left l = length l.left
