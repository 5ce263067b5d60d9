use Rattle.std.proofs.Common.{◌≡◌, ◌-◌}
use Rattle.mon_base.specs.Persistent.{item_at}
use Rattle.mon_base.proofs.persistent.item_at.Given as goal

abbrev pub invariant-loop : goal.invariant-loop
invariant-loop l = item_at l.nodes (l.depth - l.counter) l.root l.number ≡ item_at l.nodes l.depth l.fn.root l.fn.number
