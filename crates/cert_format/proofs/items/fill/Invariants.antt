use Rattle.std.proofs.Common.{◌≡◌, ◌-◌}
use Rattle.cert_format.specs.Reading.{several_at}
use Rattle.cert_format.proofs.Loops.{with_front}
use Rattle.cert_format.proofs.items.fill.Given as goal

abbrev pub invariant-loop : goal.invariant-loop
invariant-loop g l = with_front l.items (several_at (g.T.Item.item_at l.table.vars l.table.names.now) (l.count - l.counter) l.used l.from)
    ≡ several_at (g.T.Item.item_at l.table.vars l.table.names.now) l.count l.fn.used l.fn.from
