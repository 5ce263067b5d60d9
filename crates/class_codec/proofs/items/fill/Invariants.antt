use Rattle.std.proofs.Common.{◌≡◌, ◌-◌}
use Rattle.mon_base.specs.Reading.{counted}
use Rattle.mon_base.proofs.Loop.{with_front}
use Rattle.class_codec.proofs.items.fill.Given as goal

abbrev pub invariant-loop : goal.invariant-loop
invariant-loop g l = with_front l.items.items (counted (g.T.Item.item_at l.pool l.of_method) (l.count - l.counter) l.from)
    ≡ counted (g.T.Item.item_at l.pool l.of_method) l.count l.initial.from
