use Rattle.std.proofs.Common.{◌≡◌, ◌-◌, ◌+◌, ◌*◌, length}
use Rattle.mon_base.specs.Reading.{counted}
use Rattle.mon_base.proofs.Loop.{with_front}
use Rattle.insn_codec.specs.Reading.{end_of}
use Rattle.insn_codec.specs.Targets.{finds}
use Rattle.insn_codec.proofs.switches.several.Given as goal

abbrev pub invariant-loop : goal.invariant-loop
invariant-loop g l = (with_front l.items.items (counted (g.T.Item.item_at (finds l.targets) l.at) (l.count - l.counter) l.from)
    ≡ counted (g.T.Item.item_at (finds l.targets) l.at) l.count l.initial.from)
    × (l.from.at ≡ l.initial.from.at + g.T.Item.len * length l.items.items)
    × (end_of l.from ≡ end_of l.initial.from)
