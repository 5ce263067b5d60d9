use Rattle.std.proofs.Common.{◌≡◌, map, take}
use Rattle.guest_model.specs.Seen.{value_shown}
use Rattle.guest_tables.proofs.seen.values_shown.Given as goal

abbrev pub invariant-loop-value : goal.invariant-loop-value
invariant-loop-value l = l.shown ≡ map (value_shown l.fn.guest l.fn.heap) (take l.value-index l.values)
