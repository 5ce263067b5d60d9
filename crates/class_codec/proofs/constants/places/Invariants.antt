use Rattle.std.proofs.Common.{◌≡◌, ◌+◌, ◌-◌, true, length}
use Rattle.std.specs.List.{flat_map}
use Rattle.mon_base.proofs.Loop.{with_front}
use Rattle.class_codec.specs.Encoding.{constant}
use Rattle.class_codec.specs.Reading.{places_at}
use Rattle.class_codec.proofs.constants.places.Given as goal

abbrev pub invariant-loop-number : goal.invariant-loop-number
invariant-loop-number l = (with_front l.pool.items (places_at l.second (l.count - l.number) l.from) ≡ places_at true l.count l.initial.from)
    × (l.from.at ≡ l.initial.from.at + length (flat_map constant l.pool.items))
