use Rattle.std.proofs.Common.{◌≡◌, ◌+◌, length}
use Rattle.std.specs.List.{flat_map}
use Rattle.class_codec.specs.Encoding.{constant}
use Rattle.class_codec.specs.Reading.{all_checked}
use Rattle.class_codec.proofs.indices.check_all.Given as goal

abbrev pub invariant-loop-left : goal.invariant-loop-left
invariant-loop-left l = (all_checked l.pool l.left l.at ≡ all_checked l.pool l.pool l.start)
    × (l.at + length (flat_map constant l.left) ≡ l.end)

abbrev pub decreases-loop-left : goal.decreases-loop-left
decreases-loop-left l = length l.left
