use Rattle.std.proofs.Common.{◌≡◌, ◌+◌, ◌++◌, length}
use Rattle.lift_schedule.specs.Standing.{part_standings, standings_from}
use Rattle.lift_schedule.proofs.standing.push_part.Given as goal

abbrev pub invariant-loop-left : goal.invariant-loop-left
invariant-loop-left l = record {
  so_far : l.told ++ standings_from l.call l.place l.left ≡ l.fn.told ++ part_standings l.part;
  count : l.place + length l.left ≡ length l.part;
}

abbrev pub decreases-loop-left : goal.decreases-loop-left
decreases-loop-left l = length l.left
