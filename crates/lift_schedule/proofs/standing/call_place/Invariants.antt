use Rattle.std.proofs.Common.{◌≡◌, ◌+◌, length}
use Rattle.offset_patch.specs.Splicing.{call_place}
use Rattle.lift_schedule.proofs.standing.call_place.Given as goal

abbrev pub invariant-loop-left : goal.invariant-loop-left
invariant-loop-left l = record {
  so_far : l.place + call_place l.left ≡ call_place l.part;
  count : l.place + length l.left ≡ length l.part;
}

abbrev pub decreases-loop-left : goal.decreases-loop-left
decreases-loop-left l = length l.left
