use Rattle.std.proofs.Common.{◌≡◌, ◌+◌, length}
use Rattle.guest_replay.specs.Replaying.{replayed_from}
use Rattle.guest_replay.proofs.replaying.make_all.Given as goal

abbrev pub invariant-loop-left : goal.invariant-loop-left
invariant-loop-left g l = record {
  run : replayed_from (g.S.Steps.program l.guest) l.index l.run l.left ≡ replayed_from (g.S.Steps.program l.guest) 0 l.fn.run l.steps;
  count : l.index + length l.left ≡ length l.steps;
}

abbrev pub decreases-loop-left : goal.decreases-loop-left
decreases-loop-left g l = length l.left
