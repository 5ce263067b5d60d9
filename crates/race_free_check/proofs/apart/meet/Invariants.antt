use Rattle.std.proofs.Common.{◌≡◌, ◌+◌, length}
use Rattle.race_free_check.specs.Apart.{meet_from}
use Rattle.race_free_check.proofs.apart.meet.Given as goal

abbrev pub invariant-loop-left : goal.invariant-loop-left
invariant-loop-left l = record {
  is : meet_from l.place l.left l.first l.second ≡ meet_from 0 l.policy.vars l.first l.second;
  count : l.place + length l.left ≡ length l.policy.vars;
}

abbrev pub decreases-loop-left : goal.decreases-loop-left
decreases-loop-left l = length l.left
