use Rattle.std.proofs.Common.{◌≡◌, ◌+◌, ◌<◌, ◌^◌, length}
use Rattle.class_weaving.specs.Woven.{members_woven}
use Rattle.class_weaving.proofs.members.members_woven.Given as goal

abbrev pub invariant-loop-left : goal.invariant-loop-left
invariant-loop-left g l = record {
  so_far : members_woven (g.P.Planner.plan l.planner) l.state l.class l.made l.left ≡ members_woven (g.P.Planner.plan l.planner) l.state l.class l.fn.made l.members;
  count : l.made.number + length l.left < 2 ^ 17;
  pool : length l.made.entries < 2 ^ 16;
}

abbrev pub decreases-loop-left : goal.decreases-loop-left
decreases-loop-left g l = length l.left
