use Rattle.std.proofs.Common.{◌≡◌, ◌++◌, ◌+◌, ◌<◌, ◌^◌, length, map, true}
use Rattle.std.specs.List.{list_any}
use Rattle.lift_schedule.specs.Standing.{standings}
use Rattle.class_weaving.specs.Woven.{most_locals}
use Rattle.lift_schedule.proofs.standing.of_method.Given as goal

abbrev pub invariant-loop-left : goal.invariant-loop-left
invariant-loop-left g l = record {
  so_far : l.told ++ standings (map ((g.P.Planner.plan l.planner).block l.method.max_locals) l.left)
      ≡ standings (map ((g.P.Planner.plan l.planner).block l.method.max_locals) l.method.refs);
  room : list_any (g.P.Planner.plan l.planner).has_block l.left ≡ true
      → l.method.max_locals + most_locals (g.P.Planner.plan l.planner) l.left < 2 ^ 16;
}

abbrev pub decreases-loop-left : goal.decreases-loop-left
decreases-loop-left g l = length l.left
