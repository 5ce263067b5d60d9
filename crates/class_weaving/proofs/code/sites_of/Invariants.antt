use Rattle.std.proofs.Common.{◌≡◌, ◌+◌, ◌<◌, ◌^◌, ◌++◌, length, map}
use Rattle.std.specs.List.{AllByRecursion}
use Rattle.offset_patch.specs.Fits.{IsSite}
use Rattle.class_weaving.specs.Known.{AreMade}
use Rattle.class_weaving.specs.Woven.{most_locals}
use Rattle.class_weaving.proofs.code.sites_of.Given as goal

abbrev pub invariant-loop-left : goal.invariant-loop-left
invariant-loop-left g l = record {
  so_far : l.sites ++ map ((g.P.Planner.plan l.planner).block l.base) l.left ≡ map ((g.P.Planner.plan l.planner).block l.base) l.refs;
  each : length l.sites + length l.left ≡ length l.refs;
  room : l.base + most_locals (g.P.Planner.plan l.planner) l.left < 2 ^ 16;
  fits : AllByRecursion IsSite l.sites;
  known : AreMade ((g.P.Planner.plan l.planner).block l.base) l.sites l.places;
}

abbrev pub decreases-loop-left : goal.decreases-loop-left
decreases-loop-left g l = length l.left
