use Rattle.std.proofs.Common.{◌≡◌, ◌++◌, length, map}
use Rattle.std.specs.List.{AllByRecursion}
use Rattle.bytecode_model.specs.declared.program.LinkedClass.{LinkedClass}
use Rattle.class_weaving.specs.Woven.{LocalsFit, plan_sites}
use Rattle.lift_schedule.specs.Standing.{class_standings}
use Rattle.lift_schedule.proofs.standing.of_classes.Given as goal

abbrev pub invariant-loop-left : goal.invariant-loop-left
invariant-loop-left g l = record {
  so_far : l.told ++ map (class_standings (plan_sites (g.P.Planner.plan l.planner))) l.left
      ≡ map (class_standings (plan_sites (g.P.Planner.plan l.planner))) l.classes;
  locals : AllByRecursion (λ (c : LinkedClass). AllByRecursion (LocalsFit (g.P.Planner.plan l.planner)) c.methods) l.left;
}

abbrev pub decreases-loop-left : goal.decreases-loop-left
decreases-loop-left g l = length l.left
