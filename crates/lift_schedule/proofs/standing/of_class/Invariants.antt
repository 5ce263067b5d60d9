use Rattle.std.proofs.Common.{◌≡◌, ◌++◌, length, map}
use Rattle.std.specs.List.{AllByRecursion}
use Rattle.bytecode_model.specs.declared.program.Method.{Method}
use Rattle.class_weaving.specs.Woven.{LocalsFit, plan_sites}
use Rattle.lift_schedule.specs.Standing.{standings}
use Rattle.lift_schedule.proofs.standing.of_class.Given as goal

abbrev pub invariant-loop-left : goal.invariant-loop-left
invariant-loop-left g l = record {
  so_far : l.methods ++ map (λ (m : Method). standings (plan_sites (g.P.Planner.plan l.planner) m)) l.left
      ≡ map (λ (m : Method). standings (plan_sites (g.P.Planner.plan l.planner) m)) l.class.methods;
  locals : AllByRecursion (LocalsFit (g.P.Planner.plan l.planner)) l.left;
}

abbrev pub decreases-loop-left : goal.decreases-loop-left
decreases-loop-left g l = length l.left
