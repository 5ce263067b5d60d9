use Rattle.std.proofs.Common.{◌≡◌, length}
use Rattle.std.specs.List.{AllByRecursion}
use Rattle.bytecode_model.specs.Sound.{IsSoundClass}
use Rattle.class_weaving.specs.Woven.{classes_woven}
use Rattle.class_weaving.proofs.weaving.classes_woven.Given as goal

abbrev pub invariant-loop-left : goal.invariant-loop-left
invariant-loop-left g l = record {
  so_far : classes_woven (g.P.Planner.plan l.planner) l.state l.woven l.left ≡ classes_woven (g.P.Planner.plan l.planner) l.state l.fn.woven l.classes;
  sound : AllByRecursion IsSoundClass l.left;
}

abbrev pub decreases-loop-left : goal.decreases-loop-left
decreases-loop-left g l = length l.left
