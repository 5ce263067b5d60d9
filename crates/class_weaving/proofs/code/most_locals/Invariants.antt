use Rattle.std.proofs.Common.{◌≡◌, length}
use Rattle.std.specs.Prelude.{max}
use Rattle.class_weaving.specs.Woven.{most_locals}
use Rattle.class_weaving.proofs.code.most_locals.Given as goal

abbrev pub invariant-loop-left : goal.invariant-loop-left
invariant-loop-left g l = max l.most (most_locals (g.P.Planner.plan l.planner) l.left) ≡ most_locals (g.P.Planner.plan l.planner) l.refs

abbrev pub decreases-loop-left : goal.decreases-loop-left
decreases-loop-left g l = length l.left
