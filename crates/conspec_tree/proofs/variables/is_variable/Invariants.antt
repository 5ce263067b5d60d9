use Rattle.std.proofs.Common.{◌≡◌, length}
use Rattle.conspec_tree.specs.Variables.{is_variable}
use Rattle.conspec_tree.proofs.variables.is_variable.Given as goal

abbrev pub invariant-loop-left : goal.invariant-loop-left
invariant-loop-left l = is_variable l.left l.name ≡ is_variable l.vars l.name

abbrev pub decreases-loop-left : goal.decreases-loop-left
decreases-loop-left l = length l.left
