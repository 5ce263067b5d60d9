use Rattle.std.proofs.Common.{◌≡◌, ◌+◌, length}
use Rattle.conspec_tree.specs.Variables.{variable_from}
use Rattle.conspec_tree.proofs.variables.variable_named.Given as goal

abbrev pub invariant-loop-left : goal.invariant-loop-left
invariant-loop-left l = record {
  so_far : variable_from l.index l.left l.name ≡ variable_from 0 l.vars l.name;
  count : l.index + length l.left ≡ length l.vars;
}

abbrev pub decreases-loop-left : goal.decreases-loop-left
decreases-loop-left l = length l.left
