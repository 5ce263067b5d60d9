use Rattle.std.proofs.Common.{◌≡◌, ◌++◌, length}
use Rattle.std.specs.List.{flat_map, zip}
use Rattle.command_outputs.specs.Example.{variable_after}
use Rattle.command_outputs.proofs.example.push_variables.Given as goal

abbrev pub invariant-loop-vars_left : goal.invariant-loop-vars_left
invariant-loop-vars_left l =
    l.text ++ flat_map variable_after (zip l.vars_left l.values_left) ≡ l.fn.text ++ flat_map variable_after (zip l.vars l.values)

abbrev pub decreases-loop-vars_left : goal.decreases-loop-vars_left
decreases-loop-vars_left l = length l.vars_left
