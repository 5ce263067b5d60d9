use Rattle.std.proofs.Common.{◌≡◌, take}
use Rattle.conspec_automaton.proofs.building.copy_vars.Given as goal

abbrev pub invariant-loop-var : goal.invariant-loop-var
invariant-loop-var l = l.copy ≡ take l.var-index l.vars
