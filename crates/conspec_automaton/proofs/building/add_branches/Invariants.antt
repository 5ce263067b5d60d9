use Rattle.std.proofs.Common.{◌≡◌, ◌++◌, take, map}
use Rattle.conspec_automaton.specs.Building.{branch_of}
use Rattle.conspec_automaton.proofs.building.add_branches.Given as goal

abbrev pub invariant-loop-atoms : goal.invariant-loop-atoms
invariant-loop-atoms l = l.branches ≡ l.fn.branches ++ map (branch_of l.maxint l.guard.updates) (take l.atoms-index l.guard.conjs)
