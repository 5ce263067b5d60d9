use Rattle.std.proofs.Common.{◌≡◌, take}
use Rattle.conspec_automaton.specs.Building.{branches_of}
use Rattle.conspec_automaton.proofs.building.branches_of.Given as goal

abbrev pub invariant-loop-guard : goal.invariant-loop-guard
invariant-loop-guard l = l.branches ≡ branches_of l.maxint (take l.guard-index l.guards)
