use Rattle.std.proofs.Common.{◌≡◌, take, map}
use Rattle.conspec_automaton.specs.Building.{clause_built}
use Rattle.conspec_automaton.proofs.building.clauses_built.Given as goal

abbrev pub invariant-loop-clause : goal.invariant-loop-clause
invariant-loop-clause l = l.built ≡ map (clause_built l.maxint) (take l.clause-index l.clauses)
