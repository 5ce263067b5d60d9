use Rattle.std.proofs.Common.{◌≡◌, length}
use Rattle.conspec_tree.specs.Clauses.{has_clause}
use Rattle.conspec_tree.proofs.clauses.has_clause.Given as goal

abbrev pub invariant-loop-left : goal.invariant-loop-left
invariant-loop-left l = has_clause l.left l.phase l.method ≡ has_clause l.clauses l.phase l.method

abbrev pub decreases-loop-left : goal.decreases-loop-left
decreases-loop-left l = length l.left
