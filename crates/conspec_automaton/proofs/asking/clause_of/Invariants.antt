use Rattle.std.proofs.Common.{◌≡◌, length}
use Rattle.std.specs.Prelude.{find}
use Rattle.conspec_automaton.specs.Next.{clause_of, speaks_of}
use Rattle.conspec_automaton.proofs.asking.clause_of.Given as goal

abbrev pub invariant-loop-left : goal.invariant-loop-left
invariant-loop-left l = find (speaks_of l.event) l.left ≡ clause_of l.policy l.event

abbrev pub decreases-loop-left : goal.decreases-loop-left
decreases-loop-left l = length l.left
