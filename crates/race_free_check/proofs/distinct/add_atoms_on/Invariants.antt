use Rattle.std.proofs.Common.{◌≡◌, ◌++◌, length, filter}
use Rattle.conspec_tree.specs.declared.types.Atom.{Atom}
use Rattle.conspec_automaton.specs.Points.{is_same}
use Rattle.race_free_check.proofs.distinct.add_atoms_on.Given as goal

abbrev pub invariant-loop-left : goal.invariant-loop-left
invariant-loop-left l =
    l.found.items ++ filter (λ (a : Atom). is_same l.base a.base) l.left ≡ l.fn.found.items ++ filter (λ (a : Atom). is_same l.base a.base) l.atoms

abbrev pub decreases-loop-left : goal.decreases-loop-left
decreases-loop-left l = length l.left
