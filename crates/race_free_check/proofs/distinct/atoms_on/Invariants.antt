use Rattle.std.proofs.Common.{◌≡◌, ◌++◌, length, filter}
use Rattle.std.specs.Prelude.{flat_map}
use Rattle.conspec_tree.specs.declared.types.Atom.{Atom}
use Rattle.conspec_automaton.specs.declared.policy.Branch.{Branch}
use Rattle.conspec_automaton.specs.Points.{is_same}
use Rattle.race_free_check.specs.Distinct.{atoms_on}
use Rattle.race_free_check.proofs.distinct.atoms_on.Given as goal

abbrev pub invariant-loop-left : goal.invariant-loop-left
invariant-loop-left l = l.found.items ++ filter (λ (a : Atom). is_same l.base a.base) (flat_map (λ (b : Branch). b.atoms) l.left) ≡ atoms_on l.base l.clause

abbrev pub decreases-loop-left : goal.decreases-loop-left
decreases-loop-left l = length l.left
