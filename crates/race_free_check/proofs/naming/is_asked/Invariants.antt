use Rattle.std.proofs.Common.{◌≡◌, ◌∷◌, [], length}
use Rattle.std.specs.Prelude.{flat_map}
use Rattle.std.specs.List.{list_any}
use Rattle.conspec_tree.specs.declared.types.Atom.{Atom}
use Rattle.conspec_tree.specs.declared.types.Base.TheVariants as bases
use Rattle.conspec_automaton.specs.declared.policy.Branch.{Branch}
use Rattle.conspec_automaton.specs.Points.{atoms_in, is_same}
use Rattle.race_free_check.proofs.naming.is_asked.Given as goal

abbrev pub invariant-loop-left : goal.invariant-loop-left
invariant-loop-left l = list_any (λ (a : Atom). is_same (bases.Var l.var) a.base) (flat_map (λ (b : Branch). b.atoms) l.left) ≡ list_any (λ (a : Atom). is_same (bases.Var l.var) a.base) (atoms_in (l.clause ∷ []))

abbrev pub decreases-loop-left : goal.decreases-loop-left
decreases-loop-left l = length l.left
