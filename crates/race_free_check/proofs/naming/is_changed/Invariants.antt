use Rattle.std.proofs.Common.{◌≡◌, ◌∷◌, [], length}
use Rattle.std.specs.Prelude.{◌==◌, flat_map}
use Rattle.std.specs.List.{list_any}
use Rattle.conspec_tree.specs.declared.types.Update.{Update}
use Rattle.conspec_tree.specs.Updates.{target}
use Rattle.conspec_automaton.specs.declared.policy.Branch.{Branch}
use Rattle.conspec_automaton.specs.Points.{updates_in}
use Rattle.race_free_check.proofs.naming.is_changed.Given as goal

abbrev pub invariant-loop-left : goal.invariant-loop-left
invariant-loop-left l = list_any (λ (u : Update). target u == l.var) (flat_map (λ (b : Branch). b.updates) l.left) ≡ list_any (λ (u : Update). target u == l.var) (updates_in (l.clause ∷ []))

abbrev pub decreases-loop-left : goal.decreases-loop-left
decreases-loop-left l = length l.left
