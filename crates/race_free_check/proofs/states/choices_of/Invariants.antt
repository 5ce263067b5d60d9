use Rattle.std.proofs.Common.{◌≡◌, ℕ, ◌+◌, ◌++◌, length, map}
use Rattle.std.specs.List.{enumerate_from}
use Rattle.conspec_tree.specs.declared.types.Var.{Var}
use Rattle.conspec_automaton.specs.Points.{Variable, choices_of, points_at}
use Rattle.race_free_check.proofs.states.choices_of.Given as goal

abbrev pub invariant-loop-left : goal.invariant-loop-left
invariant-loop-left l = record {
  is : l.lists ++ map (λ (v : ℕ × Var). points_at l.clauses (Variable l.policy.maxint v.0 v.1)) (enumerate_from l.place l.left) ≡ choices_of l.policy l.clauses;
  count : l.place + length l.left ≡ length l.policy.vars;
}

abbrev pub decreases-loop-left : goal.decreases-loop-left
decreases-loop-left l = length l.left
