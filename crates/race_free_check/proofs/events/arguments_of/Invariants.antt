use Rattle.std.proofs.Common.{◌≡◌, ℕ, ◌+◌, ◌∷◌, [], ◌++◌, length, map}
use Rattle.std.specs.List.{enumerate_from}
use Rattle.conspec_tree.specs.declared.types.Kind.{Kind}
use Rattle.conspec_automaton.specs.Points.{Argument, arguments_of, points_at}
use Rattle.race_free_check.proofs.events.arguments_of.Given as goal

abbrev pub invariant-loop-left : goal.invariant-loop-left
invariant-loop-left l = record {
  is : l.lists ++ map (λ (a : ℕ × Kind). points_at (l.clause ∷ []) (Argument a.0 a.1)) (enumerate_from l.place l.left) ≡ arguments_of l.clause;
  count : l.place + length l.left ≡ length l.clause.args;
}

abbrev pub decreases-loop-left : goal.decreases-loop-left
decreases-loop-left l = length l.left
