use Rattle.std.proofs.Common.{◌≡◌, ℕ, ◌+◌, ◌*◌, ◌^◌, ◌<◌, ◌∷◌, [], length, map}
use Rattle.std.specs.List.{enumerate_from}
use Rattle.conspec_tree.specs.declared.types.Kind.{Kind}
use Rattle.conspec_tree.specs.declared.types.Phase.TheVariants as phases
use Rattle.conspec_automaton.specs.Points.{Argument, events_count, points_at, size_of}
use Rattle.conspec_automaton.specs.Trying.{capped}
use Rattle.race_free_check.proofs.events.arguments_count.Given as goal

abbrev pub invariant-loop-left : goal.invariant-loop-left
invariant-loop-left l = record {
  is : capped (l.count * size_of (map (λ (a : ℕ × Kind). points_at (l.clause ∷ []) (Argument a.0 a.1)) (enumerate_from l.place l.left))) ≡ capped (events_count l.clause phases.Before);
  fits : l.count < 2 ^ 64;
  count : l.place + length l.left ≡ length l.clause.args;
}

abbrev pub decreases-loop-left : goal.decreases-loop-left
decreases-loop-left l = length l.left
