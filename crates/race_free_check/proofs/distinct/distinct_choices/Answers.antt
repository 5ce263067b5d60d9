use Rattle.std.proofs.Common.{ℕ, ◌≤◌, ◌∷◌, [], length, Option, Some, None, ap, ◌∙◌, arith}
use Rattle.std.specs.List.{enumerate_from}
use Rattle.std.specs.Option.{option_map_or}
use Rattle.std.proofs.lemmas.List.{length-map}
use Rattle.std.proofs.lemmas.List.FromFn.{length-enumerate_from}
use Rattle.conspec_tree.specs.declared.types.Kind.{Kind}
use Rattle.conspec_tree.specs.declared.types.Phase.{Phase}
use Rattle.conspec_tree.specs.declared.types.Phase.TheVariants.{Before, After, Exceptional}
use Rattle.conspec_automaton.specs.declared.policy.Clause.{Clause}
use Rattle.conspec_automaton.specs.Points.{Argument, Result, choices_in, points_at}
use Rattle.race_free_check.proofs.distinct.distinct_choices.Goals as goal

-- An event of the clause has few values.
few_values : (c : Clause) (phase : Phase) → length c.args ≤ 255 → length (choices_in c phase) ≤ 255
few_values c Before few =
    let passed = length-map (enumerate_from 0 c.args) (λ (a : ℕ × Kind). points_at (c ∷ []) (Argument a.0 a.1)) ∙ length-enumerate_from 0 c.args in
    omega arith
few_values c After few = by c.result where
  by : (o : Option Kind) → length (option_map_or (λ kind. points_at (c ∷ []) (Result kind) ∷ []) o []) ≤ 255
  by None = omega arith
  by (Some kind) = omega arith
few_values c Exceptional few = omega arith

pub distinct_lists-requires : goal.distinct_lists-requires
distinct_lists-requires c =
    let all = ap length (c.as_slice.ensures ∙ c.in_ok-lists.ensures) in
    let few = few_values c.args.clause.now c.args.clause.now.phase c.requires in
    omega arith
