-- Clauses of which neither changes what the other names. Their events turn, so that no point of the two has to be tried.
-- (docs/RACES.md)
use Rattle.std.specs.Prelude.{ℕ, ◌+◌, ◌==◌, ◌&&◌, ◌||◌, Bool, false, not, List, [], ◌∷◌}
use Rattle.std.specs.List.{list_any}
use Rattle.std.specs.Option.{option_map_or}
use Rattle.conspec_tree.specs.declared.types.Update.{Update}
use Rattle.conspec_tree.specs.declared.types.Var.{Var}
use Rattle.conspec_tree.specs.Updates.{target}
use Rattle.conspec_automaton.specs.declared.policy.Clause.{Clause}
use Rattle.conspec_automaton.specs.declared.policy.Policy.{Policy}
use Rattle.conspec_automaton.specs.Points.{is_named, updates_in}
use Rattle.conspec_automaton.specs.Trying.{Placed, Trial}

-- An update of the clause changes the variable.
abbrev pub is_changed : ℕ → Clause → Bool
is_changed var clause = list_any (λ (u : Update). target u == var) (updates_in (clause ∷ []))

-- The one clause changes the variable, and the other names it.
abbrev pub disturbs : ℕ → Clause → Clause → Bool
disturbs var clause other = is_changed var clause && is_named var (other ∷ [])

abbrev pub meet_at : ℕ → Clause → Clause → Bool
meet_at var first second = disturbs var first second || disturbs var second first

-- The clauses meet at one of the variables, whose places are counted from this one.
abbrev pub meet_from : ℕ → List Var → Clause → Clause → Bool
meet_from place [] first second = false
meet_from place (var ∷ vars) first second = meet_at place first second || meet_from (place + 1) vars first second

-- What is tried is of two clauses, and they meet at no variable.
abbrev pub is_apart : Policy → Trial → Bool
is_apart policy trial = option_map_or (λ (c : Placed). not (meet_from 0 policy.vars trial.first.1 c.1)) trial.second false
