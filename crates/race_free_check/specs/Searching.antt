-- The search for the first point that breaks a condition: through the states, the first events, and the second ones.
-- (docs/RACES.md)
use Rattle.std.specs.Prelude.{◌≡◌, List, [], ◌∷◌, find, map, Option, Some, None}
use Rattle.std.specs.Option.{option_or}
use Rattle.api_listing.specs.declared.events.Event.{Event}
use Rattle.conspec_automaton.specs.declared.policy.Policy.{Policy}
use Rattle.conspec_automaton.specs.Next.{Values}
use Rattle.conspec_automaton.specs.Trying.{Placed, Point, Trial, breaks}
use Rattle.race_free_check.specs.Choosing.{IsMade}

-- what is searched
pub record Searched : Type 0 where
  pub policy : Policy
  pub trial : Trial

-- what is found of the first of the items of which something is found
abbrev pub first_some : {X Y : Type 0} → (X → Option Y) → List X → Option Y
first_some test [] = None
first_some test (x ∷ xs) = option_or (test x) (first_some test xs)

abbrev pub broken_with : Policy → Values → Event → List (Option Event) → Option Point
broken_with policy state first seconds = find (breaks policy) (map (λ second. record { state = state; first = first; second = second }) seconds)

abbrev pub broken_in_state : Policy → Values → List Event → List (Option Event) → Option Point
broken_in_state policy state firsts seconds = first_some (λ first. broken_with policy state first seconds) firsts

abbrev pub broken_among : Policy → List Values → List Event → List (Option Event) → Option Point
broken_among policy states firsts seconds = first_some (λ state. broken_in_state policy state firsts seconds) states

-- The second event is one of the clause, where there is a clause for it.
abbrev pub IsSecond : Option Placed → Option Event → Type 0
IsSecond None second = second ≡ None
IsSecond (Some clause) None = ⊥
IsSecond (Some clause) (Some event) = IsMade clause.1 event
