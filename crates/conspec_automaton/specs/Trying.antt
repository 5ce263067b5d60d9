-- Which clauses are tried with which, in order, at which points, and when the events at a point race. (docs/RACES.md)
use Rattle.std.specs.Prelude.{ℕ, ◌*◌, ◌-◌, ◌^◌, Bool, true, false, not, nat_le, if◌then◌else◌, List, [], ◌∷◌, ◌++◌, map, filter, Option, Some, None, is_none}
use Rattle.std.specs.Cmp.Lexicographic.{pointwise}
use Rattle.std.specs.Ordering.{int_eq}
use Rattle.std.specs.List.{enumerate_from, flat_map}
use Rattle.std.specs.Option.{option_map_or}
use Rattle.api_listing.specs.declared.events.Event.{Event}
use Rattle.conspec_tree.specs.declared.types.Phase.{Phase}
use Rattle.conspec_tree.specs.declared.types.Phase.TheVariants.{Before, After, Exceptional}
use Rattle.conspec_automaton.specs.declared.policy.Clause.{Clause}
use Rattle.conspec_automaton.specs.declared.policy.Policy.{Policy}
use Rattle.conspec_automaton.specs.Next.{Values, next}
use Rattle.conspec_automaton.specs.Obeys.{after}
use Rattle.conspec_automaton.specs.Racing.{Pairs}
use Rattle.conspec_automaton.specs.Points.{states_of, events_of, states_count, events_count}

-- ---- clauses, in order

-- a clause with its place in the policy
abbrev pub Placed : Type 0
Placed = ℕ × Clause

-- The clause is for calls.
abbrev pub is_of_calls : Phase → Bool
is_of_calls Before = true
is_of_calls After = false
is_of_calls Exceptional = false

abbrev pub calls_in : Policy → List Placed
calls_in policy = filter (λ (c : Placed). is_of_calls c.1.phase) (enumerate_from 0 policy.clauses)

-- the clauses for returns and for ends by an exception
abbrev pub ends_in : Policy → List Placed
ends_in policy = filter (λ (c : Placed). not (is_of_calls c.1.phase)) (enumerate_from 0 policy.clauses)

-- What is tried: a condition, by its number, of one clause or of two, in this order.
pub record Trial : Type 0 where
  pub condition : ℕ
  pub first : Placed
  pub second : Option Placed

abbrev pub alone : ℕ → Placed → Trial
alone condition first = record { condition = condition; first = first; second = None }

abbrev pub both : ℕ → Placed → Placed → Trial
both condition first second = record { condition = condition; first = first; second = Some second }

-- The clauses are of two methods that are tested.
abbrev pub is_tested : Pairs → Placed → Placed → Bool
is_tested tested first second = tested first.1.method second.1.method

abbrev pub pairs : Pairs → ℕ → List Placed → List Placed → List Trial
pairs tested condition firsts seconds = flat_map (λ first. map (both condition first) (filter (is_tested tested first) seconds)) firsts

-- Ends are taken; and of the pairs that are tested calls turn; ends turn; and ends may come first.
abbrev pub trials : Pairs → Policy → List Trial
trials tested policy =
    map (alone 0) (ends_in policy)
    ++ pairs tested 1 (calls_in policy) (calls_in policy)
    ++ pairs tested 2 (ends_in policy) (ends_in policy)
    ++ pairs tested 3 (calls_in policy) (ends_in policy)

-- ---- points

-- A state, and an event or two in this order.
pub record Point : Type 0 where
  pub state : Values
  pub first : Event
  pub second : Option Event

abbrev pub clauses_of : Trial → List Clause
clauses_of trial = trial.first.1 ∷ option_map_or (λ (c : Placed). c.1 ∷ []) trial.second []

-- the second events, or none where there is one clause alone
abbrev pub seconds_of : Option Placed → List (Option Event)
seconds_of None = None ∷ []
seconds_of (Some second) = map Some (events_of second.1)

abbrev pub points_in : List Values → List Event → List (Option Event) → List Point
points_in states firsts seconds =
    flat_map (λ state. flat_map (λ first. map (λ second. record { state = state; first = first; second = second }) seconds) firsts) states

abbrev pub points : Policy → Trial → List Point
points policy trial = points_in (states_of policy (clauses_of trial)) (events_of trial.first.1) (seconds_of trial.second)

-- how many points there are; no more than 64 bits count
abbrev pub most : ℕ
most = 2 ^ 64 - 1

abbrev pub capped : ℕ → ℕ
capped n = if nat_le n most then n else most

abbrev pub point_count : Policy → Trial → ℕ
point_count policy trial =
    capped (states_count policy (clauses_of trial) * (events_count trial.first.1 trial.first.1.phase
    * option_map_or (λ (c : Placed). events_count c.1 c.1.phase) trial.second 1))

-- the greatest number of points of one trial
abbrev pub max_points : ℕ
max_points = 1000000

abbrev pub is_small : Policy → Trial → Bool
is_small policy trial = nat_le (point_count policy trial) max_points

-- ---- what breaks a condition

abbrev pub is_end : Values → Option Values → Bool
is_end end other = option_map_or (pointwise int_eq end) other false

-- Where the one event and then the other are accepted, the other may come first, with the same end state.
abbrev pub is_turned : Policy → Values → Event → Event → Bool
is_turned policy state first second =
    option_map_or (λ end. is_end end (after (next policy) state (second ∷ first ∷ []))) (after (next policy) state (first ∷ second ∷ [])) true

-- An event alone is refused, or two cannot be turned.
abbrev pub is_broken : Policy → Values → Event → Option Event → Bool
is_broken policy state first None = is_none (next policy state first)
is_broken policy state first (Some second) = not (is_turned policy state first second)

abbrev pub breaks : Policy → Point → Bool
breaks policy point = is_broken policy point.state point.first point.second
