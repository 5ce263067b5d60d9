-- The choice of one value of each list that has this number, and the events that have such values. (docs/RACES.md)
use Rattle.std.specs.Prelude.{◌≡◌, ℕ, ◌/◌, ◌%◌, List, [], ◌∷◌, slice_get}
use Rattle.std.specs.Option.{option_map_or}
use Rattle.api_listing.specs.declared.events.ApiValue.{ApiValue}
use Rattle.api_listing.specs.declared.events.ApiValue.TheVariants as api
use Rattle.api_listing.specs.declared.events.Event.{Event}
use Rattle.api_listing.specs.declared.events.Event.TheVariants as events
use Rattle.conspec_automaton.specs.declared.policy.Clause.{Clause}
use Rattle.conspec_automaton.specs.Points.{choices_in, made, size_of}

-- ---- choices, by their numbers

-- the value at the place, or null after the last
abbrev pub value_at : List ApiValue → ℕ → ApiValue
value_at values i = option_map_or (λ value. value) (slice_get values i) api.Null

-- the choice of this number, counted from 0: the last list changes first
abbrev pub chosen : List (List ApiValue) → ℕ → List ApiValue
chosen [] n = []
chosen (xs ∷ others) n = value_at xs (n / size_of others) ∷ chosen others (n % size_of others)

-- ---- events

-- the points of each value of an event of the clause
abbrev pub event_choices : Clause → List (List ApiValue)
event_choices clause = choices_in clause clause.phase

-- The event is one of the clause, whatever its values.
abbrev pub IsMade : Clause → Event → Type 0
IsMade clause event = (values : List ApiValue) × (event ≡ made clause values)

-- the event with other values
abbrev pub with_values : Event → List ApiValue → Event
with_values (events.Call thread method arguments) values = events.Call thread method values
with_values (events.Return thread method value) values = events.Return thread method (slice_get values 0)
with_values (events.Except thread method) values = events.Except thread method
