-- Automata over any states and events: events that may turn, that are never refused, and states that stay in range.
-- (docs/RACES.md)
use Rattle.std.specs.Prelude.{◌≡◌, Bool, [], ◌∷◌, Option, Some, IsTrue, IsSome}
use Rattle.conspec_automaton.specs.Obeys.{after}

-- Where d and then c are accepted, c and then d lead to the same end.
abbrev pub Turns : {S E : Type 0} → (S → E → Option S) → (S → Bool) → E → E → Type 0
Turns {S = S} next in_range d c =
    (state end : S) → IsTrue (in_range state) → after next state (d ∷ c ∷ []) ≡ Some end → after next state (c ∷ d ∷ []) ≡ Some end

-- The event is accepted in each state in range.
abbrev pub IsTaken : {S E : Type 0} → (S → E → Option S) → (S → Bool) → E → Type 0
IsTaken {S = S} next in_range event = (state : S) → IsTrue (in_range state) → IsSome (next state event)

-- An accepted event leads from states in range to states in range.
abbrev pub Keeps : {S E : Type 0} → (S → E → Option S) → (S → Bool) → Type 0
Keeps {S = S} {E = E} next in_range = (state end : S) (event : E) → IsTrue (in_range state) → next state event ≡ Some end → IsTrue (in_range end)
