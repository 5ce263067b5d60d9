-- What it is for a list of events to obey a policy. (ConSpec; docs/POLICIES.md)
use Rattle.std.specs.Prelude.{◌≡◌, ◌⊎◌, Bool, true, false, List, [], ◌∷◌, ◌++◌, filter, Option, Some, option_and_then, IsTrue, IsSome}
use Rattle.api_listing.specs.declared.events.Event.{Event}
use Rattle.api_listing.specs.declared.events.Event.TheVariants as events
use Rattle.cert_format.specs.declared.certificate.Mode.{Mode}
use Rattle.cert_format.specs.declared.certificate.Mode.TheVariants as modes
use Rattle.conspec_automaton.specs.declared.policy.Policy.{Policy}
use Rattle.conspec_automaton.specs.Next.{next, initial, has_clause}

-- ---- automata over any states and events

-- the state after the events, where none of them is refused
abbrev pub after : {S E : Type 0} → (S → E → Option S) → S → List E → Option S
after next state [] = Some state
after next state (event ∷ events) = option_and_then (λ reached. after next reached events) (next state event)

-- The events are accepted in order, or all but the last are, and the last is a return that is refused.
abbrev pub Follows : {S E : Type 0} → (S → E → Option S) → (E → Bool) → S → List E → Type 0
Follows next is_return first events =
    IsSome (after next first events)
    ⊎ ((before : List _) × (last : _) × (events ≡ before ++ last ∷ []) × IsTrue (is_return last) × IsSome (after next first before))

-- ---- a policy's automaton

-- A method of the library returns, or throws.
abbrev pub is_return : Event → Bool
is_return (events.Call thread method arguments) = false
is_return (events.Return thread method value) = true
is_return (events.Except thread method) = true

-- the events that the policy has clauses for
abbrev pub spoken : Policy → List Event → List Event
spoken policy seen = filter (has_clause policy) seen

-- They are accepted in order, except that one refused return may come last.
abbrev pub IsFollowed : Policy → List Event → Type 0
IsFollowed policy seen = Follows (next policy) is_return (initial policy) (spoken policy seen)

-- What is promised of the events: where a monitor releases its lock round the call, all of them are accepted; where it
-- holds it, the last may be a return that is refused, and stops the program.
abbrev pub Obeys : Mode → Policy → List Event → Type 0
Obeys modes.Release policy seen = IsSome (after (next policy) (initial policy) (spoken policy seen))
Obeys modes.Hold policy seen = IsFollowed policy seen
