-- What separates the modes: a refused return that comes last obeys where the lock is held round the call, and not where it is
-- released; and a refused call obeys in neither.
use Rattle.std.specs.Prelude.{◌≡◌, true, false, List, [], ◌∷◌, ◌++◌, Some, None}
use Rattle.api_listing.specs.declared.events.Event.{Event}
use Rattle.cert_format.specs.declared.certificate.Mode.{Mode}
use Rattle.cert_format.specs.declared.certificate.Mode.TheVariants as modes
use Rattle.conspec_automaton.specs.declared.policy.Policy.{Policy}
use Rattle.conspec_automaton.specs.Next.{Values, initial, next}
use Rattle.conspec_automaton.specs.Obeys.{Obeys, after, is_return, spoken}

-- The events are accepted, and lead to a state in which the next one is refused, by the clause that it has.
pub record IsRefusedAfter (policy : Policy) (seen : List Event) (event : Event) : Type 0 where
  pub state : Values
  pub accepted : after (next policy) (initial policy) (spoken policy seen) ≡ Some state
  pub refused : next policy state event ≡ None

-- Where a return is refused that comes last, the events obey in mode hold, and do not obey in mode release.
abbrev pub RefusedReturnsDiffer : Type 0
RefusedReturnsDiffer =
    (policy : Policy) (seen : List Event) (event : Event) → IsRefusedAfter policy seen event → is_return event ≡ true
    → Obeys modes.Hold policy (seen ++ event ∷ []) × (Obeys modes.Release policy (seen ++ event ∷ []) → ⊥)

-- Where a call is refused, they obey in neither mode, whatever follows.
abbrev pub RefusedCallsDisobey : Type 0
RefusedCallsDisobey =
    (mode : Mode) (policy : Policy) (seen later : List Event) (event : Event) → IsRefusedAfter policy seen event
    → is_return event ≡ false → Obeys mode policy (seen ++ event ∷ later) → ⊥
