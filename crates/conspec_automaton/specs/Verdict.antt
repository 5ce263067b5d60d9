-- What is said of a list of events: accepted, stopped at a return that nothing asked about follows, or refused.
-- (docs/POLICIES.md)
use Rattle.std.specs.Prelude.{◌≡◌, ℕ, ◌+◌, ◌&&◌, not, Bool, true, false, List, [], ◌∷◌, ◌++◌, length, if◌then◌else◌, Some, None, IsSome}
use Rattle.std.specs.List.{list_any}
use Rattle.std.specs.Option.{option_map_or}
use Rattle.api_listing.specs.declared.events.Event.{Event}
use Rattle.conspec_automaton.specs.declared.running.Verdict.{Verdict}
use Rattle.conspec_automaton.specs.declared.running.Verdict.TheVariants.{Accepted, StoppedAt, Refused}
use Rattle.conspec_automaton.specs.declared.policy.Policy.{Policy}
use Rattle.conspec_automaton.specs.Next.{Values, next, initial, has_clause}
use Rattle.conspec_automaton.specs.Obeys.{after, is_return}

-- The event, which is refused, is a return, and none of the later ones has a clause.
abbrev pub may_stop : Policy → Event → List Event → Bool
may_stop policy event later = is_return event && not (list_any (has_clause policy) later)

-- what is said of the event with this index, which is refused
abbrev pub refusal : Policy → ℕ → Event → List Event → Verdict
refusal policy index event later = if may_stop policy event later then StoppedAt index else Refused index

-- the first event that is refused decides; the first of these has this index
abbrev pub verdict_from : Policy → ℕ → Values → List Event → Verdict
verdict_from policy index state [] = Accepted
verdict_from policy index state (event ∷ later) =
    option_map_or (λ reached. verdict_from policy (index + 1) reached later) (next policy state event) (refusal policy index event later)

abbrev pub verdict : Policy → List Event → Verdict
verdict policy events = verdict_from policy 0 (initial policy) events

abbrev pub is_refused : Verdict → Bool
is_refused Accepted = false
is_refused (StoppedAt index) = false
is_refused (Refused index) = true

-- ---- what a verdict says of the events

-- The events before the one of this index are accepted, and it is refused in the state that they lead to.
pub record IsRefusedAt (policy : Policy) (events : List Event) (index : ℕ) : Type 0 where
  pub earlier : List Event
  pub event : Event
  pub later : List Event
  pub split : events ≡ earlier ++ event ∷ later
  pub place : length earlier ≡ index
  pub state : Values
  pub accepted : after (next policy) (initial policy) earlier ≡ Some state
  pub refused : next policy state event ≡ None

-- The event of this index is refused. It is a return, and no later event has a clause.
pub record StopsAt (policy : Policy) (events : List Event) (index : ℕ) : Type 0 where
  pub at : IsRefusedAt policy events index
  pub returns : is_return at.event ≡ true
  pub last : list_any (has_clause policy) at.later ≡ false

-- The event of this index is refused. It is a call, or a later event has a clause.
pub record FailsAt (policy : Policy) (events : List Event) (index : ℕ) : Type 0 where
  pub at : IsRefusedAt policy events index
  pub fails : may_stop policy at.event at.later ≡ false

abbrev pub IsVerdict : Policy → List Event → Verdict → Type 0
IsVerdict policy events Accepted = IsSome (after (next policy) (initial policy) events)
IsVerdict policy events (StoppedAt index) = StopsAt policy events index
IsVerdict policy events (Refused index) = FailsAt policy events index
