-- When the events of a policy do not race: calls and ends of calls that another thread's may come between. (docs/RACES.md)
use Rattle.std.specs.Prelude.{◌≡◌, ℕ, Bool, true, false, IsTrue}
use Rattle.api_listing.specs.declared.events.Event.{Event}
use Rattle.conspec_automaton.specs.declared.policy.Policy.{Policy}
use Rattle.conspec_automaton.specs.Events.{IsWellFormed}
use Rattle.conspec_automaton.specs.Next.{method_of, next}
use Rattle.conspec_automaton.specs.Obeys.{is_return}
use Rattle.conspec_automaton.specs.Range.{in_range}
use Rattle.conspec_automaton.specs.Turning.{IsTaken, Turns}

-- A call that a running program can make.
pub record IsCall (policy : Policy) (event : Event) : Type 0 where
  pub formed : IsWellFormed policy event
  pub calls : is_return event ≡ false

-- A return, or an end by an exception, that a running program can make.
pub record IsEnd (policy : Policy) (event : Event) : Type 0 where
  pub formed : IsWellFormed policy event
  pub ends : is_return event ≡ true

-- which pairs of methods are tested, by their indices
abbrev pub Pairs : Type 0
Pairs = ℕ → ℕ → Bool

abbrev pub all_pairs : Pairs
all_pairs first second = true

-- The events are of two methods that are tested.
abbrev pub AreTested : Pairs → Event → Event → Type 0
AreTested tested first second = IsTrue (tested (method_of first) (method_of second))

-- The end of a call is never refused. Of the pairs that are tested: two calls that are accepted in one order are accepted in
-- the other, with the same end state, and so are two ends of calls; where a call and then the end of another are accepted,
-- the end may come first.
pub record IsRaceFreeFor (tested : Pairs) (policy : Policy) : Type 0 where
  pub ends_are_taken : (end : Event) → IsEnd policy end → IsTaken (next policy) (in_range policy) end
  pub calls_turn : (first second : Event) → AreTested tested first second → IsCall policy first → IsCall policy second → Turns (next policy) (in_range policy) first second
  pub ends_turn : (first second : Event) → AreTested tested first second → IsEnd policy first → IsEnd policy second → Turns (next policy) (in_range policy) first second
  pub ends_come_first : (call end : Event) → AreTested tested call end → IsCall policy call → IsEnd policy end → Turns (next policy) (in_range policy) call end

-- It is so of all pairs.
abbrev pub IsRaceFree : Policy → Type 0
IsRaceFree policy = IsRaceFreeFor all_pairs policy
