-- What a verdict shows: a state in range and events that a program can make, which break the condition that is named.
-- (docs/RACES.md)
use Rattle.std.specs.Prelude.{◌≡◌, ◌≢◌, ℕ, [], ◌∷◌, Option, Some, None, IsTrue}
use Rattle.api_listing.specs.declared.events.Event.{Event}
use Rattle.conspec_automaton.specs.declared.policy.Policy.{Policy}
use Rattle.conspec_automaton.specs.Next.{Values, next}
use Rattle.conspec_automaton.specs.Obeys.{after}
use Rattle.conspec_automaton.specs.Racing.{AreTested, IsCall, IsEnd, Pairs}
use Rattle.conspec_automaton.specs.Range.{in_range}
use Rattle.race_free_check.specs.declared.verdict.RaceVerdict.{RaceVerdict}
use Rattle.race_free_check.specs.declared.verdict.RaceVerdict.TheVariants.{Free, Racy}

-- The events are accepted in this order, and not in the other with the same end state.
pub record DoNotTurn (policy : Policy) (state : Values) (first second : Event) : Type 0 where
  pub end : Values
  pub accepted : after (next policy) state (first ∷ second ∷ []) ≡ Some end
  pub differs : after (next policy) state (second ∷ first ∷ []) ≢ Some end

-- In the state the event, or the two events in this order, which are tested, break the condition of this number.
pub data Breaks (tested : Pairs) (policy : Policy) (state : Values) : ℕ → Event → Option Event → Type 0 where
  end_is_refused : (end : Event) → IsEnd policy end → next policy state end ≡ None → Breaks tested policy state 0 end None
  calls_do_not_turn : (first second : Event) → AreTested tested first second → IsCall policy first → IsCall policy second → DoNotTurn policy state first second → Breaks tested policy state 1 first (Some second)
  ends_do_not_turn : (first second : Event) → AreTested tested first second → IsEnd policy first → IsEnd policy second → DoNotTurn policy state first second → Breaks tested policy state 2 first (Some second)
  end_does_not_come_first : (call end : Event) → AreTested tested call end → IsCall policy call → IsEnd policy end → DoNotTurn policy state call end → Breaks tested policy state 3 call (Some end)

pub record IsShown (tested : Pairs) (policy : Policy) (condition : ℕ) (state : Values) (first : Event) (second : Option Event) : Type 0 where
  pub ranged : IsTrue (in_range policy state)
  pub broken : Breaks tested policy state condition first second

-- Where it says that the policy is racy, it shows why.
abbrev pub ShowsRace : Pairs → Policy → RaceVerdict → Type 0
ShowsRace tested policy Free = Unit {0}
ShowsRace tested policy (Racy condition state first second) = IsShown tested policy condition state first second
