-- How what happened and what a monitor has recorded agree, where calls are granted before they are made, and returns are recorded after
-- they were made. (docs/CERTIFICATES.md)
use Rattle.std.specs.Prelude.{◌≡◌, true, if◌then◌else◌, List, [], ◌∷◌, ◌++◌, Option, Some, None, option_and_then}
use Rattle.api_listing.specs.declared.events.Event.{Event}
use Rattle.conspec_automaton.specs.declared.policy.Policy.{Policy}
use Rattle.conspec_automaton.specs.Next.{Values, has_clause, next}
use Rattle.conspec_automaton.specs.Obeys.{after, is_return}
use Rattle.conspec_automaton.specs.Sight.{sight_of}

-- ---- parts

-- What a thread has begun with the automaton and not done yet: nothing; a call that was accepted, and is not made; or a return that
-- was made, and is not recorded.
pub data Part : Type 0 where
  Clear : Part
  Granted : Event → Part
  Owed : Event → Part

abbrev pub granted_by : Part → List Event
granted_by Clear = []
granted_by (Granted call) = call ∷ []
granted_by (Owed end) = []

abbrev pub owed_by : Part → List Event
owed_by Clear = []
owed_by (Granted call) = []
owed_by (Owed end) = end ∷ []

-- what all threads are granted, and what they owe, in the order of the threads
abbrev pub all_granted : List Part → List Event
all_granted [] = []
all_granted (part ∷ parts) = granted_by part ++ all_granted parts

abbrev pub all_owed : List Part → List Event
all_owed [] = []
all_owed (part ∷ parts) = owed_by part ++ all_owed parts

-- ---- the agreement

-- The events so far and then what is granted lead where the recorded state and then what is owed leads.
abbrev pub Agree : {S E : Type 0} → (S → E → Option S) → S → List E → S → List E → List E → Type 0
Agree next first traced recorded granted owed = after next first (traced ++ granted) ≡ after next recorded owed

-- ---- what a step does to it

-- the event, where it has a clause
abbrev pub clause_event : Policy → Option Event → Option Event
clause_event policy event = option_and_then (λ (e : Event). if has_clause policy e then Some e else None) event

-- Without such an event: nothing; a call is accepted; or a return is recorded.
abbrev pub Settles : Policy → Values → Part → Values → Part → Type 0
Settles policy recorded Clear now Clear = now ≡ recorded
Settles policy recorded Clear now (Granted call) = next policy recorded call ≡ Some now
Settles policy recorded Clear now (Owed end) = ⊥
Settles policy recorded (Granted call) now Clear = ⊥
Settles policy recorded (Granted call) now (Granted other) = (now ≡ recorded) × (other ≡ call)
Settles policy recorded (Granted call) now (Owed end) = ⊥
Settles policy recorded (Owed end) now Clear = next policy recorded end ≡ Some now
Settles policy recorded (Owed end) now (Granted call) = ⊥
Settles policy recorded (Owed end) now (Owed other) = (now ≡ recorded) × (other ≡ end)

-- With it: what was granted is called; or a call returns, and this is owed, or recorded at once.
abbrev pub Tells : Policy → Values → Part → Event → Values → Part → Type 0
Tells policy recorded Clear event now Clear = (is_return event ≡ true) × (next policy recorded event ≡ Some now)
Tells policy recorded Clear event now (Granted call) = ⊥
Tells policy recorded Clear event now (Owed end) = (is_return event ≡ true) × (now ≡ recorded) × (end ≡ event)
Tells policy recorded (Granted call) event now Clear = (now ≡ recorded) × (sight_of event ≡ sight_of call)
Tells policy recorded (Granted call) event now (Granted other) = ⊥
Tells policy recorded (Granted call) event now (Owed end) = ⊥
Tells policy recorded (Owed end) event now part = ⊥

abbrev pub Turns : Policy → Values → Part → Option Event → Values → Part → Type 0
Turns policy recorded part None now due = Settles policy recorded part now due
Turns policy recorded part (Some event) now due = Tells policy recorded part event now due
