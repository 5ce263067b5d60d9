-- What a search has reached by a number: the state, the first event or the second one, of what is searched.
use Rattle.std.proofs.Common.{◌≡◌, ℕ, ◌<◌, ◌≤◌, Bool, true, List, length, Option, Some, sym, ap, subst, ◌∙◌}
use Rattle.std.specs.Prelude.{option_map, slice_get}
use Rattle.api_listing.specs.declared.events.ApiValue.{ApiValue}
use Rattle.api_listing.specs.declared.events.Event.{Event}
use Rattle.conspec_automaton.specs.declared.policy.Clause.{Clause}
use Rattle.conspec_automaton.specs.Next.{Values}
use Rattle.conspec_automaton.specs.Points.{choices_of, made, size_of, state_of, states_of}
use Rattle.conspec_automaton.specs.Range.{in_range}
use Rattle.conspec_automaton.specs.Sound.{IsPolicy}
use Rattle.conspec_automaton.specs.Trying.{Placed, breaks, clauses_of}
use Rattle.race_free_check.specs.Choosing.{IsMade, chosen}
use Rattle.race_free_check.specs.Distinct.{distinct_choices, distinct_events, distinct_seconds}
use Rattle.race_free_check.specs.Searching.{IsSecond, Searched}
use Rattle.race_free_check.proofs.Found.{event_there, events_length, point_of, second_is, second_of, seconds_of_length, state_there, states_length}
use Rattle.race_free_check.proofs.Fitting.{state_in_range}
use Rattle.race_free_check.proofs.Members.{at_index}
use Rattle.race_free_check.proofs.Ranges.{few_choices}

pub record ReachedState (s : Searched) (number : ℕ) (state : Values) : Type 0 where
  pub there : slice_get (states_of s.policy (clauses_of s.trial)) number ≡ Some state
  pub ranged : IsPolicy s.policy → in_range s.policy state ≡ true

pub record ReachedFirst (s : Searched) (number : ℕ) (event : Event) : Type 0 where
  pub there : slice_get (distinct_events s.trial.first.1) number ≡ Some event
  pub made : IsMade s.trial.first.1 event

pub record ReachedSecond (s : Searched) (number : ℕ) (event : Option Event) : Type 0 where
  pub there : slice_get (distinct_seconds s.trial.second) number ≡ Some event
  pub made : IsSecond s.trial.second event

-- What is searched is s, and seen as another that is equal.
module _ (view s : Searched) (seen : view ≡ s) where
  -- ---- states

  module _ (lists : List (List ApiValue)) (is : lists ≡ choices_of view.policy (clauses_of view.trial)) where
    lists_are : lists ≡ choices_of s.policy (clauses_of s.trial)
    lists_are = is ∙ ap (λ (t : Searched). choices_of t.policy (clauses_of t.trial)) seen

    pub few_lists : (taken : List (List ApiValue)) → taken ≡ lists → IsPolicy s.policy → length taken ≤ 16
    few_lists taken same sound = subst (λ (ls : List (List ApiValue)). length ls ≤ 16) (sym (same ∙ lists_are)) (few_choices s.policy (clauses_of s.trial) sound)

    pub state_reached : (taken : List (List ApiValue)) (count number : ℕ) (state : Values) → taken ≡ lists → count ≡ size_of lists → number < count → state ≡ state_of (chosen taken number) → ReachedState s number state
    state_reached taken count number state same counted below e =
        let inside = subst (λ (n : ℕ). number < n) (counted ∙ ap size_of lists_are) below in
        let state_is = e ∙ ap (λ (ls : List (List ApiValue)). state_of (chosen ls number)) (same ∙ lists_are) in
        let there = state_there s.policy (clauses_of s.trial) number inside ∙ ap (λ (values : Values). Some values) (sym state_is) in
        record {
          there = there;
          ranged = λ sound. state_in_range s.policy sound (clauses_of s.trial) state (at_index (states_of s.policy (clauses_of s.trial)) number state there);
        }

    pub states_done : (count number : ℕ) → count ≡ size_of lists → count ≤ number → length (states_of s.policy (clauses_of s.trial)) ≤ number
    states_done count number counted all = subst (λ (n : ℕ). n ≤ number) (counted ∙ ap size_of lists_are ∙ sym (states_length s.policy (clauses_of s.trial))) all

  -- ---- first events

  module _ (clause : Clause) (is : clause ≡ view.trial.first.1) where
    clause_is : clause ≡ s.trial.first.1
    clause_is = is ∙ ap (λ (t : Searched). t.trial.first.1) seen

    pub first_reached : (count number : ℕ) (event : Event) → count ≡ size_of (distinct_choices clause) → number < count → event ≡ made clause (chosen (distinct_choices clause) number) → ReachedFirst s number event
    first_reached count number event counted below e =
        let inside = subst (λ (n : ℕ). number < n) (counted ∙ ap (λ (d : Clause). size_of (distinct_choices d)) clause_is) below in
        let event_is = e ∙ ap (λ (d : Clause). made d (chosen (distinct_choices d) number)) clause_is in
        record {
          there = event_there s.trial.first.1 number inside ∙ ap (λ (f : Event). Some f) (sym event_is);
          made = (chosen (distinct_choices s.trial.first.1) number, event_is);
        }

    pub firsts_done : (count number : ℕ) → count ≡ size_of (distinct_choices clause) → count ≤ number → length (distinct_events s.trial.first.1) ≤ number
    firsts_done count number counted all = subst (λ (n : ℕ). n ≤ number) (counted ∙ ap (λ (d : Clause). size_of (distinct_choices d)) clause_is ∙ sym (events_length s.trial.first.1)) all

  -- ---- second events

  module _ (clauses : Option Clause) (clause : Clause) (are : clauses ≡ option_map (λ (p : Placed). p.1) view.trial.second) (is : clauses ≡ Some clause) where
    second_clause : option_map (λ (p : Placed). p.1) s.trial.second ≡ Some clause
    second_clause = sym (are ∙ ap (λ (t : Searched). option_map (λ (p : Placed). p.1) t.trial.second) seen) ∙ is

    pub second_reached : (count number : ℕ) (event : Option Event) → count ≡ size_of (distinct_choices clause) → number < count → event ≡ Some (made clause (chosen (distinct_choices clause) number)) → ReachedSecond s number event
    second_reached count number event counted below e =
        record {
          there = second_of s.trial.second clause second_clause number (subst (λ (n : ℕ). number < n) counted below) ∙ ap (λ (o : Option Event). Some o) (sym e);
          made = second_is s.trial.second clause second_clause event (chosen (distinct_choices clause) number) e;
        }

    pub seconds_done : (count number : ℕ) → count ≡ size_of (distinct_choices clause) → count ≤ number → length (distinct_seconds s.trial.second) ≤ number
    seconds_done count number counted all = subst (λ (n : ℕ). n ≤ number) (counted ∙ sym (seconds_of_length s.trial.second clause second_clause)) all

  -- what breaks the condition of the one breaks that of the other
  pub breaks_same : (state state' : Values) (first first' : Event) (second : Option Event) (b : Bool) → state ≡ state' → first ≡ first' → b ≡ breaks view.policy (point_of state first second) → breaks s.policy (point_of state' first' second) ≡ b
  breaks_same state state' first first' second b e f is =
      sym (is
      ∙ ap (λ (t : Searched). breaks t.policy (point_of state first second)) seen
      ∙ ap (λ (values : Values). breaks s.policy (point_of values first second)) e
      ∙ ap (λ (event : Event). breaks s.policy (point_of state' event second)) f)
