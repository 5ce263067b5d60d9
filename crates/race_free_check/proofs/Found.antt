-- The first point that breaks a condition, among states, first events and second ones.
use Rattle.std.proofs.Common.{◌≡◌, ℕ, ◌+◌, ◌<◌, ◌≤◌, Bool, true, false, cond, List, [], ◌∷◌, length, drop, map, Option, Some, None, refl, sym, ap, subst, ◌∙◌}
use Rattle.std.specs.Prelude.{find, flat_map, option_map, slice_get}
use Rattle.std.specs.Option.{option_or}
use Rattle.std.proofs.lemmas.List.{drop_all, length-map}
use Rattle.std.proofs.lemmas.List.Folds.{find-append}
use Rattle.api_listing.specs.declared.events.ApiValue.{ApiValue}
use Rattle.api_listing.specs.declared.events.Event.{Event}
use Rattle.conspec_automaton.specs.declared.policy.Clause.{Clause}
use Rattle.conspec_automaton.specs.declared.policy.Policy.{Policy}
use Rattle.conspec_automaton.specs.Next.{Values}
use Rattle.conspec_automaton.specs.Points.{choices_of, each_choice, made, size_of, state_of, states_of}
use Rattle.conspec_automaton.specs.Trying.{Placed, Point, breaks, points_in}
use Rattle.race_free_check.specs.Choosing.{chosen}
use Rattle.race_free_check.specs.Distinct.{distinct_choices, distinct_events, distinct_seconds}
use Rattle.race_free_check.specs.Searching.{IsSecond, broken_among, broken_with, first_some}
use Rattle.race_free_check.proofs.Fewer.{first_agreed}
use Rattle.race_free_check.proofs.Numbered.{chosen_there, got_mapped, left_from, length_choices}

-- ---- the first of which something is found

find_flat : {X Y : Type 0} (test : Y → Bool) (f : X → List Y) (xs : List X) → find test (flat_map f xs) ≡ first_some (λ x. find test (f x)) xs
find_flat test f [] = refl
find_flat test f (x ∷ xs) = find-append test (f x) (flat_map f xs) ∙ ap (option_or (find test (f x))) (find_flat test f xs)

-- To try all points is to try them state by state, and first event by first event.
pub found_among : (policy : Policy) (states : List Values) (firsts : List Event) (seconds : List (Option Event)) → find (breaks policy) (points_in states firsts seconds) ≡ broken_among policy states firsts seconds
found_among policy states firsts seconds =
    find_flat (breaks policy) (λ state. flat_map (λ first. map (λ second. record { state = state; first = first; second = second }) seconds) firsts) states
    ∙ first_agreed _ _ (λ (state : Values). find_flat (breaks policy) (λ first. map (λ second. record { state = state; first = first; second = second }) seconds) firsts) states

-- ---- a search from a place on

module _ {X Y : Type 0} (test : X → Option Y) where
  at_place : (xs : List X) (n : ℕ) (x : X) → slice_get xs n ≡ Some x → first_some test (drop n xs) ≡ option_or (test x) (first_some test (drop (n + 1) xs))
  at_place xs n x there = ap (first_some test) (left_from xs n x there)

  pub found_here : (xs : List X) (n : ℕ) (x : X) (y : Y) → slice_get xs n ≡ Some x → test x ≡ Some y → first_some test (drop n xs) ≡ first_some test xs → first_some test xs ≡ Some y
  found_here xs n x y there found same = sym same ∙ at_place xs n x there ∙ ap (λ (o : Option Y). option_or o (first_some test (drop (n + 1) xs))) found

  pub not_here : (xs : List X) (n : ℕ) (x : X) → slice_get xs n ≡ Some x → test x ≡ None → first_some test (drop n xs) ≡ first_some test xs → first_some test (drop (n + 1) xs) ≡ first_some test xs
  not_here xs n x there none same = sym (at_place xs n x there ∙ ap (λ (o : Option Y). option_or o (first_some test (drop (n + 1) xs))) none) ∙ same

  pub nowhere : (xs : List X) (n : ℕ) → length xs ≤ n → first_some test (drop n xs) ≡ first_some test xs → first_some test xs ≡ None
  nowhere xs n all same = sym same ∙ ap (first_some test) (drop_all n xs all)

-- ---- states and events by their numbers

pub state_there : (policy : Policy) (clauses : List Clause) (n : ℕ) → n < size_of (choices_of policy clauses) → slice_get (states_of policy clauses) n ≡ Some (state_of (chosen (choices_of policy clauses) n))
state_there policy clauses n below = got_mapped state_of (each_choice (choices_of policy clauses)) n ∙ ap (option_map state_of) (chosen_there (choices_of policy clauses) n below)

pub states_length : (policy : Policy) (clauses : List Clause) → length (states_of policy clauses) ≡ size_of (choices_of policy clauses)
states_length policy clauses = length-map (each_choice (choices_of policy clauses)) state_of ∙ length_choices (choices_of policy clauses)

pub event_there : (c : Clause) (n : ℕ) → n < size_of (distinct_choices c) → slice_get (distinct_events c) n ≡ Some (made c (chosen (distinct_choices c) n))
event_there c n below =
    got_mapped (made c) (each_choice (distinct_choices c)) n
    ∙ ap (option_map (made c)) (chosen_there (distinct_choices c) n below)

pub events_length : (c : Clause) → length (distinct_events c) ≡ size_of (distinct_choices c)
events_length c = length-map (each_choice (distinct_choices c)) (made c) ∙ length_choices (distinct_choices c)

second_there : (second : Placed) (n : ℕ) → n < size_of (distinct_choices second.1) → slice_get (distinct_seconds (Some second)) n ≡ Some (Some (made second.1 (chosen (distinct_choices second.1) n)))
second_there second n below = got_mapped Some (distinct_events second.1) n ∙ ap (option_map Some) (event_there second.1 n below)

seconds_length : (second : Placed) → length (distinct_seconds (Some second)) ≡ size_of (distinct_choices second.1)
seconds_length second = length-map (distinct_events second.1) Some ∙ events_length second.1

-- the same where the second clause is told alone
pub second_of : (second : Option Placed) (c : Clause) → option_map (λ (p : Placed). p.1) second ≡ Some c → (n : ℕ) → n < size_of (distinct_choices c) → slice_get (distinct_seconds second) n ≡ Some (Some (made c (chosen (distinct_choices c) n)))
second_of None c e n below = absurd cc
second_of (Some second) c e n below =
    let same : second.1 ≡ c = cc in
    subst (λ (d : Clause). n < size_of (distinct_choices d) → slice_get (distinct_seconds (Some second)) n ≡ Some (Some (made d (chosen (distinct_choices d) n)))) same (second_there second n) below

pub seconds_of_length : (second : Option Placed) (c : Clause) → option_map (λ (p : Placed). p.1) second ≡ Some c → length (distinct_seconds second) ≡ size_of (distinct_choices c)
seconds_of_length None c e = absurd cc
seconds_of_length (Some second) c e =
    let same : second.1 ≡ c = cc in
    seconds_length second ∙ ap (λ (d : Clause). size_of (distinct_choices d)) same

-- The second event that is made is one of the second clause.
pub second_is : (second : Option Placed) (c : Clause) → option_map (λ (p : Placed). p.1) second ≡ Some c → (o : Option Event) (ns : List ApiValue) → o ≡ Some (made c ns) → IsSecond second o
second_is None c e o ns f = absurd cc
second_is (Some second) c e None ns f = absurd cc
second_is (Some second) c e (Some event) ns f =
    let same : c ≡ second.1 = cc in
    let made_is : event ≡ made c ns = cc in
    (ns, made_is ∙ ap (λ (d : Clause). made d ns) same)

-- ---- second events

abbrev pub point_of : Values → Event → Option Event → Point
point_of state first second = record { state = state; first = first; second = second }

-- the point, where it breaks the condition
abbrev pub if_breaks : Policy → Point → Option Point
if_breaks policy point = cond (breaks policy point) (Some point) None

module _ (policy : Policy) (state : Values) (first : Event) where
  pub with_second : (seconds : List (Option Event)) → broken_with policy state first seconds ≡ first_some (λ second. if_breaks policy (point_of state first second)) seconds
  with_second [] = refl
  with_second (second ∷ seconds) = by (breaks policy (point_of state first second)) (with_second seconds) where
    by : (b : Bool) → broken_with policy state first seconds ≡ first_some (λ second. if_breaks policy (point_of state first second)) seconds
        → cond b (Some (point_of state first second)) (broken_with policy state first seconds)
        ≡ option_or (cond b (Some (point_of state first second)) None) (first_some (λ second. if_breaks policy (point_of state first second)) seconds)
    by true rest = refl
    by false rest = rest

  pub second_found : (seconds : List (Option Event)) (n : ℕ) (second : Option Event) → slice_get seconds n ≡ Some second → breaks policy (point_of state first second) ≡ true
      → broken_with policy state first (drop n seconds) ≡ broken_with policy state first seconds → broken_with policy state first seconds ≡ Some (point_of state first second)
  second_found seconds n second there found same =
      with_second seconds
      ∙ found_here (λ second. if_breaks policy (point_of state first second)) seconds n second (point_of state first second) there
      (ap (λ (b : Bool). cond b (Some (point_of state first second)) None) found) (sym (with_second (drop n seconds)) ∙ same ∙ with_second seconds)

  pub second_not_found : (seconds : List (Option Event)) (n : ℕ) (second : Option Event) → slice_get seconds n ≡ Some second → breaks policy (point_of state first second) ≡ false
      → broken_with policy state first (drop n seconds) ≡ broken_with policy state first seconds → broken_with policy state first (drop (n + 1) seconds) ≡ broken_with policy state first seconds
  second_not_found seconds n second there none same =
      with_second (drop (n + 1) seconds)
      ∙ not_here (λ second. if_breaks policy (point_of state first second)) seconds n second there
      (ap (λ (b : Bool). cond b (Some (point_of state first second)) None) none) (sym (with_second (drop n seconds)) ∙ same ∙ with_second seconds)
      ∙ sym (with_second seconds)

  pub no_second_found : (seconds : List (Option Event)) (n : ℕ) → length seconds ≤ n → broken_with policy state first (drop n seconds) ≡ broken_with policy state first seconds → broken_with policy state first seconds ≡ None
  no_second_found seconds n all same = sym same ∙ ap (broken_with policy state first) (drop_all n seconds all)
