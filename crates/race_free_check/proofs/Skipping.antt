-- Events whose values are alike lead to the same state, so what is found among the distinct events is found among all.
use Rattle.std.proofs.Common.{◌≡◌, inl, ℕ, zero, suc, ◌+◌, ◌≤◌, Bool, true, false, cond, not, List, [], ◌∷◌, Option, Some, None, refl, sym, ap, subst, ◌∙◌, arith}
use Rattle.std.specs.Prelude.{IfSome, is_none, option_and_then, option_map, slice_get}
use Rattle.std.specs.Option.{option_map_or}
use Rattle.std.proofs.lemmas.Bool.{eq-eqb}
use Rattle.api_listing.specs.declared.events.ApiValue.{ApiValue}
use Rattle.api_listing.specs.declared.events.Event.{Event}
use Rattle.conspec_tree.specs.declared.types.Atom.{Atom}
use Rattle.conspec_tree.specs.declared.types.Base.{Base}
use Rattle.conspec_tree.specs.declared.types.Base.TheVariants as bases
use Rattle.conspec_tree.specs.declared.types.Phase.{Phase}
use Rattle.conspec_tree.specs.declared.types.Phase.TheVariants.{Before, After, Exceptional}
use Rattle.conspec_automaton.specs.declared.policy.Branch.{Branch}
use Rattle.conspec_automaton.specs.declared.policy.Clause.{Clause}
use Rattle.conspec_automaton.specs.declared.policy.Policy.{Policy}
use Rattle.conspec_automaton.specs.Next.{Values, holds, is_taken, moment, next, number_in, relates, speaks_of, value_of}
use Rattle.conspec_automaton.specs.Obeys.{after}
use Rattle.conspec_automaton.specs.Points.{atoms_in, each_choice, events_of, is_same, made, made_in, size_of, states_of}
use Rattle.conspec_automaton.specs.Sound.{IsPolicy}
use Rattle.conspec_automaton.specs.Trying.{Placed, Point, Trial, clauses_of, is_broken, is_end, is_turned, seconds_of}
use Rattle.race_free_check.specs.Choosing.{event_choices}
use Rattle.race_free_check.specs.Deciding.{AreClausesOf, broken_in}
use Rattle.race_free_check.specs.Distinct.{are_alike, atoms_on, base_at, distinct_choices, distinct_events, distinct_seconds, holds_of}
use Rattle.race_free_check.specs.Searching.{Searched, broken_among, broken_in_state, broken_with, first_some}
use Rattle.race_free_check.proofs.Alike.{alike_itself, holds_alike}
use Rattle.race_free_check.proofs.Choosing.{chosen, next_is}
use Rattle.race_free_check.proofs.Fewer.{AreLike, fewer_choices, first_agreed, first_mapped, first_of_fewer, none_too}
use Rattle.race_free_check.proofs.Fitting.{clause_found}
use Rattle.race_free_check.proofs.Found.{found_among, if_breaks, point_of, with_second}
use Rattle.race_free_check.proofs.Members.{Has, at_index, in_filter, same_all, same_found}
use Rattle.race_free_check.proofs.Sides.{atom_in}
use Rattle.race_free_check.proofs.Updating.{altered}

-- ---- alike values

-- what an atom says of a value that is there or not
abbrev asked : Atom → Option ApiValue → Bool
asked a o = option_map_or (λ n. relates a.rel n a.value) (option_and_then number_in o) false

module _ (a : Atom) (alike : ℕ → ApiValue → ApiValue → Bool) where
  asked_alike : (xs ys : List ApiValue) (place i : ℕ) → AreLike alike place xs ys → ((x y : ApiValue) → alike (place + i) x y ≡ true → holds_of x a ≡ holds_of y a) → asked a (slice_get xs i) ≡ asked a (slice_get ys i)
  asked_alike [] [] place i like each = refl
  asked_alike [] (y ∷ ys) place i like each = absurd like
  asked_alike (x ∷ xs) [] place i like each = absurd like
  asked_alike (x ∷ xs) (y ∷ ys) place zero like each =
      let same : place + 0 ≡ place = omega arith in
      each x y (subst (λ (n : ℕ). alike n x y ≡ true) (sym same) like.0)
  asked_alike (x ∷ xs) (y ∷ ys) place (suc i) like each =
      let same : (place + 1) + i ≡ place + suc i = omega arith in
      asked_alike xs ys (place + 1) i like.1 (λ v w e. each v w (subst (λ (n : ℕ). alike n v w ≡ true) same e))

-- ---- events with alike values

-- The values at the place are alike to the clause, where its phase is this one.
abbrev alike_in : Clause → Phase → ℕ → ApiValue → ApiValue → Bool
alike_in c phase place x y = are_alike (atoms_on (base_at phase place) c) x y

module _ (c : Clause) (a : Atom) (there : Has (atoms_in (c ∷ [])) a) where
  -- the atom is on the base
  on_base : (phase : Phase) (place : ℕ) (x y : ApiValue) → is_same (base_at phase place) a.base ≡ true → alike_in c phase place x y ≡ true → holds_of x a ≡ holds_of y a
  on_base phase place x y same alike =
      holds_alike (atoms_on (base_at phase place) c) x y a alike (in_filter (λ (b : Atom). is_same (base_at phase place) b.base) (atoms_in (c ∷ [])) a there same)

  module _ (state : Values) where
    abbrev says : Phase → List ApiValue → Base → Bool
    says phase values base = option_map_or (λ n. relates a.rel n a.value) (value_of (moment state (made_in c phase values)) base) false

    says_same : (phase : Phase) (xs ys : List ApiValue) → AreLike (alike_in c phase) 0 xs ys → (base : Base) → a.base ≡ base → says phase xs base ≡ says phase ys base
    says_same Before xs ys like (bases.Var i) is = refl
    says_same Before xs ys like (bases.Arg i) is =
        let start : 0 + i ≡ i = omega arith in
        let same : is_same (bases.Arg (0 + i)) a.base ≡ true = rw (is, start) (eq-eqb i i refl) in
        asked_alike a (alike_in c Before) xs ys 0 i like (λ x y e. on_base Before (0 + i) x y same e)
    says_same Before xs ys like bases.Result is = refl
    says_same After xs ys like (bases.Var i) is = refl
    says_same After xs ys like (bases.Arg i) is = refl
    says_same After xs ys like bases.Result is = asked_alike a (alike_in c After) xs ys 0 0 like (λ x y e. on_base After 0 x y (rw is refl) e)
    says_same Exceptional xs ys like base is = refl

-- There are no more choices of distinct values than of all.
pub few_distinct : (c : Clause) (n : ℕ) → size_of (event_choices c) ≤ n → size_of (distinct_choices c) ≤ n
few_distinct c n few = let less = fewer_choices (alike_in c c.phase) (event_choices c) 0 in omega arith

-- The events lead from each state to the same one.
abbrev pub LeadSame : Policy → Event → Event → Type 0
LeadSame policy event other = (state : Values) → next policy state event ≡ next policy state other

made_speaks : (c : Clause) (phase : Phase) (values : List ApiValue) → c.phase ≡ phase → speaks_of (made_in c phase values) c ≡ true
made_speaks c Before values e = rw (eq-eqb c.method c.method refl, e) refl
made_speaks c After values e = rw (eq-eqb c.method c.method refl, e) refl
made_speaks c Exceptional values e = rw (eq-eqb c.method c.method refl, e) refl

module _ (c : Clause) where
  -- the values of an event of the clause are alike, each at its place
  abbrev pub AreValuesLike : List ApiValue → List ApiValue → Type 0
  AreValuesLike xs ys = AreLike (alike_in c c.phase) 0 xs ys

  module _ (xs ys : List ApiValue) (like : AreValuesLike xs ys) where
    holds_same : (state : Values) (a : Atom) → Has (atoms_in (c ∷ [])) a → holds (moment state (made c xs)) a ≡ holds (moment state (made c ys)) a
    holds_same state a h = says_same c a h state c.phase xs ys like a.base refl

    taken_same : (state : Values) (b : Branch) → Has c.branches b → is_taken (moment state (made c xs)) b ≡ is_taken (moment state (made c ys)) b
    taken_same state b hb = same_all (holds (moment state (made c xs))) (holds (moment state (made c ys))) b.atoms (λ a ha. holds_same state a (atom_in (c ∷ []) c b a (inl refl) hb ha))

    chosen_same : (state : Values) → chosen c state (made c xs) ≡ chosen c state (made c ys)
    chosen_same state = same_found (is_taken (moment state (made c xs))) (is_taken (moment state (made c ys))) c.branches (taken_same state)

    lead_same : (policy : Policy) → IsPolicy policy → Has policy.clauses c → LeadSame policy (made c xs) (made c ys)
    lead_same policy sound there state =
        next_is policy c state (made c xs) (clause_found policy sound c (made c xs) there (made_speaks c c.phase xs refl))
        ∙ ap (option_map (λ (b : Branch). altered state b.updates)) (chosen_same state)
        ∙ sym (next_is policy c state (made c ys) (clause_found policy sound c (made c ys) there (made_speaks c c.phase ys refl)))

-- ---- what breaks a condition

module _ (policy : Policy) (state : Values) where
  after_same : (first first' second second' : Event) → LeadSame policy first first' → LeadSame policy second second' → after (next policy) state (first ∷ second ∷ []) ≡ after (next policy) state (first' ∷ second' ∷ [])
  after_same first first' second second' one other =
      ap (λ (o : Option Values). option_and_then (λ reached. after (next policy) reached (second ∷ [])) o) (one state) ∙ by (next policy state first') where
        by : (o : Option Values) → option_and_then (λ reached. after (next policy) reached (second ∷ [])) o ≡ option_and_then (λ reached. after (next policy) reached (second' ∷ [])) o
        by None = refl
        by (Some reached) = ap (λ (o : Option Values). option_and_then (λ (last : Values). Some last) o) (other reached)

  turned_same : (first first' second second' : Event) → LeadSame policy first first' → LeadSame policy second second' → is_turned policy state first second ≡ is_turned policy state first' second'
  turned_same first first' second second' one other =
      ap (λ (o : Option Values). option_map_or (λ end. is_end end (after (next policy) state (second ∷ first ∷ []))) o true) (after_same first first' second second' one other)
      ∙ ap (λ (o : Option Values). option_map_or (λ end. is_end end o) (after (next policy) state (first' ∷ second' ∷ [])) true) (after_same second second' first first' other one)

  itself_same : (event : Event) → LeadSame policy event event
  itself_same event reached = refl

  first_same : (first other : Event) (second : Option Event) → LeadSame policy first other → is_broken policy state first second ≡ is_broken policy state other second
  first_same first other None one = ap is_none (one state)
  first_same first other (Some second) one = ap not (turned_same first other second second one (itself_same second))

  second_same : (first second other : Event) → LeadSame policy second other → is_broken policy state first (Some second) ≡ is_broken policy state first (Some other)
  second_same first second other one = ap not (turned_same first first second other (itself_same first) one)

-- ---- the search

if_breaks_none : (policy : Policy) (state : Values) (first other : Event) (second last : Option Event) → is_broken policy state first second ≡ is_broken policy state other last
    → if_breaks policy (point_of state other last) ≡ None → if_breaks policy (point_of state first second) ≡ None
if_breaks_none policy state first other second last same none = by (is_broken policy state other last) same none where
  by : (b : Bool) → is_broken policy state first second ≡ b → cond b (Some (point_of state other last)) None ≡ None → if_breaks policy (point_of state first second) ≡ None
  by true e none = absurd cc
  by false e none = ap (λ (b : Bool). cond b (Some (point_of state first second)) None) e

module _ (policy : Policy) (sound : IsPolicy policy) where
  module _ (c : Clause) (there : Has policy.clauses c) where
    -- The first of the distinct events of which something is found is the first of all.
    first_distinct : {Y : Type 0} (test : Event → Option Y) → ((event other : Event) → LeadSame policy event other → test other ≡ None → test event ≡ None) → first_some test (distinct_events c) ≡ first_some test (events_of c)
    first_distinct test same =
        first_mapped test (made c) (each_choice (distinct_choices c))
        ∙ first_of_fewer (alike_in c c.phase) (λ place x. alike_itself (atoms_on (base_at c.phase place) c) x) (event_choices c) 0 (λ values. test (made c values))
        (λ xs ys like none. same (made c xs) (made c ys) (lead_same c xs ys like policy sound there) none)
        ∙ sym (first_mapped test (made c) (each_choice (event_choices c)))

  module _ (state : Values) where
    seconds_same : (first : Event) (second : Placed) → Has policy.clauses second.1 → broken_with policy state first (distinct_seconds (Some second)) ≡ broken_with policy state first (seconds_of (Some second))
    seconds_same first second there =
        with_second policy state first (distinct_seconds (Some second))
        ∙ first_mapped (λ (o : Option Event). if_breaks policy (point_of state first o)) Some (distinct_events second.1)
        ∙ first_distinct second.1 there (λ event. if_breaks policy (point_of state first (Some event)))
        (λ event other lead none. if_breaks_none policy state first first (Some event) (Some other) (second_same policy state first event other lead) none)
        ∙ sym (first_mapped (λ (o : Option Event). if_breaks policy (point_of state first o)) Some (events_of second.1))
        ∙ sym (with_second policy state first (seconds_of (Some second)))

    second_lists : (first : Event) (second : Option Placed) → IfSome second (λ (p : Placed). Has policy.clauses p.1) → broken_with policy state first (distinct_seconds second) ≡ broken_with policy state first (seconds_of second)
    second_lists first None there = refl
    second_lists first (Some second) there = seconds_same first second there

    firsts_same : (c : Clause) → Has policy.clauses c → (seconds : List (Option Event)) → broken_in_state policy state (distinct_events c) seconds ≡ broken_in_state policy state (events_of c) seconds
    firsts_same c there seconds = first_distinct c there (λ event. broken_with policy state event seconds) none_with where
      none_with : (event other : Event) → LeadSame policy event other → broken_with policy state other seconds ≡ None → broken_with policy state event seconds ≡ None
      none_with event other lead none =
          with_second policy state event seconds
          ∙ none_too (λ second. if_breaks policy (point_of state event second)) (λ second. if_breaks policy (point_of state other second))
          (λ second. if_breaks_none policy state event other second second (first_same policy state event other second lead)) seconds (sym (with_second policy state other seconds) ∙ none)

    both_same : (c : Clause) → Has policy.clauses c → (second : Option Placed) → IfSome second (λ (p : Placed). Has policy.clauses p.1)
        → broken_in_state policy state (distinct_events c) (distinct_seconds second) ≡ broken_in_state policy state (events_of c) (seconds_of second)
    both_same c there second there_too =
        first_agreed _ _ (λ (first : Event). second_lists first second there_too) (distinct_events c) ∙ firsts_same c there (seconds_of second)

  -- What is found among the distinct events of the clauses is found among all of them.
  found_same : (trial : Trial) → AreClausesOf policy trial → (states : List Values)
      → broken_among policy states (distinct_events trial.first.1) (distinct_seconds trial.second) ≡ broken_among policy states (events_of trial.first.1) (seconds_of trial.second)
  found_same trial clauses states = first_agreed _ _ (λ (state : Values). both_same state trial.first.1 (at_index policy.clauses trial.first.0 trial.first.1 clauses.first_there) trial.second (by trial.second clauses.second_there)) states where
    by : (o : Option Placed) → IfSome o (λ (p : Placed). slice_get policy.clauses p.0 ≡ Some p.1) → IfSome o (λ (p : Placed). Has policy.clauses p.1)
    by None there = tt
    by (Some p) there = at_index policy.clauses p.0 p.1 there

abbrev broken_of : Searched → Option Point
broken_of s = broken_among s.policy (states_of s.policy (clauses_of s.trial)) (distinct_events s.trial.first.1) (distinct_seconds s.trial.second)

-- What is found of what is searched is found of the trial.
pub searched_is : (s : Searched) (policy : Policy) (trial : Trial) (o : Option Point) → IsPolicy policy → AreClausesOf policy trial → s ≡ record { policy = policy; trial = trial } → broken_of s ≡ o → o ≡ broken_in policy trial
unfolding broken_in
searched_is s policy trial o sound clauses same found =
    sym found ∙ ap broken_of same ∙ found_same policy sound trial clauses (states_of policy (clauses_of trial))
    ∙ sym (found_among policy (states_of policy (clauses_of trial)) (events_of trial.first.1) (seconds_of trial.second))
