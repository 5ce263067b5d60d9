-- What is tried can be: the states are in range, and the events are those of their clause, and well-formed.
use Rattle.std.proofs.Common.{◌≡◌, inl, inr, ℕ, zero, suc, ◌+◌, ℤ, pos, Bool, true, false, not, cond, List, [], ◌∷◌, map, Option, Some, None, refl, sym, ap, subst, ◌∙◌, arith}
use Rattle.std.specs.Prelude.{◌≤ℤ◌, ◌==◌, AllPairs, find, if◌then◌else◌, slice_get}
use Rattle.std.specs.List.{AllByRecursion, enumerate_from}
use Rattle.std.proofs.lemmas.Bool.{and_parts, eq-eqb, eqb-true}
use Rattle.std.proofs.lemmas.Int.{ints}
use Rattle.api_listing.specs.declared.events.ApiValue.{ApiValue}
use Rattle.api_listing.specs.declared.events.ApiValue.TheVariants as api
use Rattle.api_listing.specs.declared.events.Event.{Event}
use Rattle.api_listing.specs.declared.events.Event.TheVariants as events
use Rattle.conspec_tree.specs.declared.types.Kind.{Kind}
use Rattle.conspec_tree.specs.declared.types.Kind.TheVariants as kinds
use Rattle.conspec_tree.specs.declared.types.Phase.{Phase}
use Rattle.conspec_tree.specs.declared.types.Phase.TheVariants.{Before, After, Exceptional}
use Rattle.conspec_tree.specs.declared.types.Var.{Var}
use Rattle.conspec_tree.specs.Tree.{IsInRange, greatest}
use Rattle.conspec_automaton.specs.declared.policy.Clause.{Clause}
use Rattle.conspec_automaton.specs.declared.policy.Policy.{Policy}
use Rattle.conspec_tree.specs.Kinds.{number_range, passed_range}
use Rattle.conspec_automaton.specs.Events.{FitsClause, IsNumberOf, IsWellFormed}
use Rattle.conspec_automaton.specs.Next.{Values, clause_of, is_phase_of, method_of, speaks_of}
use Rattle.conspec_automaton.specs.Obeys.{is_return}
use Rattle.conspec_automaton.specs.Points.{arguments_of, each_choice, events_in, events_of, is_named, made_in, named_points, near, points_at, points_between, results_of, states_of, thresholds, values_in, variable_numbers}
use Rattle.conspec_automaton.specs.Range.{are_in_range, in_range, is_in_range}
use Rattle.conspec_automaton.specs.Sound.{Differ, IsPolicy}
use Rattle.conspec_automaton.specs.Trying.{is_of_calls}
use Rattle.race_free_check.proofs.EachChoice.{Choice, each_choice_has}
use Rattle.race_free_check.proofs.Likening.{phase_after, phase_before, phase_exceptional}
use Rattle.race_free_check.proofs.Making.{numbers_of, states_are}
use Rattle.race_free_check.proofs.Members.{Has, map_has, place_of}
use Rattle.race_free_check.proofs.Nearest.{near_within, of_ascending}
use Rattle.race_free_check.proofs.Thresholds.{Within, is_within}
use Rattle.race_free_check.proofs.Passing.{argument_constants, result_constants, tried_from, tried_results}

-- ---- numbers

listed_within : (low high x : ℤ) (cs : List ℤ) → low ≤ℤ high → Has (low ∷ high ∷ near low high cs) x → Within low high x
listed_within low high x cs ordered (inl e) = record { least = omega (arith, ints); most = omega (arith, ints) }
listed_within low high x cs ordered (inr (inl e)) = record { least = omega (arith, ints); most = omega (arith, ints) }
listed_within low high x cs ordered (inr (inr h)) = near_within low high cs x h

between_within : (low high x : ℤ) (cs : List ℤ) → low ≤ℤ pos 0 → pos 0 ≤ℤ high → Has (points_between low high cs) x → Within low high x
between_within low high x [] l m (inl e) = record { least = omega (arith, ints); most = omega (arith, ints) }
between_within low high x [] l m (inr h) = absurd h
between_within low high x (c ∷ cs) l m h = listed_within low high x (c ∷ cs) (omega (arith, ints)) (of_ascending x (low ∷ high ∷ near low high (c ∷ cs)) h)

-- 0 is in the range.
abbrev HoldsZero : Option (ℤ × ℤ) → Type 0
HoldsZero None = Unit {0}
HoldsZero (Some range) = (range.0 ≤ℤ pos 0) × (pos 0 ≤ℤ range.1)

given_zero : (kind : Kind) → HoldsZero (number_range kind)
given_zero kinds.Int = (omega (arith, ints), omega (arith, ints))
given_zero kinds.Bool = (omega (arith, ints), omega (arith, ints))
given_zero kinds.Byte = (omega (arith, ints), omega (arith, ints))
given_zero kinds.Short = (omega (arith, ints), omega (arith, ints))
given_zero kinds.Char = (omega (arith, ints), omega (arith, ints))
given_zero kinds.Object = tt

passed_zero : (kind : Kind) → HoldsZero (passed_range kind)
passed_zero kinds.Int = given_zero kinds.Int
passed_zero kinds.Bool = given_zero kinds.Int
passed_zero kinds.Byte = given_zero kinds.Int
passed_zero kinds.Short = given_zero kinds.Int
passed_zero kinds.Char = given_zero kinds.Int
passed_zero kinds.Object = tt

value_fits : (range : Option (ℤ × ℤ)) (cs : List ℤ) (value : ApiValue) → HoldsZero range → Has (values_in range cs) value → IsNumberOf range (Some value)
value_fits None cs value holds h = tt
value_fits (Some range) cs value holds h =
    let m = map_has api.Int (points_between range.0 range.1 cs) value h in
    let w = between_within range.0 range.1 m.item cs holds.0 holds.1 m.there in
    subst (λ (v : ApiValue). IsNumberOf (Some range) (Some v)) m.so (m.item, refl, is_within range.0 range.1 m.item w.least w.most)

-- ---- what is passed or given

module _ (c : Clause) where
  passed_all : (args : List Kind) (n : ℕ) (values : List ApiValue) → Choice (tried_from c n args) values → (j : ℕ) (kind : Kind) → slice_get args j ≡ Some kind → IsNumberOf (passed_range kind) (slice_get values j)
  unfolding points_at
  passed_all [] n values choice j kind there = absurd cc
  passed_all (first ∷ args) n [] choice j kind there = absurd choice
  passed_all (first ∷ args) n (value ∷ values) choice zero kind there =
      let same : first ≡ kind = cc in
      subst (λ (k : Kind). IsNumberOf (passed_range k) (Some value)) same (value_fits (passed_range first) (argument_constants c n) value (passed_zero first) choice.0)
  passed_all (first ∷ args) n (value ∷ values) choice (suc j) kind there = passed_all args (n + 1) values choice.1 j kind there

  given_result : (asked : Option Kind) (values : List ApiValue) → Choice (tried_results c asked) values → (kind : Kind) → asked ≡ Some kind → IsNumberOf (number_range kind) (slice_get values 0)
  unfolding points_at
  given_result None values choice kind e = absurd cc
  given_result (Some first) [] choice kind e = absurd choice
  given_result (Some first) (value ∷ values) choice kind e =
      let same : first ≡ kind = cc in
      subst (λ (k : Kind). IsNumberOf (number_range k) (Some value)) same (value_fits (number_range first) (result_constants c) value (given_zero first) choice.0)

-- ---- events

-- An event that is tried fits its clause, which speaks of it, and is a call or a return as the phase tells.
pub record IsTried (c : Clause) (event : Event) : Type 0 where
  pub fits : FitsClause c event
  pub speaks : speaks_of event c ≡ true
  pub ends : is_return event ≡ not (is_of_calls c.phase)

spoken : (c : Clause) (event : Event) (phase : Phase) → c.phase ≡ phase → c.method ≡ method_of event → is_phase_of event phase ≡ true → speaks_of event c ≡ true
spoken c event phase e m is =
    let same : is_phase_of event c.phase ≡ true = ap (is_phase_of event) e ∙ is in
    rw (eq-eqb c.method (method_of event) m, same) refl

tried_in : (c : Clause) (event : Event) (phase : Phase) → c.phase ≡ phase → Has (events_in c phase) event → IsTried c event
tried_in c event Before e h =
    let m = map_has (made_in c Before) (each_choice (arguments_of c)) event h in
    let choice = each_choice_has (arguments_of c) m.item m.there in
    subst (IsTried c) m.so (record {
      fits = passed_all c c.args 0 m.item choice;
      speaks = spoken c (events.Call 0 c.method m.item) Before e refl refl;
      ends = ap (λ (p : Phase). not (is_of_calls p)) (sym e);
    })
tried_in c event After e h =
    let m = map_has (made_in c After) (each_choice (results_of c)) event h in
    let choice = each_choice_has (results_of c) m.item m.there in
    subst (IsTried c) m.so (record {
      fits = given_result c c.result m.item choice;
      speaks = spoken c (events.Return 0 c.method (slice_get m.item 0)) After e refl refl;
      ends = ap (λ (p : Phase). not (is_of_calls p)) (sym e);
    })
tried_in c event Exceptional e (inl same) =
    subst (IsTried c) same (record {
      fits = tt;
      speaks = spoken c (events.Except 0 c.method) Exceptional e refl refl;
      ends = ap (λ (p : Phase). not (is_of_calls p)) (sym e);
    })
tried_in c event Exceptional e (inr none) = absurd none

pub tried : (c : Clause) (event : Event) → Has (events_of c) event → IsTried c event
tried c event h = tried_in c event c.phase refl h

-- ---- the clause of an event

same_phase : (event : Event) (p q : Phase) → is_phase_of event p ≡ true → is_phase_of event q ≡ true → p ≡ q
same_phase (events.Call thread method given) p q a b = phase_before p thread method given a ∙ sym (phase_before q thread method given b)
same_phase (events.Return thread method given) p q a b = phase_after p thread method given a ∙ sym (phase_after q thread method given b)
same_phase (events.Except thread method) p q a b = phase_exceptional p thread method a ∙ sym (phase_exceptional q thread method b)

both_speak : (event : Event) (c d : Clause) → speaks_of event c ≡ true → speaks_of event d ≡ true → Differ c d → ⊥
both_speak event c d first second differ =
    let p = and_parts (c.method == method_of event) (is_phase_of event c.phase) first in
    let q = and_parts (d.method == method_of event) (is_phase_of event d.phase) second in
    differ (eqb-true c.method (method_of event) p.0 ∙ sym (eqb-true d.method (method_of event) q.0)) (same_phase event c.phase d.phase p.1 q.1)

found_alone : (event : Event) (clauses : List Clause) (c : Clause) → AllPairs Differ clauses → Has clauses c → speaks_of event c ≡ true → find (speaks_of event) clauses ≡ Some c
found_alone event [] c pairs h speaks = absurd h
found_alone event (d ∷ clauses) c pairs (inl same) speaks =
    let first : speaks_of event d ≡ true = ap (speaks_of event) same ∙ speaks in
    rw first (ap Some same)
found_alone event (d ∷ clauses) c pairs (inr h) speaks = by (speaks_of event d) refl (found_alone event clauses c (λ i j e lt below. pairs (suc i) (suc j) e (omega arith) (omega arith)) h speaks) where
  apart : speaks_of event d ≡ true → ⊥
  apart first =
      let p = place_of clauses c d h in
      both_speak event d c first speaks (subst (λ (x : Clause). Differ d x) p.is (pairs 0 (suc p.place) d (omega arith) (omega arith)))

  by : (b : Bool) → speaks_of event d ≡ b → find (speaks_of event) clauses ≡ Some c → cond b (Some d) (find (speaks_of event) clauses) ≡ Some c
  by true first rest = absurd (apart first)
  by false first rest = rest

module _ (policy : Policy) (sound : IsPolicy policy) where
  pub clause_found : (c : Clause) (event : Event) → Has policy.clauses c → speaks_of event c ≡ true → clause_of policy event ≡ Some c
  clause_found c event h speaks = found_alone event policy.clauses c sound.once h speaks

  pub formed : (c : Clause) (event : Event) → Has policy.clauses c → IsTried c event → IsWellFormed policy event
  formed c event h is clause found =
      let here = clause_found c event h is.speaks in
      let same : c ≡ clause = cc in
      subst (λ (d : Clause). FitsClause d event) same is.fits

  -- ---- states

  module _ (cs : List Clause) where
    int_points : (i : ℕ) (x : ℤ) → Has (named_points policy.maxint i false cs) x → Within (pos 0) policy.maxint x
    int_points i x h = near_within (pos 0) policy.maxint (thresholds policy.maxint i cs) x (of_ascending x (near (pos 0) policy.maxint (thresholds policy.maxint i cs)) h)

    named_within : (i : ℕ) (is_bool : Bool) (x : ℤ) → Has (named_points policy.maxint i is_bool cs) x → Within (pos 0) (greatest policy.maxint is_bool) x
    named_within i true x (inl e) = record { least = omega (arith, ints); most = omega (arith, ints) }
    named_within i true x (inr (inl e)) = record { least = omega (arith, ints); most = omega (arith, ints) }
    named_within i true x (inr (inr none)) = absurd none
    named_within i false x h = int_points i x h

    point_within : (i : ℕ) (v : Var) (x : ℤ) → IsInRange policy.maxint v.is_bool v.first → Has (variable_numbers policy.maxint cs i v) x → is_in_range policy.maxint v x ≡ true
    point_within i v x first h = by (is_named i cs) h where
      by : (b : Bool) → Has (if b then named_points policy.maxint i v.is_bool cs else v.first ∷ []) x → is_in_range policy.maxint v x ≡ true
      by true k = let w = named_within i v.is_bool x k in is_within (pos 0) (greatest policy.maxint v.is_bool) x w.least w.most
      by false (inl e) = subst (λ (y : ℤ). is_in_range policy.maxint v y ≡ true) e (is_within (pos 0) (greatest policy.maxint v.is_bool) v.first first.low first.high)
      by false (inr none) = absurd none

    all_within : (vars : List Var) (n : ℕ) (s : Values) → AllByRecursion (λ v. IsInRange policy.maxint v.is_bool v.first) vars → Choice (map (λ (v : ℕ × Var). variable_numbers policy.maxint cs v.0 v.1) (enumerate_from n vars)) s
        → are_in_range policy.maxint vars s ≡ true
    all_within [] n [] all choice = refl
    all_within [] n (x ∷ s) all choice = absurd choice
    all_within (v ∷ vars) n [] all choice = absurd choice
    all_within (v ∷ vars) n (x ∷ s) all choice = rw (point_within n v x all.0 choice.0, all_within vars (n + 1) s all.1 choice.1) refl

    pub state_in_range : (s : Values) → Has (states_of policy cs) s → in_range policy s ≡ true
    state_in_range s h = all_within policy.vars 0 s sound.vars (each_choice_has (numbers_of policy cs) s (subst (λ (states : List Values). Has states s) (states_are policy cs) h))
