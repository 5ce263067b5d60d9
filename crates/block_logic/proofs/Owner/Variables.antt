-- The policy's variables, before any update is made, and once those of a branch are.
use Rattle.std.proofs.Common.{◌≡◌, ◌≢◌, ℕ, zero, suc, ◌<◌, ◌+◌, ℤ, ◌+ℤ◌, Bool, true, false, List, [], ◌∷◌, length, map, Option, Some, None, refl, sym, ap, ◌∙◌, subst, arith, length-set, eqb-true}
use Rattle.std.specs.Prelude.{◌==◌, AllPairs, option_map, slice_get, slice_index_or, slice_set}
use Rattle.std.specs.List.{AllByRecursion}
use Rattle.std.specs.Option.{option_map_or}
use Rattle.std.proofs.lemmas.Bool.{eqb-false, ne_eqb}
use Rattle.std.proofs.lemmas.Option.{slice_get_within}
use Rattle.api_listing.specs.declared.events.Event.{Event}
use Rattle.bytecode_model.specs.declared.program.Program.{Program}
use Rattle.cert_format.specs.declared.note.Site.{Site}
use Rattle.conspec_tree.specs.declared.types.Update.{Update}
use Rattle.conspec_tree.specs.declared.types.Update.TheVariants.{Set, Add}
use Rattle.conspec_tree.specs.Tree.{IsUpdateIn, asked}
use Rattle.conspec_tree.specs.Updates.{target}
use Rattle.conspec_automaton.specs.declared.policy.Branch.{Branch}
use Rattle.conspec_automaton.specs.declared.policy.Clause.{Clause}
use Rattle.conspec_automaton.specs.declared.policy.Policy.{Policy}
use Rattle.conspec_automaton.specs.Next.{Values, moment, updated, updated_once}
use Rattle.conspec_automaton.specs.Range.{in_range}
use Rattle.conspec_automaton.specs.Sound.{IsBranchIn, IsClauseIn, IsPolicy}
use Rattle.conspec_automaton.proofs.Ranges.{found_is, same_length}
use Rattle.guest_heap.specs.declared.value.Value.{Value}
use Rattle.guest_heap.specs.declared.value.Value.TheVariants as values
use Rattle.guest_model.proofs.Options.{all_get}
use Rattle.block_logic.specs.Clauses.{clause_of}
use Rattle.block_logic.specs.Meaning.{AreState, AreTerms, term_value}
use Rattle.block_logic.specs.Terms.{after_updates, as_taken, variable_after, variables_after, written}

-- ---- lists that are written

pub set_there : {X : Type 0} (xs : List X) (i : ℕ) (x : X) → i < length xs → slice_get (slice_set xs i x) i ≡ Some x
set_there [] i x inside = absurd (omega arith)
set_there (y ∷ xs) zero x inside = refl
set_there (y ∷ xs) (suc i) x inside = set_there xs i x (omega arith)

pub set_elsewhere : {X : Type 0} (xs : List X) (i j : ℕ) (x : X) → j ≢ i → slice_get (slice_set xs j x) i ≡ slice_get xs i
set_elsewhere [] i j x other = refl
set_elsewhere (y ∷ xs) zero zero x other = absurd (other refl)
set_elsewhere (y ∷ xs) zero (suc j) x other = refl
set_elsewhere (y ∷ xs) (suc i) zero x other = refl
set_elsewhere (y ∷ xs) (suc i) (suc j) x other = set_elsewhere xs i j x (λ e. other (ap suc e))

-- ---- one update

once_length : (e : Event) (state : Values) (u : Update) → length (updated_once (moment state e) u) ≡ length state
once_length e state (Set var value) = length-set state var value
once_length e state (Add var by) = each (slice_get state var) where
  each : (o : Option ℤ) → length (option_map_or (λ n. slice_set state var (n +ℤ by)) o state) ≡ length state
  each None = refl
  each (Some n) = length-set state var (n +ℤ by)

-- a variable that it is not of
other_kept : (e : Event) (state : Values) (u : Update) (i : ℕ) → target u ≢ i → slice_get (updated_once (moment state e) u) i ≡ slice_get state i
other_kept e state (Set var value) i other = set_elsewhere state i var value other
other_kept e state (Add var by) i other = each (slice_get state var) where
  each : (o : Option ℤ) → slice_get (option_map_or (λ n. slice_set state var (n +ℤ by)) o state) i ≡ slice_get state i
  each None = refl
  each (Some n) = set_elsewhere state i var (n +ℤ by) other

-- ---- updates, each of another variable

abbrev AreApart : List Update → Type 0
AreApart [] = Unit {0}
AreApart (u ∷ us) = AllByRecursion (λ w. target u ≢ target w) us × AreApart us

abbrev AreInside : ℕ → List Update → Type 0
AreInside count us = AllByRecursion (λ u. target u < count) us

later_apart : (u : Update) (us : List Update) → ((j : ℕ) (d : Update) → j < length us → target u ≢ target (slice_index_or us j d)) → AllByRecursion (λ w. target u ≢ target w) us
later_apart u [] each = tt
later_apart u (w ∷ us) each = (each 0 w (omega arith), later_apart u us (λ j d less. each (suc j) d (omega arith)))

apart_from : (us : List Update) → AllPairs (λ u w. target u ≢ target w) us → AreApart us
apart_from [] pairs = tt
apart_from (u ∷ us) pairs =
    (later_apart u us (λ j d less. pairs 0 (suc j) d (omega arith) (omega arith)), apart_from us (λ i j d less inside. pairs (suc i) (suc j) d (omega arith) (omega arith)))

module _ (program : Program) (e : Event) where
  abbrev worth : Values → ℕ → List Update → Option Value
  worth state i us = term_value program state e (variable_after us i)

  -- what an update writes
  this_one : (state : Values) (u : Update) → target u < length state
      → term_value program state e (written u) ≡ option_map values.Int (slice_get (updated_once (moment state e) u) (target u))
  this_one state (Set var value) inside = rw (set_there state var value inside) refl
  this_one state (Add var by) inside = each (slice_get state var) refl where
    each : (o : Option ℤ) → slice_get state var ≡ o
        → option_map (λ m. values.Int (m +ℤ by)) o ≡ option_map values.Int (slice_get (option_map_or (λ n. slice_set state var (n +ℤ by)) o state) var)
    each None is = rw is refl
    each (Some n) is = rw (set_there state var (n +ℤ by) inside) refl

  -- what later updates write, after one that is of another variable
  later_kept : (state : Values) (u : Update) (i : ℕ) (us : List Update) → target u ≢ i → worth (updated_once (moment state e) u) i us ≡ worth state i us
  later_kept state u i [] other = ap (option_map values.Int) (other_kept e state u i other)
  later_kept state u i (w ∷ us) other = by (target w == i) refl (later_kept state u i us other) where
    reads : (w : Update) → target w ≡ i → term_value program (updated_once (moment state e) u) e (written w) ≡ term_value program state e (written w)
    reads (Set var value) is = refl
    reads (Add var by) is =
        let same : slice_get (updated_once (moment state e) u) var ≡ slice_get state var = other_kept e state u var (λ t. other (t ∙ is)) in
        ap (option_map (λ m. values.Int (m +ℤ by))) same

    by : (b : Bool) → (target w == i) ≡ b → worth (updated_once (moment state e) u) i us ≡ worth state i us → worth (updated_once (moment state e) u) i (w ∷ us) ≡ worth state i (w ∷ us)
    by true is later = rw is (reads w (eqb-true (target w) i is))
    by false is later = rw is later

  -- of a variable that none of them is of
  none_is : (i : ℕ) (us : List Update) → AllByRecursion (λ w. i ≢ target w) us → variable_after us i ≡ variable_after [] i
  none_is i [] apart = refl
  none_is i (w ∷ us) apart =
      let not_this : (target w == i) ≡ false = ne_eqb (target w) i (λ t. apart.0 (sym t)) in
      rw not_this (none_is i us apart.1)

  -- A variable once the updates are made.
  variable_is : (us : List Update) (state : Values) (i : ℕ) → AreApart us → AreInside (length state) us
      → worth state i us ≡ option_map values.Int (slice_get (updated (moment state e) us) i)
  variable_is [] state i apart inside = refl
  variable_is (u ∷ us) state i apart inside =
      let within : AreInside (length (updated_once (moment state e) u)) us = subst (λ (n : ℕ). AreInside n us) (sym (once_length e state u)) inside.1 in
      by (target u == i) refl (variable_is us (updated_once (moment state e) u) i apart.1 within) where
        by : (b : Bool) → (target u == i) ≡ b → worth (updated_once (moment state e) u) i us ≡ option_map values.Int (slice_get (updated (moment (updated_once (moment state e) u) e) us) i)
            → worth state i (u ∷ us) ≡ option_map values.Int (slice_get (updated (moment (updated_once (moment state e) u) e) us) i)
        by true is later =
            let same : target u ≡ i = eqb-true (target u) i is in
            let none : variable_after us i ≡ variable_after [] i = none_is i us (subst (λ (n : ℕ). AllByRecursion (λ w. n ≢ target w) us) same apart.0) in
            let here : term_value program state e (written u) ≡ option_map values.Int (slice_get (updated_once (moment state e) u) i) =
            this_one state u inside.0 ∙ ap (λ (n : ℕ). option_map values.Int (slice_get (updated_once (moment state e) u) n)) same in
            rw is (here ∙ sym (ap (term_value program (updated_once (moment state e) u) e) none) ∙ later)
        by false is later = rw is (sym (later_kept state u i us (eqb-false (target u) i is)) ∙ later)

  -- all variables from one on
  variables_are : (us : List Update) (state : Values) (held : Values) (var n : ℕ) → length held ≡ n
      → ((i : ℕ) → worth state (var + i) us ≡ option_map values.Int (slice_get held i)) → AreTerms program state e (variables_after us var n) (map values.Int held)
  variables_are us state [] var zero many each = refl
  variables_are us state [] var (suc n) many each = absurd (omega arith)
  variables_are us state (v ∷ held) var zero many each = absurd (omega arith)
  variables_are us state (v ∷ held) var (suc n) many each =
      let here : var + 0 ≡ var = omega arith in
      let first : worth state var us ≡ Some (values.Int v) = subst (λ (k : ℕ). worth state k us ≡ Some (values.Int v)) here (each 0) in
      let next : (i : ℕ) → worth state (var + 1 + i) us ≡ option_map values.Int (slice_get held i) =
      λ i. let place : var + suc i ≡ var + 1 + i = omega arith in subst (λ (k : ℕ). worth state k us ≡ option_map values.Int (slice_get held i)) place (each (suc i)) in
      rw (first, variables_are us state held (var + 1) n (omega arith) next) refl

updated_length : (e : Event) (us : List Update) (state : Values) → length (updated (moment state e) us) ≡ length state
updated_length e [] state = refl
updated_length e (u ∷ us) state = updated_length e us (updated_once (moment state e) u) ∙ once_length e state u

pub map_some_is : {X : Type 0} (xs ys : List X) → map Some xs ≡ map Some ys → xs ≡ ys
map_some_is [] [] e = refl
map_some_is [] (y ∷ ys) e = absurd cc
map_some_is (x ∷ xs) [] e = absurd cc
map_some_is (x ∷ xs) (y ∷ ys) e =
    let first : x ≡ y = cc in
    let later : map Some xs ≡ map Some ys = cc in
    rw (first, map_some_is xs ys later) refl

-- ---- a policy's

module _ (program : Program) (policy : Policy) (good : IsPolicy policy) (e : Event) (state : Values) (ranged : in_range policy state ≡ true) where
  as_many : length state ≡ length policy.vars
  as_many = same_length policy.maxint policy.vars state ranged

  -- before any update
  pub as_taken_are : (fields : List Value) → AreState fields state → AreTerms program state e (as_taken policy) fields
  as_taken_are fields are =
      let named : (i : ℕ) → worth program e state (0 + i) [] ≡ option_map values.Int (slice_get state i) =
      λ i. let place : 0 + i ≡ i = omega arith in ap (λ (k : ℕ). worth program e state k []) place in
      subst (λ (held : List Value). AreTerms program state e (as_taken policy) held) (sym are)
      (variables_are program e [] state state 0 (length policy.vars) as_many named)

  module _ (clause : Clause) (branch : Branch) (well : IsBranchIn policy.vars policy.maxint (asked clause.phase clause.args clause.result) branch) where
    all_inside : (us : List Update) → AllByRecursion (IsUpdateIn policy.vars policy.maxint) us → AreInside (length state) us
    all_inside [] all = tt
    all_inside (u ∷ us) all =
        let within = slice_get_within policy.vars (target u) all.0.variable all.0.there in
        (omega (arith, within, as_many), all_inside us all.1)

    -- once those of a branch are made
    pub done_are : (fields : List Value) → AreTerms program state e (after_updates policy branch.updates) fields → AreState fields (updated (moment state e) branch.updates)
    done_are fields are =
        let us = branch.updates in
        let each : (i : ℕ) → worth program e state (0 + i) us ≡ option_map values.Int (slice_get (updated (moment state e) us) i) =
        λ i. let place : 0 + i ≡ i = omega arith in
        ap (λ (k : ℕ). worth program e state k us) place ∙ variable_is program e us state i (apart_from us well.once) (all_inside us well.updates) in
        let all = variables_are program e us state (updated (moment state e) us) 0 (length policy.vars) (updated_length e us state ∙ as_many) each in
        map_some_is fields (map values.Int (updated (moment state e) us)) (sym are ∙ all)

-- a branch of the clause of a site
pub branch_well : (policy : Policy) (good : IsPolicy policy) (site : Site) (clause : Clause) (i : ℕ) (branch : Branch) → clause_of policy site ≡ Some clause
    → slice_get clause.branches i ≡ Some branch
    → IsBranchIn policy.vars policy.maxint (asked clause.phase clause.args clause.result) branch
branch_well policy good site clause i branch there is =
    let found = found_is (IsClauseIn policy.vars policy.maxint) _ policy.clauses clause good.clauses there in
    all_get _ clause.branches i branch found.so.branches is
