-- What the variables are once the updates of a branch are made, one more or not.
use Rattle.std.proofs.Common.{◌≡◌, ◌≢◌, ℕ, zero, suc, ◌+◌, ◌<◌, Bool, false, cond, List, [], ◌∷◌, take, Option, Some, None, refl, sym, ap, ◌∙◌, arith}
use Rattle.std.specs.Prelude.{◌==◌, AllPairs, find, slice_get, slice_set}
use Rattle.std.specs.Option.{option_map_or}
use Rattle.std.proofs.lemmas.Bool.{eq-eqb, ne_eqb}
use Rattle.std.proofs.lemmas.Option.{slice_get_within, get_or_from_slice_get}
use Rattle.cert_format.specs.declared.note.Term.{Term}
use Rattle.cert_format.specs.declared.note.Term.TheVariants as terms
use Rattle.conspec_tree.specs.declared.types.Update.{Update}
use Rattle.conspec_tree.specs.Updates.{target}
use Rattle.block_logic.specs.Terms.{variable_after, variables_after, written}

-- Each update is of another variable.
abbrev pub Differ : List Update → Type 0
Differ updates = AllPairs (λ u w. target u ≢ target w) updates

abbrev is_of : ℕ → Update → Bool
is_of var u = target u == var

later_differ : (x : Update) (updates : List Update) → Differ (x ∷ updates) → Differ updates
later_differ x updates once i j d lt less = once (suc i) (suc j) d (omega (arith, lt)) (omega (arith, less))

first_differs : (x : Update) (updates : List Update) (n : ℕ) (u : Update) → Differ (x ∷ updates) → slice_get updates n ≡ Some u → target x ≢ target u
first_differs x updates n u once there same =
    once 0 (suc n) u (omega arith) (omega (arith, slice_get_within updates n u there))
    (same ∙ ap target (sym (get_or_from_slice_get updates n u u there)))

-- ---- what is found among the first updates

-- One more update is of its variable alone,
found_other : (updates : List Update) (n var : ℕ) (u : Update) → slice_get updates n ≡ Some u → target u ≢ var
    → find (is_of var) (take (suc n) updates) ≡ find (is_of var) (take n updates)
found_other [] n var u there other = absurd cc
found_other (x ∷ updates) zero var u there other =
    let same : x ≡ u = cc in
    let no : (target x == var) ≡ false = ne_eqb (target x) var (λ e. other (ap target (sym same) ∙ e)) in
    rw no refl
found_other (x ∷ updates) (suc n) var u there other =
    ap (λ (o : Option Update). cond (is_of var x) (Some x) o) (found_other updates n var u there other)

-- which no earlier one is of,
found_none : (updates : List Update) (n : ℕ) (u : Update) → slice_get updates n ≡ Some u → Differ updates
    → find (is_of (target u)) (take n updates) ≡ None
found_none [] n u there once = absurd cc
found_none (x ∷ updates) zero u there once = refl
found_none (x ∷ updates) (suc n) u there once =
    let no : (target x == target u) ≡ false = ne_eqb (target x) (target u) (first_differs x updates n u once there) in
    rw no (found_none updates n u there (later_differ x updates once))

-- and it is found.
found_this : (updates : List Update) (n : ℕ) (u : Update) → slice_get updates n ≡ Some u → Differ updates
    → find (is_of (target u)) (take (suc n) updates) ≡ Some u
found_this [] n u there once = absurd cc
found_this (x ∷ updates) zero u there once =
    let same : x ≡ u = cc in
    rw (same, eq-eqb (target u) (target u) refl) refl
found_this (x ∷ updates) (suc n) u there once =
    let no : (target x == target u) ≡ false = ne_eqb (target x) (target u) (first_differs x updates n u once there) in
    rw no (found_this updates n u there (later_differ x updates once))

-- ---- the variables

-- what stands at a variable
pub variable_there : (updates : List Update) (first count var : ℕ) → var < count
    → slice_get (variables_after updates first count) var ≡ Some (variable_after updates (first + var))
variable_there updates first zero var lt = absurd (omega arith)
variable_there updates first (suc count) zero lt =
    let at : first + 0 ≡ first = omega arith in
    rw at refl
variable_there updates first (suc count) (suc var) lt =
    let at : first + suc var ≡ (first + 1) + var = omega arith in
    rw at (variable_there updates (first + 1) count var (omega arith))

-- Where two lists of updates differ at no variable, they give the same.
all_alike : (some more : List Update) (first count : ℕ) → ((var : ℕ) → first < suc var → variable_after some var ≡ variable_after more var)
    → variables_after some first count ≡ variables_after more first count
all_alike some more first zero alike = refl
all_alike some more first (suc count) alike =
    rw (alike first (omega arith), all_alike some more (first + 1) count (λ var lt. alike var (omega (arith, lt)))) refl

-- Where they differ at one variable, that is set.
set_there : (some more : List Update) (first count var : ℕ) (term : Term) → variable_after more (first + var) ≡ term
    → ((other : ℕ) → other ≢ first + var → variable_after some other ≡ variable_after more other)
    → slice_set (variables_after some first count) var term ≡ variables_after more first count
set_there some more first zero var term here alike = refl
set_there some more first (suc count) zero term here alike =
    let at : first + 0 ≡ first = omega arith in
    let is : variable_after more first ≡ term = ap (variable_after more) (sym at) ∙ here in
    rw (is, all_alike some more (first + 1) count (λ other lt. alike other (λ e. absurd (omega (arith, e, lt))))) refl
set_there some more first (suc count) (suc var) term here alike =
    let at : first + suc var ≡ (first + 1) + var = omega arith in
    rw (
      alike first (λ e. absurd (omega (arith, e))),
      set_there some more (first + 1) count var term (ap (variable_after more) (sym at) ∙ here)
          (λ other differs. alike other (λ e. differs (e ∙ at))),
    ) refl

module _ (updates : List Update) (n : ℕ) (u : Update) (there : slice_get updates n ≡ Some u) (once : Differ updates) where
  -- What an update is of was not changed yet.
  pub unchanged : variable_after (take n updates) (target u) ≡ terms.Var (target u)
  unchanged = ap (λ (o : Option Update). option_map_or written o (terms.Var (target u))) (found_none updates n u there once)

  -- It sets its variable.
  pub update_made : (count : ℕ)
      → slice_set (variables_after (take n updates) 0 count) (target u) (written u) ≡ variables_after (take (suc n) updates) 0 count
  update_made count =
      let at : 0 + target u ≡ target u = omega arith in
      set_there (take n updates) (take (suc n) updates) 0 count (target u) (written u)
      (ap (variable_after (take (suc n) updates)) at
      ∙ ap (λ (o : Option Update). option_map_or written o (terms.Var (target u))) (found_this updates n u there once))
      (λ other differs. ap (λ (o : Option Update). option_map_or written o (terms.Var other))
      (sym (found_other updates n other u there (λ e. differs (sym e ∙ sym at)))))
