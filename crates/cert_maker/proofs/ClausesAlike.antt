-- The clauses of a method, as the notes and as the blocks find them.
use Rattle.std.proofs.Common.{◌≡◌, ℕ, Bool, true, false, cond, List, [], ◌∷◌, Option, Some, None, refl, sym, ap, subst, ◌∙◌}
use Rattle.std.specs.Prelude.{◌==◌, ◌&&◌, ◌||◌, find, is_some, slice_get, option_and_then}
use Rattle.std.specs.List.{AllByRecursion, list_any}
use Rattle.std.specs.Option.{option_map_or}
use Rattle.std.proofs.lemmas.Bool.{and_parts, eqb-true}
use Rattle.api_listing.specs.declared.types.ListedMethod.{ListedMethod}
use Rattle.api_listing.specs.declared.types.Listing.{Listing}
use Rattle.conspec_tree.specs.declared.types.Phase.{Phase}
use Rattle.conspec_tree.specs.declared.types.Phase.TheVariants.{Before, After, Exceptional}
use Rattle.conspec_automaton.specs.declared.policy.Clause.{Clause}
use Rattle.conspec_automaton.specs.declared.policy.Policy.{Policy}
use Rattle.conspec_automaton.specs.Next.{has_clauses}
use Rattle.guest_model.specs.Calls.{types_of}
use Rattle.block_template.specs.Blocks.{clauses_of, is_phase}
use Rattle.block_template.specs.Blocks.{clause_at as clause_in_block}
use Rattle.block_template.specs.Flow.{branches_in, clause_in}
use Rattle.block_template.specs.Flow.{branches_of as branches_told}
use Rattle.block_logic.specs.Clauses.{clause_at, clause_of, is_of_phase, result_kind}
use Rattle.block_logic.specs.Obeying.{FitsListing}
use Rattle.block_logic.specs.Weakening.{branches_of}
use Rattle.cert_maker.specs.declared.called.Called.{Called}
use Rattle.cert_maker.specs.Noting.{phase_of, site_of}

-- ---- what is found

found_alike : {X : Type 0} (p q : X → Bool) → ((x : X) → p x ≡ q x) → (xs : List X) → find p xs ≡ find q xs
found_alike p q same [] = refl
found_alike p q same (x ∷ xs) = rw (same x, found_alike p q same xs) refl

-- What is found passes the test, and has what each item has.
pub found_has : {X : Type 0} (p : X → Bool) (P : X → Type 0) (xs : List X) (x : X) → AllByRecursion P xs → find p xs ≡ Some x → P x × (p x ≡ true)
found_has p P [] x all e = absurd cc
found_has {X = X} p P (y ∷ xs) x all e = by (p y) refl e (found_has p P xs x all.1)
  where
    by : (b : Bool) → p y ≡ b → cond b (Some y) (find p xs) ≡ Some x → (find p xs ≡ Some x → P x × (p x ≡ true)) → P x × (p x ≡ true)
    by true is f later =
        let same : y ≡ x = cc in
        (subst P same all.0, ap p (sym same) ∙ is)
    by false is f later = later f

found_some : {X : Type 0} (p : X → Bool) (xs : List X) → list_any p xs ≡ true → is_some (find p xs) ≡ true
found_some p [] e = absurd cc
found_some p (x ∷ xs) e = by (p x) e (found_some p xs)
  where
    by : (b : Bool) → (b || list_any p xs) ≡ true → (list_any p xs ≡ true → is_some (find p xs) ≡ true)
        → is_some (cond b (Some x) (find p xs)) ≡ true
    by true e later = refl
    by false e later = later e

-- ---- phases

phase_alike : (p q : Phase) → is_of_phase (phase_of p) q ≡ is_phase p q
phase_alike Before Before = refl
phase_alike Before After = refl
phase_alike Before Exceptional = refl
phase_alike After Before = refl
phase_alike After After = refl
phase_alike After Exceptional = refl
phase_alike Exceptional Before = refl
phase_alike Exceptional After = refl
phase_alike Exceptional Exceptional = refl

pub clause_alike : (policy : Policy) (method : ℕ) (p : Phase) → clause_at policy method (phase_of p) ≡ clause_in_block policy method p
clause_alike policy method p =
    found_alike (λ (c : Clause). (c.method == method) && is_of_phase (phase_of p) c.phase) (λ (c : Clause). (c.method == method) && is_phase p c.phase)
    (λ c. ap (λ (b : Bool). (c.method == method) && b) (phase_alike p c.phase)) policy.clauses

clause_told : (policy : Policy) (method : ℕ) (p : Phase) → clause_in_block policy method p ≡ clause_in (clauses_of policy method) p
clause_told policy method Before = refl
clause_told policy method After = refl
clause_told policy method Exceptional = refl

module _ (policy : Policy) (call : Called) (few : (site_of call Before).method ≡ call.callee) where
  -- The clause of a site is that of its block.
  pub clause_is : (p : Phase) → clause_of policy (site_of call p) ≡ clause_in (clauses_of policy call.callee) p
  clause_is p =
      ap (λ (m : ℕ). clause_at policy m (phase_of p)) few ∙ clause_alike policy call.callee p ∙ clause_told policy call.callee p

  pub branches_are : (p : Phase) → branches_of policy (site_of call p) ≡ branches_in (clauses_of policy call.callee) p
  branches_are p = by (clause_of policy (site_of call p)) ∙ ap branches_told (clause_is p)
    where
      by : (o : Option Clause) → option_map_or (λ (c : Clause). c.branches) o [] ≡ branches_told o
      by None = refl
      by (Some c) = refl

-- ---- results

-- Each clause of a method tells alike whether it gives something.
module _ (listing : Listing) (policy : Policy) (canonical : AllByRecursion (FitsListing listing) policy.clauses) (method : ℕ) (listed : ListedMethod)
    (there : slice_get listing.methods method ≡ Some listed) where
  abbrev Tells : Clause → Type 0
  Tells c = is_some c.result ≡ is_some (types_of listed.id.desc).result

  tells : (c : Clause) → FitsListing listing c → (c.method == method) ≡ true → Tells c
  tells c fits is =
      let same : c.method ≡ method = eqb-true c.method method is in
      (fits listed (ap (slice_get listing.methods) same ∙ there)).1

  clause_tells : (p : Phase) (c : Clause) → clause_in_block policy method p ≡ Some c → Tells c
  clause_tells p c e =
      let found = found_has (λ (c : Clause). (c.method == method) && is_phase p c.phase) (FitsListing listing) policy.clauses c canonical e in
      tells c found.0 (and_parts (c.method == method) (is_phase p c.phase) found.1).0

  -- What is told of the method is what its clause for a phase tells.
  pub result_alike : (p : Phase) (c : Clause) → clause_in_block policy method p ≡ Some c → has_clauses policy method ≡ true
      → is_some (result_kind policy method) ≡ is_some c.result
  result_alike p c e has = by (find (λ (c : Clause). c.method == method) policy.clauses) refl (found_some (λ (c : Clause). c.method == method) policy.clauses has)
    where
      by : (o : Option Clause) → find (λ (c : Clause). c.method == method) policy.clauses ≡ o → is_some o ≡ true
          → is_some (option_and_then (λ (c : Clause). c.result) o) ≡ is_some c.result
      by None is some = absurd cc
      by (Some first) is some =
          let found = found_has (λ (c : Clause). c.method == method) (FitsListing listing) policy.clauses first canonical is in
          tells first found.0 found.1 ∙ sym (clause_tells p c e)
