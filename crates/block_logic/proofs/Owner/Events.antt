-- The events that a policy has clauses for: which clause is for the events of a site, and where an event leads.
use Rattle.std.proofs.Common.{◌≡◌, ℕ, zero, suc, ◌<◌, Bool, true, false, List, [], ◌∷◌, length, Some, refl, ap, subst, ◌∙◌, arith}
use Rattle.std.specs.Prelude.{◌==◌, ◌&&◌, find, is_some, option_map, slice_get}
use Rattle.std.specs.List.{list_all}
use Rattle.api_listing.specs.declared.events.Event.{Event}
use Rattle.api_listing.specs.declared.events.Event.TheVariants as events
use Rattle.cert_format.specs.declared.note.Phase8.{Phase8}
use Rattle.cert_format.specs.declared.note.Phase8.TheVariants as sites
use Rattle.cert_format.specs.declared.note.Site.{Site}
use Rattle.conspec_tree.specs.declared.types.Phase.{Phase}
use Rattle.conspec_tree.specs.declared.types.Phase.TheVariants.{Before, After, Exceptional}
use Rattle.conspec_automaton.specs.declared.policy.Branch.{Branch}
use Rattle.conspec_automaton.specs.declared.policy.Clause.{Clause}
use Rattle.conspec_automaton.specs.declared.policy.Policy.{Policy}
use Rattle.conspec_automaton.specs.Next.{Values, clause_of as clause_for, has_clause, holds, is_phase_of, is_taken, method_of, moment, next, next_by, speaks_of, updated}
use Rattle.conspec_automaton.specs.Obeys.{is_return}
use Rattle.conspec_automaton.specs.Range.{in_range}
use Rattle.conspec_automaton.specs.Sight.{sight_of}
use Rattle.conspec_automaton.specs.Sound.{IsPolicy}
use Rattle.conspec_automaton.proofs.Ranges.{next_keeps}
use Rattle.block_logic.specs.Clauses.{clause_of, is_of_phase}
use Rattle.block_logic.specs.Meaning.{IsEventOf, IsTried}
use Rattle.block_logic.specs.Weakening.{is_before}

-- ---- the clause of an event

found_same : {X : Type 0} (p q : X → Bool) (xs : List X) → ((x : X) → p x ≡ q x) → find p xs ≡ find q xs
found_same p q [] each = refl
found_same p q (x ∷ xs) each = rw (each x, found_same p q xs each) refl

method_seen : (e : Event) → method_of e ≡ (sight_of e).method
method_seen (events.Call thread method arguments) = refl
method_seen (events.Return thread method value) = refl
method_seen (events.Except thread method) = refl

phases_same : (e : Event) (phase : Phase8) (p : Phase) → is_of_phase phase (sight_of e).phase ≡ true → is_phase_of e p ≡ is_of_phase phase p
phases_same (events.Call thread method arguments) sites.Before Before h = refl
phases_same (events.Call thread method arguments) sites.Before After h = refl
phases_same (events.Call thread method arguments) sites.Before Exceptional h = refl
phases_same (events.Return thread method value) sites.After Before h = refl
phases_same (events.Return thread method value) sites.After After h = refl
phases_same (events.Return thread method value) sites.After Exceptional h = refl
phases_same (events.Except thread method) sites.Exceptional Before h = refl
phases_same (events.Except thread method) sites.Exceptional After h = refl
phases_same (events.Except thread method) sites.Exceptional Exceptional h = refl
phases_same e phase p h = absurd cc

-- The clause for an event of a site is the site's.
pub clause_found : (policy : Policy) (site : Site) (e : Event) → IsEventOf site e → clause_for policy e ≡ clause_of policy site
clause_found policy site e of = found_same (speaks_of e) _ policy.clauses same where
  same : (c : Clause) → speaks_of e c ≡ ((c.method == site.method) && is_of_phase site.phase c.phase)
  same c =
      let methods : method_of e ≡ site.method = method_seen e ∙ of.method in
      let phases : is_phase_of e c.phase ≡ is_of_phase site.phase c.phase = phases_same e site.phase c.phase of.phase in
      rw (methods, phases) refl

pub has_its_clause : (policy : Policy) (site : Site) (e : Event) → IsEventOf site e → has_clause policy e ≡ is_some (clause_of policy site)
has_its_clause policy site e of = ap is_some (clause_found policy site e of)

-- An event of a site before a call is a call, and one after it a return.
pub is_call : (site : Site) (e : Event) → IsEventOf site e → site.phase ≡ sites.Before → is_return e ≡ false
is_call site e of before = by e (subst (λ (p : Phase8). is_of_phase p (sight_of e).phase ≡ true) before of.phase) where
  by : (e : Event) → is_of_phase sites.Before (sight_of e).phase ≡ true → is_return e ≡ false
  by (events.Call thread method arguments) h = refl
  by (events.Return thread method value) h = absurd cc
  by (events.Except thread method) h = absurd cc

pub is_end : (site : Site) (e : Event) → IsEventOf site e → is_before site.phase ≡ false → is_return e ≡ true
is_end site e of following = by e site.phase of.phase following where
  by : (e : Event) (phase : Phase8) → is_of_phase phase (sight_of e).phase ≡ true → is_before phase ≡ false → is_return e ≡ true
  by (events.Call thread method arguments) sites.Before h n = absurd cc
  by (events.Call thread method arguments) sites.After h n = absurd cc
  by (events.Call thread method arguments) sites.Exceptional h n = absurd cc
  by (events.Return thread method value) phase h n = refl
  by (events.Except thread method) phase h n = refl

-- It is of the site's method.
pub is_of_site : (site : Site) (e : Event) → IsEventOf site e → method_of e ≡ site.method
is_of_site site e of = method_seen e ∙ of.method

-- ---- the branch that is taken

all_pass : {X : Type 0} (p : X → Bool) (xs : List X) → ((j : ℕ) (x : X) → j < length xs → slice_get xs j ≡ Some x → p x ≡ true) → list_all p xs ≡ true
all_pass p [] each = refl
all_pass p (x ∷ xs) each =
    rw (each 0 x (omega arith) refl, all_pass p xs (λ j y less there. each (suc j) y (omega arith) there)) refl

-- the first that passes
first_found : {X : Type 0} (p : X → Bool) (xs : List X) (i : ℕ) (x : X) → slice_get xs i ≡ Some x
    → ((j : ℕ) (y : X) → j < i → slice_get xs j ≡ Some y → p y ≡ false) → p x ≡ true → find p xs ≡ Some x
first_found p [] i x there fail passes = absurd cc
first_found p (y ∷ xs) zero x there fail passes = let same : y ≡ x = cc in rw same (rw passes refl)
first_found p (y ∷ xs) (suc i) x there fail passes =
    rw (fail 0 y (omega arith) refl) (first_found p xs i x there (λ j z less is. fail (suc j) z (omega arith) is) passes)

module _ (policy : Policy) (site : Site) (clause : Clause) (there : clause_of policy site ≡ Some clause) (e : Event) (of : IsEventOf site e) (state : Values) where
  by_clause : next policy state e ≡ next_by clause (moment state e)
  by_clause = let found : clause_for policy e ≡ Some clause = clause_found policy site e of ∙ there in rw found refl

  -- The first branches fail, and all atoms of this one hold: it is taken.
  pub taken_by : (failed : ℕ) (branch : Branch) → slice_get clause.branches failed ≡ Some branch → IsTried state e clause.branches failed (length branch.atoms)
      → next policy state e ≡ Some (updated (moment state e) branch.updates)
  taken_by failed branch is tried =
      let passes : is_taken (moment state e) branch ≡ true = all_pass (holds (moment state e)) branch.atoms (tried.hold branch is).1 in
      let found : find (is_taken (moment state e)) clause.branches ≡ Some branch = first_found (is_taken (moment state e)) clause.branches failed branch is tried.fail passes in
      by_clause ∙ ap (option_map (λ (b : Branch). updated (moment state e) b.updates)) found

-- An accepted event leads to a state in range.
pub stays_ranged : (policy : Policy) (state end : Values) (e : Event) → IsPolicy policy → in_range policy state ≡ true → next policy state e ≡ Some end
    → in_range policy end ≡ true
stays_ranged policy state end e good ranged taken = next_keeps policy good state end e ranged taken
