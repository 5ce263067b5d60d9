-- Lists of terms, place by place.
use Rattle.std.proofs.Common.{◌≡◌, ℕ, zero, suc, ◌+◌, ◌<◌, ◌≤◌, Bool, true, false, List, [], ◌∷◌, length, drop, Some, None, refl, ap, subst, arith, add-one}
use Rattle.std.specs.Prelude.{◌&&◌, slice_get}
use Rattle.cert_format.specs.declared.note.Term.{Term}
use Rattle.conspec_tree.specs.declared.types.Update.{Update}
use Rattle.block_logic.specs.Terms.{same_at, same_term, same_terms, variable_after, variables_after}

-- lists of different lengths are not one
pub other_length : (ts us : List Term) → (length ts ≡ length us → ⊥) → same_terms ts us ≡ false
other_length [] [] differ = absurd (differ refl)
other_length [] (u ∷ us) differ = refl
other_length (t ∷ ts) [] differ = refl
other_length (t ∷ ts) (u ∷ us) differ = by (same_term t u) (other_length ts us (λ e. differ (ap suc e))) where
  by : (b : Bool) {c : Bool} → c ≡ false → (b && c) ≡ false
  by true e = e
  by false e = refl

-- one place, and those after it
from_place : (ts us : List Term) (at : ℕ) → at < length ts → length ts ≡ length us
    → same_terms (drop at ts) (drop at us) ≡ (same_at ts us at && same_terms (drop (suc at) ts) (drop (suc at) us))
from_place [] us at within same = absurd (omega (arith, within))
from_place (t ∷ ts) [] at within same = absurd (omega (arith, same))
from_place (t ∷ ts) (u ∷ us) zero within same = refl
from_place (t ∷ ts) (u ∷ us) (suc at) within same = from_place ts us at (omega (arith, within)) (omega (arith, same))

-- the same where the place differs, and where it does not
pub differs_at : (ts us : List Term) (at : ℕ) → at < length ts → length ts ≡ length us → same_at ts us at ≡ false → same_terms (drop at ts) (drop at us) ≡ false
differs_at ts us at within same differs = rw (from_place ts us at within same, differs) refl

pub goes_on_at : (ts us : List Term) (at : ℕ) → at < length ts → length ts ≡ length us → same_at ts us at ≡ true
    → same_terms (drop at ts) (drop at us) ≡ same_terms (drop (at + 1) ts) (drop (at + 1) us)
goes_on_at ts us at within same holds = rw (add-one, from_place ts us at within same, holds) refl

-- after the last place nothing differs
pub at_end : (ts us : List Term) (at : ℕ) → length ts ≤ at → length ts ≡ length us → same_terms (drop at ts) (drop at us) ≡ true
at_end [] [] zero past same = refl
at_end [] [] (suc at) past same = refl
at_end [] (u ∷ us) at past same = absurd (omega (arith, same))
at_end (t ∷ ts) [] at past same = absurd (omega (arith, same))
at_end (t ∷ ts) (u ∷ us) zero past same = absurd (omega (arith, past))
at_end (t ∷ ts) (u ∷ us) (suc at) past same = at_end ts us at (omega (arith, past)) (omega (arith, same))

-- ---- the variables once updates are made

pub as_many : (updates : List Update) (var n : ℕ) → length (variables_after updates var n) ≡ n
as_many updates var zero = refl
as_many updates var (suc n) = ap suc (as_many updates (var + 1) n)

after_in : (updates : List Update) (var n at : ℕ) → at < n → slice_get (variables_after updates var n) at ≡ Some (variable_after updates (var + at))
after_in updates var zero at within = absurd (omega (arith, within))
after_in updates var (suc n) zero within = let same : var + 0 ≡ var = omega arith in rw same refl
after_in updates var (suc n) (suc at) within =
    let same : (var + 1) + at ≡ var + suc at = omega arith in
    subst (λ (v : ℕ). slice_get (variables_after updates (var + 1) n) at ≡ Some (variable_after updates v)) same (after_in updates (var + 1) n at (omega (arith, within)))

pub after_first : (updates : List Update) (n at : ℕ) → at < n → slice_get (variables_after updates 0 n) at ≡ Some (variable_after updates at)
after_first updates n at within =
    let same : 0 + at ≡ at = omega arith in
    subst (λ (v : ℕ). slice_get (variables_after updates 0 n) at ≡ Some (variable_after updates v)) same (after_in updates 0 n at within)

pub after_past : (updates : List Update) (var n at : ℕ) → n ≤ at → slice_get (variables_after updates var n) at ≡ None
after_past updates var zero at past = refl
after_past updates var (suc n) zero past = absurd (omega (arith, past))
after_past updates var (suc n) (suc at) past = after_past updates (var + 1) n at (omega (arith, past))
