-- Groups of marks that are passed over.
use Rattle.std.proofs.Common.{◌≡◌, ℕ, ◌+◌, ◌-◌, ◌*◌, ◌/◌, ◌<◌, ◌≤◌, Bool, false, ltb, List, subst, inl, inr, arith}
use Rattle.std.proofs.lemmas.Bool.{cases_Bool, ltb-true, ltb-false}
use Rattle.type_infer.specs.Grouping.{AreGrouped}
use Rattle.type_infer.specs.Solving.{is_marked}

-- a group without a mark is passed over
pub passed_over : (marks groups : List Bool) (from at : ℕ) → AreGrouped marks groups → is_marked groups (at / 64) ≡ false → ((k : ℕ) → from ≤ k → k < at → is_marked marks k ≡ false)
    → (k : ℕ) → from ≤ k → k < 64 * (at / 64) + 64 → is_marked marks k ≡ false
passed_over marks groups from at grouped none before k low high =
    elim (cases_Bool (ltb k at)) [
      | inl earlier ↦ before k low (ltb-true k at earlier)
      | inr later ↦
          let past : at ≤ k = ltb-false k at later in
          let offset : 64 * (at / 64) + (k - 64 * (at / 64)) ≡ k = omega (arith, past) in
          subst (λ (n : ℕ). is_marked marks n ≡ false) offset (grouped (at / 64) (k - 64 * (at / 64)) (omega (arith, past, high)) none)
    ]
