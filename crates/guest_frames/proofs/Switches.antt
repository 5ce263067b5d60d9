-- The target of a number stands as far from the first as the number is from `low`.
use Rattle.std.proofs.Common.{◌≡◌, ℕ, zero, suc, ℤ, pos, ◌+ℤ◌, ◌<ℤ◌, List, [], ◌∷◌, Bool, true, false, refl, arith}
use Rattle.std.specs.Prelude.{slice_get}
use Rattle.std.specs.Option.{option_map_or}
use Rattle.std.specs.Ordering.{int_eq}
use Rattle.std.proofs.lemmas.Bool.Decides.{Decides-int_eq}
use Rattle.std.proofs.lemmas.Int.{ints}
use Rattle.insn_codec.specs.Control.{in_range}

apart : (x y : ℤ) → (x ≡ y → ⊥) → int_eq x y ≡ false
apart x y other = by (int_eq x y) refl where
  by : (b : Bool) → int_eq x y ≡ b → int_eq x y ≡ false
  by false e = e
  by true e = absurd (other ((Decides-int_eq x y).0 e))

-- the other, of a number below `low`
pub below : (other : ℕ) (low : ℤ) (targets : List ℕ) (n : ℤ) → n <ℤ low → in_range other low targets n ≡ other
below other low [] n lt = refl
below other low (to ∷ targets) n lt = rw (apart low n (λ same. omega (arith, ints))) (below other (low +ℤ pos 1) targets n (omega (arith, ints)))

-- the target in the place of a number that is not
pub from_low : (other : ℕ) (low : ℤ) (targets : List ℕ) (n : ℤ) (place : ℕ) → low +ℤ pos place ≡ n
    → in_range other low targets n ≡ option_map_or (λ (to : ℕ). to) (slice_get targets place) other
from_low other low [] n place e = refl
from_low other low (to ∷ targets) n zero e = rw ((Decides-int_eq low n).1 (omega (arith, ints))) refl
from_low other low (to ∷ targets) n (suc place) e =
    rw (apart low n (λ same. omega (arith, ints))) (from_low other (low +ℤ pos 1) targets n place (omega (arith, ints)))
