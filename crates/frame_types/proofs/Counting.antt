-- Operands of which anything is wanted, and lists that are made alike.
use Rattle.std.proofs.Common.{◌≡◌, ℕ, zero, suc, Bool, true, false, cond, List, [], ◌∷◌, length, map, replicate, refl, ap, arith}
use Rattle.std.specs.Bool.{Decides}
use Rattle.cert_format.specs.declared.typing.VType.{VType}
use Rattle.bytecode_model.specs.Wants.{all_met, anything}

pub map_same : {A B : Type 0} (f g : A → B) → ((x : A) → f x ≡ g x) → (xs : List A) → map f xs ≡ map g xs
map_same f g same [] = refl
map_same f g same (x ∷ xs) = rw (same x, map_same f g same xs) refl

-- Where anything is wanted only the number counts.
pub any_decides : (n : ℕ) (types : List VType) → Decides (all_met (replicate n anything) types) (length types ≡ n)
any_decides zero [] = (λ e. refl, λ e. refl)
any_decides zero (t ∷ types) = (λ e. absurd cc, λ e. absurd (omega arith))
any_decides (suc n) [] = (λ e. absurd cc, λ e. absurd (omega arith))
any_decides (suc n) (t ∷ types) =
    let h = any_decides n types in
    (λ e. ap suc (h.0 e), λ e. h.1 (omega (arith, e)))
