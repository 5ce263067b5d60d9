-- From a class upwards, one class after the other.
use Rattle.std.proofs.Common.{◌≡◌, ℕ, suc, ◌+◌, ◌-◌, ◌<◌, List, [], ◌∷◌, ◌++◌, Some, refl, sym, ap, ◌∙◌, append_assoc, arith}
use Rattle.api_listing.specs.declared.types.ListedClass.{ListedClass}
use Rattle.api_listing.specs.Nearest.{class_named, upwards}

pub upwards_some : (n i : ℕ) (classes : List ListedClass) (name : List ℕ) (c : ListedClass) → i < n → class_named classes name ≡ Some c → upwards (n - i) classes name ≡ c ∷ upwards (n - (i + 1)) classes c.parent
upwards_some n i classes name c lt some =
    let k : n - i ≡ suc (n - (i + 1)) = omega arith in
    rw (k, some) refl

-- one item more before the others
pub pushed : {X : Type 0} (xs new ys all total : List X) (y : X) → new ≡ xs ++ y ∷ [] → all ≡ y ∷ ys → xs ++ all ≡ total → new ++ ys ≡ total
pushed xs new ys all total y is split so_far = ap (λ l. l ++ ys) is ∙ append_assoc xs (y ∷ []) ys ∙ ap (λ l. xs ++ l) (sym split) ∙ so_far

-- some items more
pub appended : {X : Type 0} (xs new zs ys all total : List X) → new ≡ xs ++ zs → all ≡ zs ++ ys → xs ++ all ≡ total → new ++ ys ≡ total
appended xs new zs ys all total is split so_far = ap (λ l. l ++ ys) is ∙ append_assoc xs zs ys ∙ ap (λ l. xs ++ l) (sym split) ∙ so_far
