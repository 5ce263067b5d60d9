-- What is made of the items of a list, one after the other.
use Rattle.std.proofs.Common.{◌≡◌, ℕ, zero, suc, ◌+◌, ◌<◌, List, [], ◌∷◌, ◌++◌, map, take, get_or, length, refl, ap, arith}

-- one item more of what is made of the items of a list
pub map_push : {A B : Type 0} (f : A → B) (xs : List A) (i : ℕ) (x : A) (ys : List B) (y : B) → i < length xs → x ≡ get_or xs i x → ys ≡ map f (take i xs) → y ≡ f x → ys ++ y ∷ [] ≡ map f (take (i + 1) xs)
map_push f [] i x ys y below is made one = absurd (omega (arith, below))
map_push f (a ∷ others) zero x ys y below is made one = rw (made, one, is) refl
map_push f (a ∷ others) (suc i) x ys y below is made one =
    let count : suc i + 1 ≡ suc (i + 1) = omega arith in
    rw (made, count) (ap (λ (bs : List _). f a ∷ bs) (map_push f others i x (map f (take i others)) y (omega (arith, below)) is refl one))
