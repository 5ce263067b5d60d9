-- Lists that are gone over from the front.
use Rattle.std.proofs.Common.{◌≡◌, ◌-◌, ◌<◌, ◌≤◌, List, [], ◌∷◌, ◌++◌, length, get_or, take, drop, refl, sym, ap, subst, arith}
use Rattle.std.proofs.lemmas.List.{take_all}
use Rattle.std.specs.List.{AllByRecursion}

-- a list that is not empty is its first item and the others
pub front_is : {X : Type 0} (xs : List X) (x : X) → 1 ≤ length xs → x ≡ get_or xs 0 x → xs ≡ x ∷ take (length xs - 1) (drop 1 xs)
front_is [] x long e = absurd (omega arith)
front_is (y ∷ ys) x long e =
    let all : take (length (y ∷ ys) - 1) ys ≡ ys = take_all (length (y ∷ ys) - 1) ys (omega arith) in
    rw (e, all) refl

pub first_is : {X : Type 0} (xs : List X) (x : X) → 1 ≤ length xs → xs ≡ get_or xs 0 x ∷ take (length xs - 1) (drop 1 xs)
first_is [] x long = absurd (omega arith)
first_is (y ∷ ys) x long =
    let all : take (length (y ∷ ys) - 1) ys ≡ ys = take_all (length (y ∷ ys) - 1) ys (omega arith) in
    ap (λ zs. y ∷ zs) (sym all)

pub none_left : {X : Type 0} (xs : List X) → length xs < 1 → xs ≡ []
none_left [] short = refl
none_left (x ∷ xs) short = absurd (omega arith)

-- what is said of each is said of the first and of the others
pub each_fits : {X : Type 0} (P : X → Type 0) (xs : List X) (x : X) (rest : List X) → xs ≡ x ∷ rest → AllByRecursion P xs → P x × AllByRecursion P rest
each_fits {X = X} P xs x rest is all = let Q : List X → Type 0 = AllByRecursion P in subst Q is all

pub all_append : {X : Type 0} (P : X → Type 0) (xs ys : List X) → AllByRecursion P xs → AllByRecursion P ys → AllByRecursion P (xs ++ ys)
all_append P [] ys a b = b
all_append P (x ∷ xs) ys a b = (a.0, all_append P xs ys a.1 b)
