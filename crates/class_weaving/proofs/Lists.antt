-- Lists, and what stands in them.
use Rattle.std.proofs.Common.{◌≡◌, ℕ, zero, suc, ◌+◌, ◌<◌, List, [], ◌∷◌, ◌++◌, length, Some, refl, subst, arith}
use Rattle.std.specs.Prelude.{slice_get}
use Rattle.class_weaving.specs.Outcome.{Each}

pub get_left : {A : Type 0} (xs ys : List A) (k : ℕ) → k < length xs → slice_get (xs ++ ys) k ≡ slice_get xs k
get_left [] ys k lt = absurd (omega arith)
get_left (x ∷ xs) ys zero lt = refl
get_left (x ∷ xs) ys (suc k) lt = get_left xs ys k (omega arith)

pub get_right : {A : Type 0} (xs ys : List A) (k : ℕ) → slice_get (xs ++ ys) (length xs + k) ≡ slice_get ys k
get_right [] ys k =
    let e : 0 + k ≡ k = omega arith in
    rw e refl
get_right (x ∷ xs) ys k =
    let e : length (x ∷ xs) + k ≡ suc (length xs + k) = omega arith in
    rw e (get_right xs ys k)

pub slice_there : {A : Type 0} (xs : List A) (i : ℕ) → i < length xs → (x : A) × (slice_get xs i ≡ Some x)
slice_there [] i lt = absurd (omega arith)
slice_there (x ∷ xs) zero lt = (x, refl)
slice_there (x ∷ xs) (suc i) lt = slice_there xs i (omega arith)

-- ---- items that belong together

pub each_back : {X Y : Type 0} (Belong : X → Y → Type 0) (xs : List X) (ys : List Y) (i : ℕ) (y : Y) → Each Belong xs ys
    → slice_get ys i ≡ Some y → (x : X) × (slice_get xs i ≡ Some x) × Belong x y
each_back Belong [] [] i y e f = absurd cc
each_back Belong [] (z ∷ ys) i y e f = absurd e
each_back Belong (x ∷ xs) [] i y e f = absurd e
each_back Belong (x ∷ xs) (z ∷ ys) zero y e f =
    let same : z ≡ y = cc in
    (x, refl, subst (Belong x) same e.0)
each_back Belong (x ∷ xs) (z ∷ ys) (suc i) y e f = each_back Belong xs ys i y e.1 f

pub each_on : {X Y : Type 0} (Belong : X → Y → Type 0) (xs : List X) (ys : List Y) (i : ℕ) (x : X) → Each Belong xs ys
    → slice_get xs i ≡ Some x → (y : Y) × (slice_get ys i ≡ Some y) × Belong x y
each_on {X = X} Belong [] ys i x e f = absurd cc
each_on {X = X} Belong (z ∷ xs) [] i x e f = absurd e
each_on {X = X} Belong (z ∷ xs) (y ∷ ys) zero x e f =
    let same : z ≡ x = cc in
    (y, refl, subst (λ (w : X). Belong w y) same e.0)
each_on {X = X} Belong (z ∷ xs) (y ∷ ys) (suc i) x e f = each_on Belong xs ys i x e.1 f
