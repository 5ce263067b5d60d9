-- What is put on a stack, the first on top of the others.
use Rattle.std.proofs.Common.{◌≡◌, ℕ, suc, ◌-◌, ◌<◌, ◌≤◌, List, [], ◌∷◌, ◌++◌, length, take, drop, get_or, Option, Some, None, refl, ap, ◌∙◌, arith}
use Rattle.std.specs.Prelude.{slice_get}
use Rattle.std.specs.List.{filter_map, cons_option}
use Rattle.std.proofs.Math.Seq.{take-length}

cons_few : {Y : Type 0} (o : Option Y) (ys : List Y) → length (cons_option o ys) ≤ suc (length ys)
cons_few None ys = omega arith
cons_few (Some y) ys = omega arith

-- what a map keeps is no more
pub kept_few : {X Y : Type 0} (h : X → Option Y) (xs : List X) → length (filter_map h xs) ≤ length xs
kept_few h [] = omega arith
kept_few h (x ∷ xs) = omega (arith, cons_few (h x) (filter_map h xs), kept_few h xs)

beside : {Y : Type 0} (o : Option Y) (xs ys : List Y) → cons_option o (xs ++ ys) ≡ cons_option o xs ++ ys
beside None xs ys = refl
beside (Some x) xs ys = refl

-- the first is put on top of the others
pub put_first : {X : Type 0} (top : List X) (order : List ℕ) (items : List X) → 0 < length order
    → cons_option (slice_get top (get_or order 0 0)) (filter_map (slice_get top) (take (length order - 1) (drop 1 order)) ++ items)
    ≡ filter_map (slice_get top) order ++ items
put_first top [] items lt = absurd (omega (arith, lt))
put_first top (i ∷ order) items lt =
    let all : take (length (i ∷ order) - 1) order ≡ order = ap (λ (k : ℕ). take k order) (omega arith) ∙ take-length order in
    rw all (beside (slice_get top i) (filter_map (slice_get top) order) items)
