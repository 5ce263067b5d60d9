-- A list of which the first is taken, one to which others are appended, and one that is looked up by an index.
use Rattle.std.proofs.Common.{◌≡◌, ℕ, zero, suc, ◌+◌, ◌-◌, ◌<◌, ◌≤◌, Bool, true, false, cond, List, [], ◌∷◌, ◌++◌, length, get_or, take, drop, Option, Some, None, refl, sym, ap, ◌∙◌, arith}
use denote.Ref.{Bor}
use Rattle.std.specs.Prelude.{slice_get, MatchOption, IfSome}
use Rattle.std.specs.List.{HoldsAt, cons_option, filter_map, position_from}
use Rattle.std.specs.Option.{option_copied}
use Rattle.std.proofs.lemmas.List.{take_all}
use Rattle.std.proofs.lemmas.Option.{slice_get_past, slice_get_read}

-- what is left
pub rest_is : {X : Type 0} (x : X) (xs : List X) → take (length (x ∷ xs) - 1) (drop 1 (x ∷ xs)) ≡ xs
rest_is x xs = take_all (length (x ∷ xs) - 1) xs (omega arith)

-- It is its first and what is left.
pub front_at : {X : Type 0} (xs : List X) (d : X) → 1 ≤ length xs → xs ≡ get_or xs 0 d ∷ take (length xs - 1) (drop 1 xs)
front_at [] d some = absurd (omega arith)
front_at (x ∷ xs) d some = ap (λ ys. x ∷ ys) (sym (rest_is x xs))

-- the same of a first that is told
pub front_is : {X : Type 0} (xs : List X) (x : X) → 1 ≤ length xs → x ≡ get_or xs 0 x → xs ≡ x ∷ take (length xs - 1) (drop 1 xs)
front_is xs x some is = front_at xs x some ∙ ap (λ y. y ∷ take (length xs - 1) (drop 1 xs)) (sym is)

-- what is appended stands at the end
pub get_pushed : {X : Type 0} (xs : List X) (x : X) (i : ℕ) → i ≡ length xs → slice_get (xs ++ x ∷ []) i ≡ Some x
get_pushed [] x i is = rw is refl
get_pushed (y ∷ xs) x zero is = absurd (omega (arith, is))
get_pushed (y ∷ xs) x (suc i) is =
    let less : i ≡ length xs = omega (arith, is) in
    get_pushed xs x i less

-- what had a place keeps it
pub get_kept : {X : Type 0} (xs ys : List X) (i : ℕ) (x : X) → slice_get xs i ≡ Some x → slice_get (xs ++ ys) i ≡ Some x
get_kept [] ys i x there = absurd cc
get_kept (y ∷ xs) ys zero x there = there
get_kept (y ∷ xs) ys (suc i) x there = get_kept xs ys i x there

-- what a look-up by index gives
pub got : {X : Type 0} (r : Option (Bor X)) (xs : List X) (i : ℕ) → MatchOption r (length xs ≤ i) (λ x. (i < length xs) × HoldsAt (λ y. x.now ≡ y) xs i) → IfSome r (λ x. x.now ≡ get_or xs i x.now) → option_copied r ≡ slice_get xs i
got None xs i past h = sym (slice_get_past xs i past)
got (Some x) xs i m h = sym (slice_get_read xs (length xs) i x.now refl m.0 h)

-- the place of the first item that passes is one of the list
pub position_below : {X : Type 0} (p : X → Bool) (at : ℕ) (xs : List X) (i : ℕ) → position_from p at xs ≡ Some i → i < at + length xs
position_below p at [] i e = absurd cc
position_below p at (x ∷ xs) i e = by (p x) e (position_below p (at + 1) xs i) where
  by : (b : Bool) → cond b (Some at) (position_from p (at + 1) xs) ≡ Some i → (position_from p (at + 1) xs ≡ Some i → i < at + 1 + length xs) → i < at + length (x ∷ xs)
  by true e later =
      let same : at ≡ i = cc in
      omega (arith, same)
  by false e later = omega (arith, later e)

cons_few : {Y : Type 0} (o : Option Y) (ys : List Y) → length (cons_option o ys) ≤ length ys + 1
cons_few None ys = omega arith
cons_few (Some y) ys = omega arith

-- what a map keeps is no more
pub length-filter_map : {X Y : Type 0} (f : X → Option Y) (xs : List X) → length (filter_map f xs) ≤ length xs
length-filter_map f [] = omega arith
length-filter_map f (x ∷ xs) = omega (arith, cons_few (f x) (filter_map f xs), length-filter_map f xs)
