-- Choices by their numbers: each choice of a number below the count of choices is one of them, and there are so many.
use Rattle.std.proofs.Common.{◌≡◌, ℕ, zero, suc, ◌+◌, ◌*◌, ◌/◌, ◌%◌, ◌<◌, List, [], ◌∷◌, ◌++◌, length, drop, get_or, map, Some, refl, sym, ap, subst, ◌∙◌, arith, add-one}
use Rattle.std.specs.Prelude.{flat_map, option_map, slice_get}
use Rattle.std.proofs.lemmas.List.{length-append, length-map}
use Rattle.std.proofs.lemmas.Nat.{div-add-mod', div_below}
use Rattle.std.proofs.Math.Nat.{mod-lt, mul-div_cancel_left, mul-zero, suc-mul, zero-mul}
use Rattle.api_listing.specs.declared.events.ApiValue.{ApiValue}
use Rattle.conspec_automaton.specs.Points.{each_choice, size_of}
use Rattle.race_free_check.specs.Choosing.{chosen, value_at}

-- ---- items by their places

got_left : {X : Type 0} (xs ys : List X) (i : ℕ) → i < length xs → slice_get (xs ++ ys) i ≡ slice_get xs i
got_left [] ys i below = absurd (omega arith)
got_left (x ∷ xs) ys zero below = refl
got_left (x ∷ xs) ys (suc i) below = got_left xs ys i (omega arith)

got_right : {X : Type 0} (xs ys : List X) (i j : ℕ) → i ≡ length xs + j → slice_get (xs ++ ys) i ≡ slice_get ys j
got_right [] ys i j e = ap (slice_get ys) (omega arith)
got_right (x ∷ xs) ys zero j e = absurd (omega arith)
got_right (x ∷ xs) ys (suc i) j e = got_right xs ys i j (omega arith)

pub got_mapped : {X Y : Type 0} (f : X → Y) (xs : List X) (i : ℕ) → slice_get (map f xs) i ≡ option_map f (slice_get xs i)
got_mapped f [] i = refl
got_mapped f (x ∷ xs) zero = refl
got_mapped f (x ∷ xs) (suc i) = got_mapped f xs i

-- Where each item gives a list of one size, place q * size + r is place r in the list of item q.
got_flat : {X Y : Type 0} (f : X → List Y) (size : ℕ) → ((x : X) → length (f x) ≡ size) → (xs : List X) (x : X) (i q r : ℕ) → i ≡ q * size + r → r < size → slice_get xs q ≡ Some x → slice_get (flat_map f xs) i ≡ slice_get (f x) r
got_flat f size sized [] x i q r e below there = absurd cc
got_flat f size sized (y ∷ ys) x i zero r e below there =
    let same : y ≡ x = cc in
    let long = sized y in
    let at : i ≡ r = omega arith in
    got_left (f y) (flat_map f ys) i (omega arith) ∙ ap (λ (z : _). slice_get (f z) i) same ∙ ap (slice_get (f x)) at
got_flat f size sized (y ∷ ys) x i (suc q) r e below there =
    let long = sized y in
    let more = suc-mul q size in
    got_right (f y) (flat_map f ys) i (q * size + r) (omega arith) ∙ got_flat f size sized ys x (q * size + r) q r refl below there

length_flat : {X Y : Type 0} (f : X → List Y) (size : ℕ) → ((x : X) → length (f x) ≡ size) → (xs : List X) → length (flat_map f xs) ≡ length xs * size
length_flat f size sized [] = omega arith
length_flat f size sized (x ∷ xs) =
    let here = sized x in
    let rest = length_flat f size sized xs in
    let more = suc-mul (length xs) size in
    length-append (f x) (flat_map f xs) ∙ omega arith

-- what is left from a place on begins with the item there
pub left_from : {X : Type 0} (xs : List X) (n : ℕ) (x : X) → slice_get xs n ≡ Some x → drop n xs ≡ x ∷ drop (n + 1) xs
left_from xs n x there = by xs n there ∙ ap (λ (k : ℕ). x ∷ drop k xs) (sym (add-one n)) where
  by : (ys : List _) (k : ℕ) → slice_get ys k ≡ Some x → drop k ys ≡ x ∷ drop (suc k) ys
  by [] k e = absurd cc
  by (y ∷ ys) zero e = let same : y ≡ x = cc in ap (λ (z : _). z ∷ ys) same
  by (y ∷ ys) (suc k) e = by ys k e

-- ---- choices

value_there : (ns : List ApiValue) (i : ℕ) → i < length ns → slice_get ns i ≡ Some (value_at ns i)
value_there [] i below = absurd (omega arith)
value_there (n ∷ ns) zero below = refl
value_there (n ∷ ns) (suc i) below = value_there ns i (omega arith)

pub length_choices : {X : Type 0} (lists : List (List X)) → length (each_choice lists) ≡ size_of lists
length_choices [] = refl
length_choices (xs ∷ others) =
    length_flat (λ x. map (λ ys. x ∷ ys) (each_choice others)) (size_of others) (λ x. length-map (each_choice others) (λ ys. x ∷ ys) ∙ length_choices others) xs

positive_factor : (a b n : ℕ) → n < a * b → 0 < b
positive_factor a zero n below = let none = mul-zero a in absurd (omega arith)
positive_factor a (suc b) n below = omega arith

-- the parts of a choice's number
pub record IsSplit (number first rest : ℕ) : Type 0 where
  pub some : 0 < rest
  pub at : number / rest < first
  pub left : number % rest < rest

pub split : (number first rest : ℕ) → number < first * rest → IsSplit number first rest
split number first rest below =
    let some = positive_factor first rest number below in
    record { some = some; at = div_below number rest first some below; left = mod-lt number some }

pub chosen_there : (lists : List (List ApiValue)) (n : ℕ) → n < size_of lists → slice_get (each_choice lists) n ≡ Some (chosen lists n)
chosen_there [] zero below = refl
chosen_there [] (suc n) below = absurd (omega arith)
chosen_there (xs ∷ others) n below =
    let s = split n (length xs) (size_of others) below in
    let x = value_at xs (n / size_of others) in
    let r = n % size_of others in
    got_flat (λ y. map (λ ys. y ∷ ys) (each_choice others)) (size_of others) (λ y. length-map (each_choice others) (λ ys. y ∷ ys) ∙ length_choices others)
    xs x n (n / size_of others) r (sym (div-add-mod' n (size_of others))) s.left (value_there xs (n / size_of others) s.at)
    ∙ got_mapped (λ ys. x ∷ ys) (each_choice others) r
    ∙ ap (option_map (λ (ys : List ApiValue). x ∷ ys)) (chosen_there others r s.left)

pub chosen_length : (lists : List (List ApiValue)) (n : ℕ) → length (chosen lists n) ≡ length lists
chosen_length [] n = refl
chosen_length (xs ∷ others) n = let rest = chosen_length others (n % size_of others) in omega arith

got_value : (values : List ApiValue) (i : ℕ) (d : ApiValue) → i < length values → get_or values i d ≡ value_at values i
got_value [] i d below = absurd (omega arith)
got_value (v ∷ values) zero d below = refl
got_value (v ∷ values) (suc i) d below = got_value values i d (omega arith)

-- ---- the first value of a choice, and those after it

module _ (lists rest : List (List ApiValue)) (list : List ApiValue) (number count size : ℕ) (front : lists ≡ list ∷ rest) (counted : count ≡ size_of lists) (there : number < count) (sized : size ≡ length list) where
  parts : IsSplit number (length list) (size_of rest)
  parts = split number (length list) (size_of rest) (subst (λ (n : ℕ). number < n) (counted ∙ ap size_of front) there)

  -- the count of the choices of the lists after
  pub count_left : count / size ≡ size_of rest
  count_left =
      let product = counted ∙ ap size_of front in
      ap (λ (n : ℕ). n / size) product ∙ ap (λ (n : ℕ). length list * size_of rest / n) sized ∙ mul-div_cancel_left (size_of rest) (some_first (length list) (size_of rest) number (subst (λ (n : ℕ). number < n) product there)) where
        some_first : (a b n : ℕ) → n < a * b → 0 < a
        some_first zero b n below = let none = zero-mul b in absurd (omega arith)
        some_first (suc a) b n below = omega arith

  pub number_left : number % (count / size) < count / size
  number_left = subst (λ (n : ℕ). number % n < n) (sym count_left) parts.left

  pub inside : number / (count / size) < length list
  inside = subst (λ (n : ℕ). number / n < length list) (sym count_left) parts.at

  pub told : (d : ApiValue) → chosen lists number ≡ get_or list (number / (count / size)) d ∷ chosen rest (number % (count / size))
  told d =
      ap (λ (ls : List (List ApiValue)). chosen ls number) front
      ∙ ap (λ (v : ApiValue). v ∷ chosen rest (number % size_of rest)) (sym (got_value list (number / size_of rest) d parts.at))
      ∙ ap (λ (n : ℕ). get_or list (number / n) d ∷ chosen rest (number % n)) (sym count_left)
