-- What is left of a stack, whose operands stand with the top first, once the last items of its vector are dropped.
use Rattle.std.proofs.Common.{◌≡◌, ℕ, zero, suc, ◌-◌, ◌≤◌, ◌<◌, ◌⊎◌, inl, inr, List, [], ◌∷◌, ◌++◌, length, Some, refl, subst, take, drop, sym, ap, ◌∙◌, arith}
use Rattle.std.specs.Prelude.{reverse, slice_get, slice_index_or, slice_set}
use Rattle.std.proofs.lemmas.List.{length-append, length-drop, length-reverse, reverse-append, set-append_left, take-append-drop}
use Rattle.std.proofs.Math.ListN.{drop_of_length-le}
use Rattle.std.proofs.Math.Seq.{drop-append_seam}

module _ {X : Type 0} (xs : List X) (n : ℕ) where
  abbrev kept : ℕ
  kept = length xs - n

  halves : reverse xs ≡ reverse (drop kept xs) ++ reverse (take kept xs)
  halves = ap reverse (sym (take-append-drop kept xs)) ∙ reverse-append (take kept xs) (drop kept xs)

  few : n < length xs → drop n (reverse xs) ≡ reverse (take kept xs)
  few lt =
      let count : length (reverse (drop kept xs)) ≡ n = length-reverse (drop kept xs) ∙ length-drop kept xs ∙ omega (arith, lt) in
      ap (drop n) halves ∙ ap (λ (k : ℕ). drop k (reverse (drop kept xs) ++ reverse (take kept xs))) (sym count)
      ∙ drop-append_seam (reverse (drop kept xs)) (reverse (take kept xs))

  many : length xs ≤ n → drop n (reverse xs) ≡ reverse (take kept xs)
  many le =
      let none : kept ≡ 0 = omega (arith, le) in
      drop_of_length-le (reverse xs) (omega (arith, le, length-reverse xs)) ∙ ap (λ (k : ℕ). reverse (take k xs)) (sym none)

  pub reverse-take : reverse (take kept xs) ≡ drop n (reverse xs)
  reverse-take = elim (either n (length xs)) [
    | inl lt ↦ sym (few lt)
    | inr le ↦ sym (many le)
  ]
    where
      either : (i k : ℕ) → (i < k) ⊎ (k ≤ i)
      either zero zero = inr (omega arith)
      either zero (suc k) = inl (omega arith)
      either (suc i) zero = inr (omega arith)
      either (suc i) (suc k) = elim (either i k) [
        | inl lt ↦ inl (omega (arith, lt))
        | inr le ↦ inr (omega (arith, le))
      ]

-- ---- the top of a stack is the last item of its vector

set_last : {X : Type 0} (ys : List X) (y w : X) → slice_set (ys ++ y ∷ []) (length ys) w ≡ ys ++ w ∷ []
set_last [] y w = refl
set_last (x ∷ ys) y w = ap (λ (zs : List _). x ∷ zs) (set_last ys y w)

alone : {X : Type 0} (x : X) → ◌≡◌ {A = List X} (x ∷ []) ([] ++ x ∷ [])
alone x = refl

-- what is not empty has a last item
record Ends {X : Type 0} (xs : List X) : Type 0 where
  front : List X
  last : X
  is : xs ≡ front ++ last ∷ []

ended : {X : Type 0} (x : X) (xs : List X) → Ends (x ∷ xs)
ended {X = X} x [] = record { front = []; last = x; is = alone x }
ended x (y ∷ xs) = let e = ended y xs in record { front = x ∷ e.front; last = e.last; is = ap (λ (zs : List _). x ∷ zs) e.is }

ends : {X : Type 0} (xs : List X) → 0 < length xs → Ends xs
ends [] lt = absurd (omega (arith, lt))
ends (x ∷ xs) lt = ended x xs

module _ {X : Type 0} (ys : List X) (y w : X) where
  turned : (z : X) → reverse (ys ++ z ∷ []) ≡ z ∷ reverse ys
  turned z = reverse-append ys (z ∷ [])

  one_less : length (ys ++ y ∷ []) - 1 ≡ length ys
  one_less = omega (arith, length-append ys (y ∷ []))

  set_there : reverse (slice_set (ys ++ y ∷ []) (length (ys ++ y ∷ []) - 1) w) ≡ slice_set (reverse (ys ++ y ∷ [])) 0 w
  set_there =
      ap (λ (k : ℕ). reverse (slice_set (ys ++ y ∷ []) k w)) one_less ∙ ap reverse (set_last ys y w) ∙ turned w
      ∙ sym (ap (λ (zs : List X). slice_set zs 0 w) (turned y))

  get_there : slice_get (reverse (ys ++ y ∷ [])) 0 ≡ Some y
  get_there = ap (λ (zs : List X). slice_get zs 0) (turned y)

pub reverse-set : {X : Type 0} (xs : List X) (w : X) → 0 < length xs → reverse (slice_set xs (length xs - 1) w) ≡ slice_set (reverse xs) 0 w
reverse-set xs w lt =
    let e = ends xs lt in
    subst (λ (zs : List _). reverse (slice_set zs (length zs - 1) w) ≡ slice_set (reverse zs) 0 w) (sym e.is) (set_there e.front e.last w)

-- ---- and what is under it the last but one

module _ {X : Type 0} (ys : List X) (y w : X) (lt : 0 < length ys) where
  two_less : length (ys ++ y ∷ []) - 2 ≡ length ys - 1
  two_less = omega (arith, length-append ys (y ∷ []))

  under_set : reverse (slice_set (ys ++ y ∷ []) (length (ys ++ y ∷ []) - 2) w) ≡ slice_set (reverse (ys ++ y ∷ [])) 1 w
  under_set =
      ap (λ (k : ℕ). reverse (slice_set (ys ++ y ∷ []) k w)) two_less ∙ ap reverse (set-append_left ys (y ∷ []) (length ys - 1) w (omega (arith, lt)))
      ∙ reverse-append (slice_set ys (length ys - 1) w) (y ∷ []) ∙ ap (λ (zs : List X). y ∷ zs) (reverse-set ys w lt)
      ∙ sym (ap (λ (zs : List X). slice_set zs 1 w) (turned ys y w y))

pub reverse-set_under : {X : Type 0} (xs : List X) (w : X) → 1 < length xs → reverse (slice_set xs (length xs - 2) w) ≡ slice_set (reverse xs) 1 w
reverse-set_under xs w lt =
    let e = ends xs (omega (arith, lt)) in
    subst (λ (zs : List _). reverse (slice_set zs (length zs - 2) w) ≡ slice_set (reverse zs) 1 w) (sym e.is)
    (under_set e.front e.last w (omega (arith, lt, ap length e.is, length-append e.front (e.last ∷ []))))

-- the same of a stack that is seen with the top first
pub set_seen : {X : Type 0} (items seen : List X) (n : ℕ) (w : X) → reverse items ≡ seen → n ≡ length items → 0 < length seen
    → reverse (slice_set items (n - 1) w) ≡ slice_set seen 0 w
set_seen items seen n w is count lt =
    ap (λ (k : ℕ). reverse (slice_set items (k - 1) w)) count ∙ reverse-set items w (omega (arith, lt, ap length is, length-reverse items))
    ∙ ap (λ (zs : List _). slice_set zs 0 w) is

pub get_seen : {X : Type 0} (items seen : List X) (n : ℕ) (d : X) → reverse items ≡ seen → n ≡ length items → 0 < length seen
    → slice_get seen 0 ≡ Some (slice_index_or items (n - 1) d)
get_seen {X = X} items seen n d is count lt =
    ap (λ (zs : List X). slice_get zs 0) (sym is) ∙ last_seen items (omega (arith, lt, ap length is, length-reverse items))
    ∙ ap (λ (k : ℕ). Some (slice_index_or items (k - 1) d)) (sym count)
  where
    there : (ys : List X) (y : X) → slice_index_or (ys ++ y ∷ []) (length ys) d ≡ y
    there [] y = refl
    there (z ∷ ys) y = there ys y

    last_seen : (xs : List X) → 0 < length xs → slice_get (reverse xs) 0 ≡ Some (slice_index_or xs (length xs - 1) d)
    last_seen xs lt =
        let e = ends xs lt in
        subst (λ (zs : List X). slice_get (reverse zs) 0 ≡ Some (slice_index_or zs (length zs - 1) d)) (sym e.is)
        (get_there e.front e.last e.last ∙ ap Some (sym (ap (λ (k : ℕ). slice_index_or (e.front ++ e.last ∷ []) k d) (one_less e.front e.last e.last) ∙ there e.front e.last)))

pub set_under : {X : Type 0} (items seen : List X) (n : ℕ) (w : X) → reverse items ≡ seen → n ≡ length items → 1 < length seen
    → reverse (slice_set items (n - 2) w) ≡ slice_set seen 1 w
set_under items seen n w is count lt =
    ap (λ (k : ℕ). reverse (slice_set items (k - 2) w)) count ∙ reverse-set_under items w (omega (arith, lt, ap length is, length-reverse items))
    ∙ ap (λ (zs : List _). slice_set zs 1 w) is

-- what is seen under the top
pub get_under : {X : Type 0} (items seen : List X) (n : ℕ) (d : X) → reverse items ≡ seen → n ≡ length items → 1 < length seen
    → slice_get seen 1 ≡ Some (slice_index_or items (n - 2) d)
get_under {X = X} items seen n d is count lt =
    let many : 1 < length items = omega (arith, lt, ap length is, length-reverse items) in
    let e = ends items (omega (arith, many)) in
    let front_lt : 0 < length e.front = omega (arith, many, ap length e.is, length-append e.front (e.last ∷ [])) in
    let f = ends e.front front_lt in
    let all : items ≡ (f.front ++ f.last ∷ []) ++ e.last ∷ [] = e.is ∙ ap (λ (zs : List X). zs ++ e.last ∷ []) f.is in
    let at : n - 2 ≡ length f.front = omega (arith, count, ap length all, length-append (f.front ++ f.last ∷ []) (e.last ∷ []), length-append f.front (f.last ∷ [])) in
    ap (λ (zs : List X). slice_get zs 1) (sym is ∙ ap reverse all ∙ reverse-append (f.front ++ f.last ∷ []) (e.last ∷ []) ∙ ap (λ (zs : List X). e.last ∷ zs) (reverse-append f.front (f.last ∷ [])))
    ∙ ap Some (sym (ap (λ (zs : List X). slice_index_or zs (n - 2) d) all ∙ ap (λ (k : ℕ). slice_index_or ((f.front ++ f.last ∷ []) ++ e.last ∷ []) k d) at
    ∙ before f.front f.last e.last))
  where
    before : (ys : List X) (y z : X) → slice_index_or ((ys ++ y ∷ []) ++ z ∷ []) (length ys) d ≡ y
    before [] y z = refl
    before (x ∷ ys) y z = before ys y z
