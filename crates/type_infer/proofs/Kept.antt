-- Items of a list that pass a test.
use Rattle.std.proofs.Common.{◌≡◌, ℕ, zero, suc, ◌<◌, Bool, true, List, [], ◌∷◌, length, get_or, refl, inl, inr, ◌⊎◌, arith}
use Rattle.std.specs.Prelude.{Contains, filter}
use Rattle.std.proofs.lemmas.Bool.{cases_Bool}
use Rattle.std.proofs.lemmas.List.Elements.{All-contains, All-contains_itself, All-filter}

pub first_or_later : {X : Type 0} (y : X) (ys : List X) (x : X) (k : ℕ) → k < length (y ∷ ys) → get_or (y ∷ ys) k x ≡ x → (y ≡ x) ⊎ Contains ys x
first_or_later y ys x zero within is = inl is
first_or_later y ys x (suc k) within is = inr (k, omega arith, is)

-- An item of a list is its first or one of the others.
pub first_or_among : {X : Type 0} (y : X) (ys : List X) (x : X) → Contains (y ∷ ys) x → (y ≡ x) ⊎ Contains ys x
first_or_among y ys x among = first_or_later y ys x among.0 among.1 among.2

pub among_later : {X : Type 0} (y : X) (ys : List X) (x : X) → Contains ys x → Contains (y ∷ ys) x
among_later y ys x among = (suc among.0, omega (arith, among.1), among.2)

pub among_first : {X : Type 0} (y : X) (ys : List X) → Contains (y ∷ ys) y
among_first y ys = (0, omega arith, refl)

among_kept : {X : Type 0} (p : X → Bool) (xs : List X) (x : X) → Contains xs x → p x ≡ true → Contains (filter p xs) x
among_kept p [] x among passes = among
among_kept p (y ∷ ys) x among passes =
    elim (first_or_among y ys x among) [
      | inl is ↦
          let kept : filter p (y ∷ ys) ≡ x ∷ filter p ys = rw (is, passes) refl in
          rw kept (among_first x (filter p ys))
      | inr later ↦
          let others = among_kept p ys x later passes in
          elim (cases_Bool (p y)) [
            | inl holds ↦
                let kept : filter p (y ∷ ys) ≡ y ∷ filter p ys = rw holds refl in
                rw kept (among_later y (filter p ys) x others)
            | inr fails ↦
                let left_out : filter p (y ∷ ys) ≡ filter p ys = rw fails refl in
                rw left_out others
          ]
    ]

-- What passes the test is among the items of a list, if among those of another that has the same ones that pass it.
pub among_same : {X : Type 0} (p : X → Bool) (xs ys : List X) (x : X) → filter p ys ≡ filter p xs → Contains xs x → p x ≡ true → Contains ys x
among_same p xs ys x same among passes =
    let kept : Contains (filter p ys) x = rw same (among_kept p xs x among passes) in
    All-contains (Contains ys) (filter p ys) x (All-filter p (Contains ys) ys (All-contains_itself ys)) kept
