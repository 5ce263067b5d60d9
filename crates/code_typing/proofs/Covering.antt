-- What holds of each handler that covers an instruction, found among those near it.
use Rattle.std.proofs.Common.{◌≡◌, Bool, true, false, List, [], ◌∷◌, refl, sym, ap, ◌∙◌, inl, inr}
use Rattle.std.specs.Prelude.{filter, ◌&&◌, Contains, slice_index_or}
use Rattle.std.specs.List.{list_all}
use Rattle.std.proofs.lemmas.Bool.{cases_Bool}
use Rattle.std.proofs.lemmas.List.Elements.{All-contains, All-contains_itself}
use Rattle.std.proofs.lemmas.List.Sums.{AllPass-from_list_all, list_all-from_AllPass}

-- A test that all pass which another test refuses.
passed_over : {X : Type 0} (p q : X → Bool) (xs : List X) → ((x : X) → q x ≡ false → p x ≡ true) → list_all p (filter q xs) ≡ list_all p xs
passed_over p q [] passes = refl
passed_over p q (x ∷ xs) passes =
    let others = passed_over p q xs passes in
    elim (cases_Bool (q x)) [
      | inl holds ↦
          let kept : filter q (x ∷ xs) ≡ x ∷ filter q xs = rw holds refl in
          ap (list_all p) kept ∙ ap (λ (b : Bool). p x && b) others
      | inr fails ↦
          let left_out : filter q (x ∷ xs) ≡ filter q xs = rw fails refl in
          let passed : list_all p (x ∷ xs) ≡ list_all p xs = rw (passes x fails) refl in
          ap (list_all p) left_out ∙ others ∙ sym passed
    ]

-- All of one list pass it exactly where all of another do with the same items that the other test takes.
pub same_passed : {X : Type 0} (p q : X → Bool) (xs ys : List X) → ((x : X) → q x ≡ false → p x ≡ true) → filter q xs ≡ filter q ys → list_all p xs ≡ list_all p ys
same_passed p q xs ys passes same = sym (passed_over p q xs passes) ∙ ap (list_all p) same ∙ passed_over p q ys passes

-- All that are among others pass a test that those pass.
pub all_among : {X : Type 0} (p : X → Bool) (xs ys : List X) → ((x : X) → Contains xs x → Contains ys x) → list_all p ys ≡ true → list_all p xs ≡ true
all_among p xs ys among pass =
    list_all-from_AllPass p xs
    (λ k d less.
    let x = slice_index_or xs k d in
    All-contains (λ y. p y ≡ true) ys x (AllPass-from_list_all p ys pass) (among x (All-contains_itself xs k d less)))
