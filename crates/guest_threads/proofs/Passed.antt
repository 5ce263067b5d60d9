-- What calls take from the operands.
use Rattle.std.proofs.Common.{◌≡◌, ℕ, zero, suc, List, [], ◌∷◌, ◌++◌, take, reverse, Option, Some, None, refl, sym, ap, ◌∙◌}
use Rattle.std.specs.Prelude.{slice_get}
use Rattle.std.specs.Option.{option_to_list}
use Rattle.std.proofs.lemmas.List.{append_assoc, reverse-append}

taken_more : {X : Type 0} (xs : List X) (n : ℕ) (x : X) → slice_get xs n ≡ Some x → take (suc n) xs ≡ take n xs ++ x ∷ []
taken_more [] n x e = absurd cc
taken_more {X = X} (y ∷ ys) zero x e = ap (λ (o : Option X). option_to_list o) e
taken_more {X = X} (y ∷ ys) (suc n) x e = ap (λ (zs : List X). y ∷ zs) (taken_more ys n x e)

-- the operand at this depth stands before those above it
pub takes_one : {X : Type 0} (xs pushed new all : List X) (left n : ℕ) (x : X) → left ≡ suc n → slice_get xs n ≡ Some x → new ≡ pushed ++ x ∷ []
    → pushed ++ reverse (take left xs) ≡ all → new ++ reverse (take n xs) ≡ all
takes_one {X = X} xs pushed new all left n x one there is e =
    ap (λ (ys : List X). ys ++ reverse (take n xs)) is ∙ append_assoc pushed (x ∷ []) (reverse (take n xs))
    ∙ ap (λ (ys : List X). pushed ++ ys) (sym (ap reverse (taken_more xs n x there) ∙ reverse-append (take n xs) (x ∷ [])))
    ∙ ap (λ (m : ℕ). pushed ++ reverse (take m xs)) (sym one) ∙ e

none_more : {X : Type 0} (xs : List X) (n : ℕ) → slice_get xs n ≡ None → take (suc n) xs ≡ take n xs
none_more [] zero e = refl
none_more [] (suc n) e = refl
none_more (y ∷ ys) zero e = absurd cc
none_more {X = X} (y ∷ ys) (suc n) e = ap (λ (zs : List X). y ∷ zs) (none_more ys n e)

pub takes_none : {X : Type 0} (xs pushed all : List X) (left n : ℕ) → left ≡ suc n → slice_get xs n ≡ None
    → pushed ++ reverse (take left xs) ≡ all → pushed ++ reverse (take n xs) ≡ all
takes_none {X = X} xs pushed all left n one none e =
    ap (λ (ys : List X). pushed ++ reverse ys) (sym (none_more xs n none)) ∙ ap (λ (m : ℕ). pushed ++ reverse (take m xs)) (sym one) ∙ e
