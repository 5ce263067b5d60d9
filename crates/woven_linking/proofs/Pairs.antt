-- Two lists whose items belong together, and what lists link to, item by item.
use Rattle.std.proofs.Common.{◌≡◌, ℕ, ◌+◌, List, [], ◌∷◌, ◌++◌, Ok, refl, subst}
use Rattle.mon_base.proofs.Reading.{ok_is}
use Rattle.class_linking.specs.declared.fault.LinkFault.{LinkFault}
use Rattle.class_linking.specs.Fault.{Linked, linked_from}
use Rattle.class_linking.proofs.Loop.{first_linked}
use Rattle.class_weaving.specs.Outcome.{Each}

pub each_as : {X Y : Type 0} (P Q : X → Y → Type 0) → ((x : X) (y : Y) → P x y → Q x y) → (xs : List X) (ys : List Y) → Each P xs ys → Each Q xs ys
each_as P Q f [] [] h = tt
each_as P Q f [] (y ∷ ys) h = absurd h
each_as P Q f (x ∷ xs) [] h = absurd h
each_as P Q f (x ∷ xs) (y ∷ ys) h = (f x y h.0, each_as P Q f xs ys h.1)

pub each_append : {X Y : Type 0} (P : X → Y → Type 0) (xs xs' : List X) (ys ys' : List Y) → Each P xs ys → Each P xs' ys' → Each P (xs ++ xs') (ys ++ ys')
each_append P [] xs' [] ys' h h' = h'
each_append P [] xs' (y ∷ ys) ys' h h' = absurd h
each_append P (x ∷ xs) xs' [] ys' h h' = absurd h
each_append P (x ∷ xs) xs' (y ∷ ys) ys' h h' = (h.0, each_append P xs xs' ys ys' h.1 h')

-- Each item is linked to its own, wherever it stands.
pub each_linked : {X Y : Type 0} (one : ℕ → X → Linked Y) (P : X → Y → Type 0) → ((at : ℕ) (x : X) (y : Y) → one at x ≡ Ok y → P x y) → (at : ℕ) (xs : List X) (ys : List Y)
    → linked_from one at xs ≡ Ok ys → Each P xs ys
each_linked one P f at [] ys e = subst (Each P []) (ok_is LinkFault [] ys e) tt
each_linked one P f at (x ∷ xs) ys e =
    let a = first_linked one at x xs ys e in
    subst (Each P (x ∷ xs)) a.4 (f at x a.0 a.2, each_linked one P f (at + 1) xs a.1 a.3)

pub linked_each : {X Y : Type 0} (one : ℕ → X → Linked Y) (P : X → Y → Type 0) → ((at : ℕ) (x : X) (y : Y) → P x y → one at x ≡ Ok y) → (at : ℕ) (xs : List X) (ys : List Y)
    → Each P xs ys → linked_from one at xs ≡ Ok ys
linked_each one P f at [] [] h = refl
linked_each one P f at [] (y ∷ ys) h = absurd h
linked_each one P f at (x ∷ xs) [] h = absurd h
linked_each one P f at (x ∷ xs) (y ∷ ys) h = rw (f at x y h.0, linked_each one P f (at + 1) xs ys h.1) refl
