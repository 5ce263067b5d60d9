-- Lists that are linked item by item.
use Rattle.std.proofs.Common.{◌≡◌, ℕ, zero, suc, ◌+◌, List, [], ◌∷◌, ◌++◌, length, Some, Ok, Err, refl, sym, ap, subst, ◌∙◌, append_assoc, append-nil, arith}
use Rattle.std.specs.Prelude.{slice_get}
use Rattle.std.specs.List.{AllByRecursion}
use Rattle.mon_base.specs.Reading.{◌>>=◌}
use Rattle.mon_base.proofs.Reading.{bind_ok, ok_is}
use Rattle.class_linking.specs.declared.fault.LinkFault.{LinkFault}
use Rattle.class_linking.specs.declared.fault.LinkFault.TheVariants as faults
use Rattle.mon_base.specs.Answer.{Fails}
use Rattle.mon_base.proofs.Answering.{through}
use Rattle.class_linking.specs.Fault.{Linked, linked_from}
use Rattle.bytecode_model.proofs.Lists.{some_is}

abbrev pub with_front : {X : Type 0} → List X → Linked (List X) → Linked (List X)
with_front front linked = linked >>= λ others. Ok (front ++ others)

module _ {X Y : Type 0} (one : ℕ → X → Linked Y) where
  bind_front : (front : List Y) (y : Y) (others : Linked (List Y)) → with_front front (others >>= λ ys. Ok (y ∷ ys)) ≡ with_front (front ++ y ∷ []) others
  bind_front front y (Ok ys) = ap Ok (sym (append_assoc front (y ∷ []) ys))
  bind_front front y (Err e) = refl

  -- one item more
  pub goes_on : (made : List Y) (all rest : List X) (x : X) (y : Y) (at : ℕ) (total : Linked (List Y)) → all ≡ x ∷ rest → one at x ≡ Ok y
      → with_front made (linked_from one at all) ≡ total → with_front (made ++ y ∷ []) (linked_from one (at + 1) rest) ≡ total
  goes_on made all rest x y at total split ok so_far =
      sym (bind_front made y (linked_from one (at + 1) rest))
      ∙ ap (λ first. with_front made (first >>= λ z. linked_from one (at + 1) rest >>= λ zs. Ok (z ∷ zs))) (sym ok)
      ∙ ap (λ xs. with_front made (linked_from one at xs)) (sym split) ∙ so_far

  -- an item that does not link
  pub ends : (e : LinkFault) (made : List Y) (all rest : List X) (x : X) (at : ℕ) (total : Linked (List Y)) → all ≡ x ∷ rest → Fails faults.Memory e (one at x)
      → with_front made (linked_from one at all) ≡ total → Fails faults.Memory e total
  ends e made all rest x at total split fails so_far =
      through faults.Memory e (one at x) total
      (λ err. sym so_far ∙ ap (λ xs. with_front made (linked_from one at xs)) split ∙ ap (λ first. with_front made (first >>= λ z. linked_from one (at + 1) rest >>= λ zs. Ok (z ∷ zs))) err) fails

  pub is_done : (made : List Y) (all : List X) (at : ℕ) (total : Linked (List Y)) → all ≡ [] → with_front made (linked_from one at all) ≡ total → total ≡ Ok made
  is_done made all at total none so_far = sym so_far ∙ ap (λ xs. with_front made (linked_from one at xs)) none ∙ ap Ok (append-nil made)

-- what the first item and the others link to
pub first_linked : {X Y : Type 0} (one : ℕ → X → Linked Y) (at : ℕ) (x : X) (xs : List X) (ys : List Y) → linked_from one at (x ∷ xs) ≡ Ok ys
    → (y : Y) × (zs : List Y) × (one at x ≡ Ok y) × (linked_from one (at + 1) xs ≡ Ok zs) × (y ∷ zs ≡ ys)
first_linked one at x xs ys e =
    let a = bind_ok (one at x) (λ y. linked_from one (at + 1) xs >>= λ zs. Ok (y ∷ zs)) ys e in
    let b = bind_ok (linked_from one (at + 1) xs) (λ zs. Ok (a.0 ∷ zs)) ys a.2 in
    (a.0, b.0, a.1, b.1, ok_is LinkFault (a.0 ∷ b.0) ys b.2)

pub both_linked : {X Y : Type 0} (one : ℕ → X → Linked Y) (at : ℕ) (x : X) (xs : List X) (y : Y) (ys : List Y) → linked_from one at (x ∷ xs) ≡ Ok (y ∷ ys) → (one at x ≡ Ok y) × (linked_from one (at + 1) xs ≡ Ok ys)
both_linked one at x xs y ys e =
    let a = first_linked one at x xs (y ∷ ys) e in
    let front : a.0 ≡ y = cc (a.4) in
    let rest : a.1 ≡ ys = cc (a.4) in
    (a.2 ∙ ap Ok front, a.3 ∙ ap Ok rest)

-- as many are linked as there are items
pub same_length : {X Y : Type 0} (one : ℕ → X → Linked Y) (at : ℕ) (xs : List X) (ys : List Y) → linked_from one at xs ≡ Ok ys → length ys ≡ length xs
same_length one at [] [] e = refl
same_length one at [] (y ∷ ys) e = absurd cc
same_length one at (x ∷ xs) ys e =
    let a = first_linked one at x xs ys e in
    ap length (sym a.4) ∙ ap suc (same_length one (at + 1) xs a.1 a.3)

-- what holds of each that links
pub each_of : {X Y : Type 0} (one : ℕ → X → Linked Y) (P : Y → Type 0) → ((at : ℕ) (x : X) (y : Y) → one at x ≡ Ok y → P y) → (at : ℕ) (xs : List X) (ys : List Y) → linked_from one at xs ≡ Ok ys → AllByRecursion P ys
each_of one P each at [] ys e =
    let is : [] ≡ ys = cc in
    subst (AllByRecursion P) is tt
each_of one P each at (x ∷ xs) ys e =
    let a = first_linked one at x xs ys e in
    subst (AllByRecursion P) a.4 (each at x a.0 a.2, each_of one P each (at + 1) xs a.1 a.3)

-- what the item of a place links to
pub linked_at : {X Y : Type 0} (one : ℕ → X → Linked Y) (at : ℕ) (xs : List X) (ys : List Y) (i : ℕ) (x : X) → linked_from one at xs ≡ Ok ys → slice_get xs i ≡ Some x
    → (y : Y) × (slice_get ys i ≡ Some y) × (one (at + i) x ≡ Ok y)
linked_at one at [] ys i x e found = absurd cc
linked_at {X = X} {Y = Y} one at (z ∷ xs) ys i x e found =
    let a = first_linked one at z xs ys e in
    by a.0 a.1 a.2 a.3 a.4 i found (λ j f. linked_at one (at + 1) xs a.1 j x a.3 f) where
      by : (first : Y) (others : List Y) → one at z ≡ Ok first → linked_from one (at + 1) xs ≡ Ok others → first ∷ others ≡ ys → (i : ℕ) → slice_get (z ∷ xs) i ≡ Some x
          → ((j : ℕ) → slice_get xs j ≡ Some x → (y : Y) × (slice_get others j ≡ Some y) × (one (at + 1 + j) x ≡ Ok y)) → (y : Y) × (slice_get ys i ≡ Some y) × (one (at + i) x ≡ Ok y)
      by first others h t is zero found later =
          let same : z ≡ x = some_is z x found in
          let none : at + 0 ≡ at = omega arith in
          (first, ap (λ (zs : List Y). slice_get zs 0) (sym is), ap (λ (n : ℕ). one n x) none ∙ ap (one at) (sym same) ∙ h)
      by first others h t is (suc i) found later =
          let r = later i found in
          let n : at + suc i ≡ at + 1 + i = omega arith in
          (r.0, ap (λ (zs : List Y). slice_get zs (suc i)) (sym is) ∙ r.1, ap (λ (k : ℕ). one k x) n ∙ r.2)
