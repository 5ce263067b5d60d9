-- Three shapes do not differ exactly where they are the same.
use Rattle.std.proofs.Common.{◌≡◌, ℕ, ◌+◌, Bool, true, false, cond, List, [], ◌∷◌, length, map, Option, Some, None, refl}
use Rattle.std.specs.Prelude.{◌&&◌, ◌==◌}
use Rattle.std.proofs.lemmas.Bool.{and_parts, eqb-true, eq-eqb}
use Rattle.bytecode_model.specs.declared.program.LinkedClass.{LinkedClass}
use Rattle.bytecode_model.specs.declared.program.Method.{Method}
use Rattle.bytecode_model.specs.Layout.{coded, layout_of}
use Rattle.cert_checker.specs.Acceptance.{differ, methods_differ, classes_differ}
use Rattle.cert_checker.specs.Places.{placed}
use Rattle.cert_checker.proofs.Options.{or_else_none, placed_none}

if_none : {A : Type 0} (b : Bool) (o : Option A) (x : A) → cond b o (Some x) ≡ None → (b ≡ true) × (o ≡ None)
if_none true o x e = (refl, e)
if_none false o x e = absurd cc

same_counts : (at : ℕ) (xs ys zs : List ℕ) → differ at xs ys zs ≡ None → (ys ≡ xs) × (zs ≡ xs)
same_counts at [] [] [] e = (refl, refl)
same_counts at [] [] (z ∷ zs) e = absurd cc
same_counts at [] (y ∷ ys) zs e = absurd cc
same_counts at (x ∷ xs) [] zs e = absurd cc
same_counts at (x ∷ xs) (y ∷ ys) [] e = absurd cc
same_counts at (x ∷ xs) (y ∷ ys) (z ∷ zs) e =
    let p = if_none ((x == y) && (x == z)) (differ (at + 1) xs ys zs) at e in
    let q = and_parts (x == y) (x == z) p.0 in
    let r = same_counts (at + 1) xs ys zs p.1 in
    let y_is : x ≡ y = eqb-true x y q.0 in
    let z_is : x ≡ z = eqb-true x z q.1 in
    (cc, cc)

-- the numbers of instructions of a class
abbrev lengths : LinkedClass → List ℕ
lengths c = map (λ (m : Method). length m.insns) (coded c.methods)

pub same_classes : {A B : Type 0} (at : ℕ) (classes : List LinkedClass) (frames : List (List (List A))) (notes : List (List (List B))) → classes_differ at classes frames notes ≡ None
    → (layout_of frames ≡ map lengths classes) × (layout_of notes ≡ map lengths classes)
same_classes at [] [] [] e = (refl, refl)
same_classes at [] [] (n ∷ notes) e = absurd cc
same_classes at [] (f ∷ frames) notes e = absurd cc
same_classes at (c ∷ classes) [] notes e = absurd cc
same_classes at (c ∷ classes) (f ∷ frames) [] e = absurd cc
same_classes at (c ∷ classes) (f ∷ frames) (n ∷ notes) e =
    let p = or_else_none (placed at (methods_differ c.methods f n)) (classes_differ (at + 1) classes frames notes) e in
    let q = same_counts 0 (lengths c) (map length f) (map length n) (placed_none at (methods_differ c.methods f n) p.0) in
    let r = same_classes (at + 1) classes frames notes p.1 in
    (rw (q.0, r.0) refl, rw (q.1, r.1) refl)

counts_same : (at : ℕ) (xs ys zs : List ℕ) → ys ≡ xs → zs ≡ xs → differ at xs ys zs ≡ None
counts_same at xs ys zs e f = rw (e, f) (same at xs) where
  same : (at : ℕ) (xs : List ℕ) → differ at xs xs xs ≡ None
  same at [] = refl
  same at (x ∷ xs) = rw (eq-eqb x x refl) (same (at + 1) xs)

-- one shape of all three does not differ
pub none_differ : {A B : Type 0} (at : ℕ) (classes : List LinkedClass) (frames : List (List (List A))) (notes : List (List (List B)))
    → layout_of frames ≡ map lengths classes → layout_of notes ≡ map lengths classes → classes_differ at classes frames notes ≡ None
none_differ at [] [] [] e f = refl
none_differ at [] [] (n ∷ notes) e f = absurd cc
none_differ at [] (x ∷ frames) notes e f = absurd cc
none_differ at (c ∷ classes) [] notes e f = absurd cc
none_differ at (c ∷ classes) (x ∷ frames) [] e f = absurd cc
none_differ at (c ∷ classes) (x ∷ frames) (n ∷ notes) e f =
    let first_frames : map length x ≡ lengths c = cc in
    let first_notes : map length n ≡ lengths c = cc in
    let other_frames : layout_of frames ≡ map lengths classes = cc in
    let other_notes : layout_of notes ≡ map lengths classes = cc in
    let none : methods_differ c.methods x n ≡ None = counts_same 0 (lengths c) (map length x) (map length n) first_frames first_notes in
    rw none (none_differ (at + 1) classes frames notes other_frames other_notes)
