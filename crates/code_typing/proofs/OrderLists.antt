-- Lists of types, each type assignable to the one in its place.
use Rattle.std.proofs.Common.{◌≡◌, ℕ, zero, suc, ◌+◌, ◌-◌, Bool, true, List, [], ◌∷◌, ◌++◌, length, take, drop, map, refl, ap}
use Rattle.std.specs.Prelude.{◌&&◌}
use Rattle.std.proofs.lemmas.Bool.{and_parts}
use Rattle.cert_format.specs.declared.typing.VType.{VType}
use Rattle.bytecode_model.specs.declared.program.Program.{Program}
use Rattle.bytecode_model.specs.Assigning.{assignable}
use Rattle.bytecode_model.specs.Order.{IsInOrder}
use Rattle.type_lattice.proofs.Orders.{itself, type_over}
use Rattle.bytecode_model.specs.Makes.{type_at, topmost, below}
use Rattle.code_typing.specs.Order.{StackBelow, LocalsBelow}
use Rattle.bytecode_model.specs.Rules.{locals_fit}

pub both : (a b : Bool) → a ≡ true → b ≡ true → (a && b) ≡ true
both a b e f = rw (e, f) refl

module _ (program : Program) where
  pub stack_itself : (list : List VType) → StackBelow program list list
  stack_itself [] = refl
  stack_itself (t ∷ list) = both _ _ (itself program t) (stack_itself list)

  pub same_height : (from to : List VType) → StackBelow program from to → length from ≡ length to
  same_height [] [] e = refl
  same_height [] (u ∷ to) e = absurd cc
  same_height (t ∷ from) [] e = absurd cc
  same_height (t ∷ from) (u ∷ to) e = ap suc (same_height from to (and_parts _ _ e).1)

  -- each operand by its place; one that is absent is Top
  pub at_below : (from to : List VType) → StackBelow program from to → LocalsBelow program (type_at from) (type_at to)
  at_below [] [] e j = refl
  at_below [] (u ∷ to) e j = absurd cc
  at_below (t ∷ from) [] e j = absurd cc
  at_below (t ∷ from) (u ∷ to) e zero = (and_parts _ _ e).0
  at_below (t ∷ from) (u ∷ to) e (suc j) = at_below from to (and_parts _ _ e).1 j

  take_below : (n : ℕ) (from to : List VType) → StackBelow program from to → StackBelow program (take n from) (take n to)
  take_below zero from to e = refl
  take_below (suc n) [] [] e = refl
  take_below (suc n) [] (u ∷ to) e = absurd cc
  take_below (suc n) (t ∷ from) [] e = absurd cc
  take_below (suc n) (t ∷ from) (u ∷ to) e =
      let h = and_parts _ _ e in
      both _ _ h.0 (take_below n from to h.1)

  drop_below : (n : ℕ) (from to : List VType) → StackBelow program from to → StackBelow program (drop n from) (drop n to)
  drop_below zero from to e = e
  drop_below (suc n) [] [] e = refl
  drop_below (suc n) [] (u ∷ to) e = absurd cc
  drop_below (suc n) (t ∷ from) [] e = absurd cc
  drop_below (suc n) (t ∷ from) (u ∷ to) e = drop_below n from to (and_parts _ _ e).1

  -- the operands that are taken, and those that stay
  pub topmost_below : (n : ℕ) (from to : List VType) → StackBelow program from to → StackBelow program (topmost n from) (topmost n to)
  topmost_below n from to e = rw (same_height from to e) (drop_below (length to - n) from to e)

  pub rest_below : (n : ℕ) (from to : List VType) → StackBelow program from to → StackBelow program (below n from) (below n to)
  rest_below n from to e = rw (same_height from to e) (take_below (length to - n) from to e)

  pub join_below : (from to more others : List VType) → StackBelow program from to → StackBelow program more others → StackBelow program (from ++ more) (to ++ others)
  join_below [] [] more others e f = f
  join_below [] (u ∷ to) more others e f = absurd cc
  join_below (t ∷ from) [] more others e f = absurd cc
  join_below (t ∷ from) (u ∷ to) more others e f =
      let h = and_parts _ _ e in
      both _ _ h.0 (join_below from to more others h.1 f)

  pub map_below : (f g : VType → VType) → ((t u : VType) → assignable program t u ≡ true → assignable program (f t) (g u) ≡ true)
      → (from to : List VType) → StackBelow program from to → StackBelow program (map f from) (map g to)
  map_below f g each [] [] e = refl
  map_below f g each [] (u ∷ to) e = absurd cc
  map_below f g each (t ∷ from) [] e = absurd cc
  map_below f g each (t ∷ from) (u ∷ to) e =
      let h = and_parts _ _ e in
      both _ _ (each t u h.0) (map_below f g each from to h.1)

  pub places_below : (f g : ℕ → VType) → LocalsBelow program f g → (places : List ℕ) → StackBelow program (map f places) (map g places)
  places_below f g each [] = refl
  places_below f g each (i ∷ places) = both _ _ (each i) (places_below f g each places)

module _ (program : Program) (order : IsInOrder program) where
  pub stack_over : (a b c : List VType) → StackBelow program a b → StackBelow program b c → StackBelow program a c
  stack_over [] [] c e f = f
  stack_over [] (u ∷ b) c e f = absurd cc
  stack_over (t ∷ a) [] c e f = absurd cc
  stack_over (t ∷ a) (u ∷ b) [] e f = absurd cc
  stack_over (t ∷ a) (u ∷ b) (v ∷ c) e f =
      let h = and_parts _ _ e in
      let k = and_parts _ _ f in
      both _ _ (type_over program order t u v h.0 k.0) (stack_over a b c h.1 k.1)

  pub locals_over : (f g : ℕ → VType) → LocalsBelow program f g → (j : ℕ) (to : List VType) → locals_fit program g j to ≡ true → locals_fit program f j to ≡ true
  locals_over f g each j [] e = refl
  locals_over f g each j (t ∷ to) e =
      let h = and_parts _ _ e in
      both _ _ (type_over program order (f j) (g j) t (each j) h.0) (locals_over f g each (j + 1) to h.1)
