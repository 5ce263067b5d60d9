-- Frames in order, by what stands in each place.
use Rattle.std.proofs.Common.{◌≡◌, ℕ, zero, suc, ◌+◌, true, List, [], ◌∷◌, length, refl, ap, subst, ◌∙◌, arith}
use Rattle.std.proofs.lemmas.Bool.{and_from, and_parts}
use Rattle.bytecode_model.specs.declared.program.Program.{Program}
use Rattle.cert_format.specs.declared.typing.FrameType.{FrameType}
use Rattle.cert_format.specs.declared.typing.VType.{VType}
use Rattle.bytecode_model.specs.Assigning.{assignable}
use Rattle.bytecode_model.specs.Makes.{type_at}
use Rattle.code_typing.specs.Order.{StackBelow, LocalsBelow, IsFrameBelow}
use Rattle.bytecode_model.specs.Rules.{locals_fit}
use Rattle.type_infer.specs.Solving.{Left, AreBelow}

module _ (program : Program) where
  pub locals_at : (from : ℕ → VType) (j : ℕ) (to : List VType) → locals_fit program from j to ≡ true → (k : ℕ) → assignable program (from (j + k)) (type_at to k) ≡ true
  locals_at from j [] h k = refl
  locals_at from j (t ∷ to) h zero =
      let here = (and_parts (assignable program (from j) t) _ h).0 in
      subst (λ (n : ℕ). assignable program (from n) t ≡ true) (omega arith) here
  locals_at from j (t ∷ to) h (suc k) =
      let later = locals_at from (j + 1) to (and_parts (assignable program (from j) t) _ h).1 k in
      subst (λ (n : ℕ). assignable program (from n) (type_at to k) ≡ true) (omega arith) later

  pub locals_below : (from : ℕ → VType) (to : List VType) → locals_fit program from 0 to ≡ true → LocalsBelow program from (type_at to)
  locals_below from to h k = subst (λ (n : ℕ). assignable program (from n) (type_at to k) ≡ true) (omega arith) (locals_at from 0 to h k)

  fit_from : (from : ℕ → VType) (j : ℕ) (to : List VType) → ((k : ℕ) → assignable program (from (j + k)) (type_at to k) ≡ true) → locals_fit program from j to ≡ true
  fit_from from j [] h = refl
  fit_from from j (t ∷ to) h =
      let here : assignable program (from j) t ≡ true = subst (λ (n : ℕ). assignable program (from n) t ≡ true) (omega arith) (h 0) in
      and_from _ _ here (fit_from from (j + 1) to (λ k. subst (λ (n : ℕ). assignable program (from n) (type_at to k) ≡ true) (omega arith) (h (suc k))))

  pub locals_fit_below : (from : ℕ → VType) (to : List VType) → LocalsBelow program from (type_at to) → locals_fit program from 0 to ≡ true
  locals_fit_below from to h = fit_from from 0 to (λ k. subst (λ (n : ℕ). assignable program (from n) (type_at to k) ≡ true) (omega arith) (h k))

  pub stack_height : (a b : List VType) → StackBelow program a b → length a ≡ length b
  stack_height [] [] h = refl
  stack_height [] (u ∷ b) h = absurd cc
  stack_height (t ∷ a) [] h = absurd cc
  stack_height (t ∷ a) (u ∷ b) h = ap suc (stack_height a b (and_parts (assignable program t u) _ h).1)

  pub stack_at : (a b : List VType) → StackBelow program a b → (j : ℕ) → assignable program (type_at a j) (type_at b j) ≡ true
  stack_at [] [] h j = refl
  stack_at [] (u ∷ b) h j = absurd cc
  stack_at (t ∷ a) [] h j = absurd cc
  stack_at (t ∷ a) (u ∷ b) h zero = (and_parts (assignable program t u) _ h).0
  stack_at (t ∷ a) (u ∷ b) h (suc j) = stack_at a b (and_parts (assignable program t u) _ h).1 j

  pub stack_below : (a b : List VType) → length a ≡ length b → ((j : ℕ) → assignable program (type_at a j) (type_at b j) ≡ true) → StackBelow program a b
  stack_below [] [] e h = refl
  stack_below [] (u ∷ b) e h = absurd (omega arith)
  stack_below (t ∷ a) [] e h = absurd (omega arith)
  stack_below (t ∷ a) (u ∷ b) e h = and_from _ _ (h 0) (stack_below a b (omega arith) (λ j. h (suc j)))

  module _ (transitive : (t u v : VType) → assignable program t u ≡ true → assignable program u v ≡ true → assignable program t v ≡ true) where
    pub stack_over : (a b c : List VType) → StackBelow program a b → StackBelow program b c → StackBelow program a c
    stack_over a b c h g =
        stack_below a c (stack_height a b h ∙ stack_height b c g) (λ j. transitive (type_at a j) (type_at b j) (type_at c j) (stack_at a b h j) (stack_at b c g j))

    pub below_over : (left : Left) (a b : FrameType) → AreBelow program left a → IsFrameBelow program a b → AreBelow program left b
    below_over left a b h g = record {
      operands = stack_over left.operands a.stack b.stack h.operands g.stack;
      locals = λ j. transitive (left.locals j) (type_at a.locals j) (type_at b.locals j) (h.locals j) (g.locals j);
    }

    pub left_over : (low high : Left) (a : FrameType) → StackBelow program low.operands high.operands → LocalsBelow program low.locals high.locals → AreBelow program high a
        → AreBelow program low a
    left_over low high a s l g = record {
      operands = stack_over low.operands high.operands a.stack s g.operands;
      locals = λ j. transitive (low.locals j) (high.locals j) (type_at a.locals j) (l j) (g.locals j);
    }
