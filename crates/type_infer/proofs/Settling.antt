-- What may not find an object that is not made yet finds Top in its place.
use Rattle.std.proofs.Common.{◌≡◌, ℕ, zero, suc, Bool, true, false, List, [], ◌∷◌, map, refl, sym, ap, subst, ◌∙◌, inl, inr, arith, None}
use Rattle.std.specs.Prelude.{not, ◌||◌, if◌then◌else◌}
use Rattle.std.proofs.lemmas.Bool.{cases_Bool}
use Rattle.std.proofs.lemmas.Bool.Decides.{nat_tests}
use Rattle.bytecode_model.specs.declared.program.Program.{Program}
use Rattle.cert_format.specs.declared.typing.FrameType.{FrameType}
use Rattle.cert_format.specs.declared.typing.VType.{VType}
use Rattle.cert_format.specs.declared.typing.VType.TheVariants as types
use Rattle.insn_codec.specs.declared.shape.Heap.TheVariants as heap
use Rattle.insn_codec.specs.declared.shape.Shape.{Shape}
use Rattle.insn_codec.specs.declared.shape.Shape.TheVariants as shapes
use Rattle.bytecode_model.specs.Assigning.{assignable}
use Rattle.bytecode_model.specs.Makes.{type_at, is_same_object}
use Rattle.code_typing.specs.Order.{is_settled_at}
use Rattle.bytecode_model.specs.InsnPlace.{InsnPlace, is_maker}
use Rattle.bytecode_model.specs.Rules.{has_object}
use Rattle.type_infer.specs.Solving.{unless, local_settled, operand_settled}
use Rattle.type_infer.proofs.Lists.{type_at-map}

-- ---- an object in a list

top_is_none : (object : VType) → is_same_object object types.Top ≡ false
top_is_none types.Top = refl
top_is_none types.Int = refl
top_is_none types.Null = refl
top_is_none (types.Ref name) = refl
top_is_none types.UninitThis = refl
top_is_none (types.Uninit i) = refl

pub either_false : (a b : Bool) → (a || b) ≡ false → (a ≡ false) × (b ≡ false)
either_false true b e = absurd cc
either_false false b e = (refl, e)

neither : (a b : Bool) → a ≡ false → b ≡ false → (a || b) ≡ false
neither true b e f = absurd cc
neither false b e f = f

pub free_at : (object : VType) (xs : List VType) → has_object object xs ≡ false → (j : ℕ) → is_same_object object (type_at xs j) ≡ false
free_at object [] h j = top_is_none object
free_at object (x ∷ xs) h zero = (either_false (is_same_object object x) _ h).0
free_at object (x ∷ xs) h (suc j) = free_at object xs (either_false (is_same_object object x) _ h).1 j

pub free_from : (object : VType) (xs : List VType) → ((j : ℕ) → is_same_object object (type_at xs j) ≡ false) → has_object object xs ≡ false
free_from object [] h = refl
free_from object (x ∷ xs) h = neither _ _ (h 0) (free_from object xs (λ j. h (suc j)))

-- ---- Top for the object

pub unless_free : (object t : VType) → is_same_object object (unless object t) ≡ false
unless_free object t =
    elim (cases_Bool (is_same_object object t)) [
      | inl same ↦ rw same (top_is_none object)
      | inr other ↦ rw other other
    ]

unless_top : (object : VType) → unless object types.Top ≡ types.Top
unless_top object = rw (top_is_none object) refl

pub free_stays : (object : VType) (xs : List VType) → has_object object xs ≡ false → (j : ℕ) → type_at xs j ≡ unless object (type_at xs j)
free_stays object xs h j = rw (free_at object xs h j) refl

pub unless_each : (object : VType) (xs left : List VType) → left ≡ map (unless object) xs → (j : ℕ) → type_at left j ≡ unless object (type_at xs j)
unless_each object xs left e j = ap (λ (l : List VType). type_at l j) e ∙ type_at-map (unless object) (unless_top object) xs j

module _ (program : Program) (reflexive : (t : VType) → assignable program t t ≡ true) where
  pub unless_above : (object t : VType) → assignable program t (unless object t) ≡ true
  unless_above object t =
      elim (cases_Bool (is_same_object object t)) [
        | inl same ↦ rw same refl
        | inr other ↦ rw other (reflexive t)
      ]

  -- what the object may stand for, and is not it, is Top
  top_for : (object t u : VType) → is_same_object object t ≡ true → assignable program t u ≡ true → is_same_object object u ≡ false → u ≡ types.Top
  top_for object t types.Top s h f = refl
  top_for types.UninitThis types.UninitThis types.Int s h f = absurd cc
  top_for types.UninitThis types.UninitThis types.Null s h f = absurd cc
  top_for types.UninitThis types.UninitThis (types.Ref name) s h f = absurd cc
  top_for types.UninitThis types.UninitThis types.UninitThis s h f = absurd cc
  top_for types.UninitThis types.UninitThis (types.Uninit k) s h f = absurd cc
  top_for (types.Uninit i) (types.Uninit j) types.Int s h f = absurd cc
  top_for (types.Uninit i) (types.Uninit j) types.Null s h f = absurd cc
  top_for (types.Uninit i) (types.Uninit j) (types.Ref name) s h f = absurd cc
  top_for (types.Uninit i) (types.Uninit j) types.UninitThis s h f = absurd cc
  top_for (types.Uninit i) (types.Uninit j) (types.Uninit k) s h f = absurd (grind (arith, nat_tests))
  top_for types.Top t u s h f = absurd cc
  top_for types.Int t u s h f = absurd cc
  top_for types.Null t u s h f = absurd cc
  top_for (types.Ref name) t u s h f = absurd cc
  top_for types.UninitThis types.Top u s h f = absurd cc
  top_for types.UninitThis types.Int u s h f = absurd cc
  top_for types.UninitThis types.Null u s h f = absurd cc
  top_for types.UninitThis (types.Ref name) u s h f = absurd cc
  top_for types.UninitThis (types.Uninit j) u s h f = absurd cc
  top_for (types.Uninit i) types.Top u s h f = absurd cc
  top_for (types.Uninit i) types.Int u s h f = absurd cc
  top_for (types.Uninit i) types.Null u s h f = absurd cc
  top_for (types.Uninit i) (types.Ref name) u s h f = absurd cc
  top_for (types.Uninit i) types.UninitThis u s h f = absurd cc

  pub unless_below : (object t u : VType) → assignable program t u ≡ true → is_same_object object u ≡ false → assignable program (unless object t) u ≡ true
  unless_below object t u h f =
      elim (cases_Bool (is_same_object object t)) [
        | inl same ↦ subst (λ (v : VType). assignable program (unless object t) v ≡ true) (sym (top_for object t u same h f)) refl
        | inr other ↦ rw other h
      ]

  -- ---- before an instruction

  module _ (place : InsnPlace) where
    pub local_above : (shape : Shape) (t : VType) → assignable program t (local_settled place shape t) ≡ true
    local_above (shapes.Heap (heap.Return None)) t =
        elim (cases_Bool (is_maker place.method)) [
          | inl maker ↦ rw maker (unless_above types.UninitThis t)
          | inr other ↦ rw other (reflexive t)
        ]
    local_above other t = reflexive t

    pub operand_above : (shape : Shape) (t : VType) → assignable program t (operand_settled place shape t) ≡ true
    operand_above (shapes.Heap heap.New) t = unless_above (types.Uninit place.at) t
    operand_above (shapes.Heap (heap.Return None)) t =
        elim (cases_Bool (is_maker place.method)) [
          | inl maker ↦ rw maker (unless_above types.UninitThis t)
          | inr other ↦ rw other (reflexive t)
        ]
    operand_above other t = reflexive t

    not_false : (b : Bool) → not b ≡ true → b ≡ false
    not_false true e = absurd cc
    not_false false e = refl

    left_made : (maker locals stack : Bool) → (not maker || not (locals || stack)) ≡ true → maker ≡ true → (locals ≡ false) × (stack ≡ false)
    left_made true locals stack e m = either_false locals stack (not_false (locals || stack) e)
    left_made false locals stack e m = absurd cc

    pub local_least : (shape : Shape) (high : FrameType) → is_settled_at place high shape ≡ true → (j : ℕ) (t : VType) → assignable program t (type_at high.locals j) ≡ true
        → assignable program (local_settled place shape t) (type_at high.locals j) ≡ true
    local_least (shapes.Heap (heap.Return None)) high s j t h =
        elim (cases_Bool (is_maker place.method)) [
          | inl maker ↦
              let made = left_made (is_maker place.method) (has_object types.UninitThis high.locals) (has_object types.UninitThis high.stack) s maker in
              rw maker (unless_below types.UninitThis t (type_at high.locals j) h (free_at types.UninitThis high.locals made.0 j))
          | inr other ↦ rw other h
        ]
    local_least other high s j t h = h

    pub operand_least : (shape : Shape) (high : FrameType) → is_settled_at place high shape ≡ true → (j : ℕ) (t : VType) → assignable program t (type_at high.stack j) ≡ true
        → assignable program (operand_settled place shape t) (type_at high.stack j) ≡ true
    operand_least (shapes.Heap heap.New) high s j t h =
        unless_below (types.Uninit place.at) t (type_at high.stack j) h (free_at (types.Uninit place.at) high.stack (not_false _ s) j)
    operand_least (shapes.Heap (heap.Return None)) high s j t h =
        elim (cases_Bool (is_maker place.method)) [
          | inl maker ↦
              let made = left_made (is_maker place.method) (has_object types.UninitThis high.locals) (has_object types.UninitThis high.stack) s maker in
              rw maker (unless_below types.UninitThis t (type_at high.stack j) h (free_at types.UninitThis high.stack made.1 j))
          | inr other ↦ rw other h
        ]
    operand_least other high s j t h = h

-- ---- what is settled

module _ (place : InsnPlace) (now : FrameType) (x y : ℕ → VType) where
  false_not : (b : Bool) → b ≡ false → not b ≡ true
  false_not true e = absurd cc
  false_not false e = refl

  left_free : (maker locals stack : Bool) → (maker ≡ true → locals ≡ false) → (maker ≡ true → stack ≡ false) → (not maker || not (locals || stack)) ≡ true
  left_free true locals stack l s = false_not _ (neither locals stack (l refl) (s refl))
  left_free false locals stack l s = refl

  unless_maker : (t : VType) → is_maker place.method ≡ true → is_same_object types.UninitThis (if is_maker place.method then unless types.UninitThis t else t) ≡ false
  unless_maker t maker = rw maker (unless_free types.UninitThis t)

  pub are_settled : (shape : Shape) → ((j : ℕ) → type_at now.locals j ≡ local_settled place shape (x j)) → ((j : ℕ) → type_at now.stack j ≡ operand_settled place shape (y j))
      → is_settled_at place now shape ≡ true
  are_settled (shapes.Heap heap.New) l s =
      false_not _ (free_from (types.Uninit place.at) now.stack (λ j. rw (s j) (unless_free (types.Uninit place.at) (y j))))
  are_settled (shapes.Heap (heap.Return None)) l s =
      left_free (is_maker place.method) (has_object types.UninitThis now.locals) (has_object types.UninitThis now.stack)
      (λ maker. free_from types.UninitThis now.locals (λ j. ap (is_same_object types.UninitThis) (l j) ∙ unless_maker (x j) maker))
      (λ maker. free_from types.UninitThis now.stack (λ j. ap (is_same_object types.UninitThis) (s j) ∙ unless_maker (y j) maker))
  are_settled other l s = refl
