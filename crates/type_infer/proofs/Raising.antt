-- The least frame above what stands before an instruction and what comes to it.
use Rattle.std.proofs.Common.{◌≡◌, ℕ, ◌≤◌, true, List, min, length, Option, Some, None, refl, sym, ap, subst, ◌∙◌, inl, inr, arith}
use Rattle.std.specs.Prelude.{IsTrue, IsSome, IfSome}
use Rattle.std.specs.Option.{option_or}
use Rattle.bytecode_model.specs.declared.program.Program.{Program}
use Rattle.cert_format.specs.declared.typing.FrameType.{FrameType}
use Rattle.cert_format.specs.declared.typing.VType.{VType}
use Rattle.insn_codec.specs.Shapes.{shape_of}
use Rattle.bytecode_model.specs.Assigning.{assignable}
use Rattle.type_lattice.specs.Merging.{merged}
use Rattle.bytecode_model.specs.Makes.{type_at}
use Rattle.code_typing.specs.Order.{IsFrameBelow, is_settled}
use Rattle.bytecode_model.specs.InsnPlace.{InsnPlace}
use Rattle.type_infer.specs.Solving.{Left, AreBelow, OldIsBelow, IsRaised, IsRaisedBy, IsKept, IsUnlessBelow, local_settled, operand_settled}
use Rattle.type_infer.proofs.Below.{below_over, stack_height, stack_at, stack_below}
use Rattle.type_infer.proofs.Settling.{local_above, operand_above, local_least, operand_least, are_settled}

-- The types x of locals and y of operands are the least above a frame, if one stands there, and what comes.
pub record IsLeastAbove (program : Program) (old : Option FrameType) (left : Left) (x y : ℕ → VType) : Type 0 where
  pub locals : (j : ℕ) → assignable program (left.locals j) (x j) ≡ true
  pub operands : (j : ℕ) → assignable program (type_at left.operands j) (y j) ≡ true
  pub old_locals : (frame : FrameType) → old ≡ Some frame → (j : ℕ) → assignable program (type_at frame.locals j) (x j) ≡ true
  pub old_operands : (frame : FrameType) → old ≡ Some frame → (j : ℕ) → assignable program (type_at frame.stack j) (y j) ≡ true
  pub height : (frame : FrameType) → old ≡ Some frame → length frame.stack ≡ length left.operands
  pub least_locals : (high : FrameType) → AreBelow program left high → OldIsBelow program old high → (j : ℕ) → assignable program (x j) (type_at high.locals j) ≡ true
  pub least_operands : (high : FrameType) → AreBelow program left high → OldIsBelow program old high → (j : ℕ) → assignable program (y j) (type_at high.stack j) ≡ true

-- The frame has these types where none is an object that may not be found.
pub record IsSettledOf (place : InsnPlace) (n : ℕ) (x y : ℕ → VType) (now : FrameType) : Type 0 where
  pub height : length now.stack ≡ n
  pub locals : (j : ℕ) → type_at now.locals j ≡ local_settled place (shape_of place.insn) (x j)
  pub operands : (j : ℕ) → type_at now.stack j ≡ operand_settled place (shape_of place.insn) (y j)
  pub within : length now.locals ≤ place.method.max_locals

-- What is known of the frame of these locals and operands, where no object is that may not be found.
pub record IsSettledBy (place : InsnPlace) (locals operands : List VType) (told : Option FrameType) : Type 0 where
  pub some : length locals ≤ place.method.max_locals → length operands ≤ place.method.max_stack → IsSome told
  pub within : IfSome told (λ (now : FrameType). length now.locals ≤ place.method.max_locals)
  pub height : IfSome told (λ (now : FrameType). length now.stack ≡ length operands)
  pub types : IfSome told (λ (now : FrameType). (j : ℕ) → type_at now.locals j ≡ local_settled place (shape_of place.insn) (type_at locals j))
  pub stack : IfSome told (λ (now : FrameType). (j : ℕ) → type_at now.stack j ≡ operand_settled place (shape_of place.insn) (type_at operands j))

pub some_of : {A : Type 0} (P : A → Type 0) (o : Option A) (x : A) → o ≡ Some x → IfSome o P → P x
some_of P None x e h = absurd cc
some_of P (Some y) x e h =
    let same : y ≡ x = cc in
    subst P same h

pub settled_of : (place : InsnPlace) (locals operands : List VType) (told : Option FrameType) (n : ℕ) (x y : ℕ → VType) (now : FrameType) → IsSettledBy place locals operands told → told ≡ Some now
    → length operands ≡ n → ((j : ℕ) → type_at locals j ≡ x j) → ((j : ℕ) → type_at operands j ≡ y j) → IsSettledOf place n x y now
settled_of place locals operands told n x y now s e h l o = record {
  height = some_of _ told now e s.height ∙ h;
  locals = λ j. some_of _ told now e s.types j ∙ ap (local_settled place (shape_of place.insn)) (l j);
  operands = λ j. some_of _ told now e s.stack j ∙ ap (operand_settled place (shape_of place.insn)) (o j);
  within = some_of _ told now e s.within;
}

module _ (place : InsnPlace) (reflexive : (t : VType) → assignable place.program t t ≡ true) where
  module _ (transitive : (t u v : VType) → assignable place.program t u ≡ true → assignable place.program u v ≡ true → assignable place.program t v ≡ true) where
    module _ (old : Option FrameType) (left : Left) (x y : ℕ → VType) (now : FrameType) (l : IsLeastAbove place.program old left x y) (s : IsSettledOf place (length left.operands) x y now) where
      over_locals : (t : VType) (j : ℕ) → assignable place.program t (x j) ≡ true → assignable place.program t (type_at now.locals j) ≡ true
      over_locals t j h =
          subst (λ (u : VType). assignable place.program t u ≡ true) (sym (s.locals j)) (transitive t (x j) _ h (local_above place.program reflexive place (shape_of place.insn) (x j)))

      over_operands : (t : VType) (j : ℕ) → assignable place.program t (y j) ≡ true → assignable place.program t (type_at now.stack j) ≡ true
      over_operands t j h =
          subst (λ (u : VType). assignable place.program t u ≡ true) (sym (s.operands j))
          (transitive t (y j) _ h (operand_above place.program reflexive place (shape_of place.insn) (y j)))

      came : AreBelow place.program left now
      came = record {
        operands = stack_below place.program left.operands now.stack (sym s.height) (λ j. over_operands (type_at left.operands j) j (l.operands j));
        locals = λ j. over_locals (left.locals j) j (l.locals j);
      }

      kept : OldIsBelow place.program old now
      kept frame e = record {
        stack = stack_below place.program frame.stack now.stack (l.height frame e ∙ sym s.height) (λ j. over_operands (type_at frame.stack j) j (l.old_operands frame e j));
        locals = λ j. over_locals (type_at frame.locals j) j (l.old_locals frame e j);
      }

      least : (high : FrameType) → IsTrue (is_settled place high) → AreBelow place.program left high → OldIsBelow place.program old high → IsFrameBelow place.program now high
      least high settled below over = record {
        stack =
            stack_below place.program now.stack high.stack (s.height ∙ stack_height place.program left.operands high.stack below.operands)
            (λ j. subst (λ (u : VType). assignable place.program u (type_at high.stack j) ≡ true) (sym (s.operands j))
            (operand_least place.program reflexive place (shape_of place.insn) high settled j (y j) (l.least_operands high below over j)));
        locals =
            λ j. subst (λ (u : VType). assignable place.program u (type_at high.locals j) ≡ true) (sym (s.locals j))
            (local_least place.program reflexive place (shape_of place.insn) high settled j (x j) (l.least_locals high below over j));
      }

      pub is_raised : IsRaised place old left now
      is_raised = record {
        came = came;
        kept = kept;
        least = least;
        settled = λ _. are_settled place now x y (shape_of place.insn) s.locals s.operands;
        within = λ _. s.within;
      }

      -- where it is below the old one, that one is such a frame
      pub is_raised_old : (frame : FrameType) → old ≡ Some frame → IsFrameBelow place.program now frame → IsFrameBelow place.program frame frame → IsRaised place old left frame
      is_raised_old frame e below self = record {
        came = below_over place.program transitive left now frame came below;
        kept = λ other e'. subst (λ (f : FrameType). IsFrameBelow place.program f frame) (cc) self;
        least = λ high settled under over. over frame e;
        settled = λ f. f frame e;
        within = λ f. f frame e;
      }

  -- ---- what stands there already takes what comes

  pub stays : (left : Left) (frame : FrameType) → AreBelow place.program left frame → IsFrameBelow place.program frame frame → IsRaised place (Some frame) left frame
  stays left frame h r = record {
    came = h;
    kept = λ other e. subst (λ (f : FrameType). IsFrameBelow place.program f frame) (cc) r;
    least = λ high settled below over. over frame refl;
    settled = λ f. f frame refl;
    within = λ f. f frame refl;
  }

  pub stays_by : (left : Left) (frame : FrameType) → AreBelow place.program left frame → IsFrameBelow place.program frame frame → IsRaisedBy place (Some frame) left None
  stays_by left frame h r = (frame, (refl, stays left frame h r))

-- ---- the types of a list alone, and merged

module _ (program : Program) (reflexive : (t : VType) → assignable program t t ≡ true) where
  pub alone_least : (locals operands : List VType) → IsLeastAbove program None (record { locals = type_at locals; operands = operands }) (type_at locals) (type_at operands)
  alone_least locals operands = record {
    locals = λ j. reflexive (type_at locals j);
    operands = λ j. reflexive (type_at operands j);
    old_locals = λ frame e. absurd cc;
    old_operands = λ frame e. absurd cc;
    height = λ frame e. absurd cc;
    least_locals = λ high below over j. below.locals j;
    least_operands = λ high below over j. stack_at program operands high.stack below.operands j;
  }

  module _ (above : (t u : VType) → (assignable program t (merged program t u) ≡ true) × (assignable program u (merged program t u) ≡ true))
      (least : (t u v : VType) → assignable program t v ≡ true → assignable program u v ≡ true → assignable program (merged program t u) v ≡ true) where
    module _ (frame : FrameType) (locals operands : List VType) (same : length frame.stack ≡ length operands) where
      is_frame : (other : FrameType) → ◌≡◌ {A = Option FrameType} (Some frame) (Some other) → frame ≡ other
      is_frame other e = cc

      pub merged_least : IsLeastAbove program (Some frame) (record { locals = type_at locals; operands = operands })
          (λ j. merged program (type_at frame.locals j) (type_at locals j)) (λ j. merged program (type_at frame.stack j) (type_at operands j))
      merged_least = record {
        locals = λ j. (above (type_at frame.locals j) (type_at locals j)).1;
        operands = λ j. (above (type_at frame.stack j) (type_at operands j)).1;
        old_locals =
            λ other e j. subst (λ (f : FrameType). assignable program (type_at f.locals j) (merged program (type_at frame.locals j) (type_at locals j)) ≡ true) (is_frame other e)
            (above (type_at frame.locals j) (type_at locals j)).0;
        old_operands =
            λ other e j. subst (λ (f : FrameType). assignable program (type_at f.stack j) (merged program (type_at frame.stack j) (type_at operands j)) ≡ true) (is_frame other e)
            (above (type_at frame.stack j) (type_at operands j)).0;
        height = λ other e. subst (λ (f : FrameType). length f.stack ≡ length operands) (is_frame other e) same;
        least_locals = λ high below over j. least (type_at frame.locals j) (type_at locals j) (type_at high.locals j) ((over frame refl).locals j) (below.locals j);
        least_operands =
            λ high below over j. least (type_at frame.stack j) (type_at operands j) (type_at high.stack j) (stack_at program frame.stack high.stack (over frame refl).stack j)
            (stack_at program operands high.stack below.operands j);
      }

-- ---- a frame that is told

module _ (place : InsnPlace) (reflexive : (t : VType) → assignable place.program t t ≡ true)
    (transitive : (t u v : VType) → assignable place.program t u ≡ true → assignable place.program u v ≡ true → assignable place.program t v ≡ true)
    (itself : (frame : FrameType) → IsFrameBelow place.program frame frame) where
  some_is : (o : Option FrameType) → IsSome o → (x : FrameType) × (o ≡ Some x)
  some_is None h = absurd cc
  some_is (Some x) h = (x, refl)

  -- where none stands yet
  pub first_told : (locals operands : List VType) (told : Option FrameType) → IsSettledBy place locals operands told → length locals ≤ place.method.max_locals
      → length operands ≤ place.method.max_stack → IsRaisedBy place None (record { locals = type_at locals; operands = operands }) told
  first_told locals operands told s l o =
      let some = some_is told (s.some l o) in
      let now = some.0 in
      let left : Left = record { locals = type_at locals; operands = operands } in
      let is = settled_of place locals operands told (length operands) (type_at locals) (type_at operands) now s some.1 refl (λ j. refl) (λ j. refl) in (
        now,
        (
          ap (λ (x : Option FrameType). option_or x None) some.1,
          is_raised place reflexive transitive None left (type_at locals) (type_at operands) now (alone_least place.program reflexive locals operands) is,
        ),
      )

  module _ (above : (t u : VType) → (assignable place.program t (merged place.program t u) ≡ true) × (assignable place.program u (merged place.program t u) ≡ true))
      (least : (t u v : VType) → assignable place.program t v ≡ true → assignable place.program u v ≡ true → assignable place.program (merged place.program t u) v ≡ true) where
    -- the types that are told of both
    pub record IsMerge (old : FrameType) (locals operands joined stack : List VType) : Type 0 where
      pub same : length old.stack ≡ length operands
      pub few : length joined ≤ length locals
      pub height : length stack ≡ length operands
      pub locals_are : (j : ℕ) → type_at joined j ≡ merged place.program (type_at old.locals j) (type_at locals j)
      pub operands_are : (j : ℕ) → type_at stack j ≡ merged place.program (type_at old.stack j) (type_at operands j)

    pub merge_from : (program : Program) (old : FrameType) (locals operands joined stack : List VType) → program ≡ place.program → length old.stack ≡ length operands
        → ((j : ℕ) → type_at joined j ≡ merged program (type_at old.locals j) (type_at locals j)) → length joined ≤ length locals
        → ((j : ℕ) → type_at stack j ≡ merged program (type_at old.stack j) (type_at operands j)) → length stack ≡ min (length old.stack) (length operands)
        → IsMerge old locals operands joined stack
    merge_from program old locals operands joined stack p h l n o m = record {
      same = h;
      few = n;
      height = omega arith;
      locals_are = λ j. subst (λ (q : Program). type_at joined j ≡ merged q (type_at old.locals j) (type_at locals j)) p (l j);
      operands_are = λ j. subst (λ (q : Program). type_at stack j ≡ merged q (type_at old.stack j) (type_at operands j)) p (o j);
    }

    module _ (old : FrameType) (locals operands joined stack : List VType) (m : IsMerge old locals operands joined stack) (told : Option FrameType) (s : IsSettledBy place joined stack told) where
      abbrev left : Left
      left = record { locals = type_at locals; operands = operands }

      raised_now : (now : FrameType) → told ≡ Some now → IsRaised place (Some old) left now
      raised_now now e =
          is_raised place reflexive transitive (Some old) left _ _ now (merged_least place.program reflexive above least old locals operands m.same)
          (settled_of place joined stack told (length operands) _ _ now s e m.height m.locals_are m.operands_are)

      raised_old : (now : FrameType) → told ≡ Some now → IsFrameBelow place.program now old → IsRaised place (Some old) left old
      raised_old now e below =
          is_raised_old place reflexive transitive (Some old) left _ _ now (merged_least place.program reflexive above least old locals operands m.same)
          (settled_of place joined stack told (length operands) _ _ now s e m.height m.locals_are m.operands_are) old refl below (itself old)

      pub merged_kept : (result : Option FrameType) → IsUnlessBelow place.program old told result → IsKept place.program (Some old) result
      merged_kept result u frame e other is =
          elim u [
            | inl same ↦ (raised_now frame (sym same ∙ e)).kept other is
            | inr (none, rest) ↦ absurd cc
          ]

      pub merged_told : (result : Option FrameType) → IsUnlessBelow place.program old told result → length locals ≤ place.method.max_locals → length operands ≤ place.method.max_stack
          → IsRaisedBy place (Some old) left result
      merged_told result u l o =
          elim u [
            | inl same ↦
                let some = some_is told (s.some (omega (arith, m.few)) (omega (arith, m.height))) in
                (some.0, (ap (λ (x : Option FrameType). option_or x (Some old)) (same ∙ some.1), raised_now some.0 some.1))
            | inr (none, (now, (e, below))) ↦ (old, (ap (λ (x : Option FrameType). option_or x (Some old)) none, raised_old now e below))
          ]
