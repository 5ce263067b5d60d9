-- What each instruction of a block does, and what its operand names.
use Rattle.std.proofs.Common.{◌≡◌, ℕ, ◌+◌, ◌<◌, ℤ, pos, neg_ℤ, Bool, true, false, cond, List, ◌∷◌, [], Option, Some, None, refl, sym, ap, subst, ◌∙◌}
use Rattle.std.specs.Prelude.{◌==◌, ◌&&◌, int_le, nat_le, nat_lt, not}
use Rattle.std.specs.Ordering.{int_eq}
use Rattle.std.proofs.lemmas.Bool.{eqb-true, false≢true, ltb-true}
use Rattle.std.proofs.lemmas.Bool.Decides.{Decides-int_eq}
use Rattle.class_codec.specs.declared.tree.Const.{Const}
use Rattle.insn_codec.specs.declared.insn.Insn.{Insn}
use Rattle.insn_codec.specs.declared.opcodes.TheConstants.{ILOAD, ALOAD, ILOAD_0, ALOAD_0, ISTORE, ASTORE, ISTORE_0, ASTORE_0, GOTO, ATHROW}
use Rattle.insn_codec.specs.declared.shape.Heap.TheVariants as heap
use Rattle.insn_codec.specs.declared.shape.ValueKind.{ValueKind as Operand}
use Rattle.insn_codec.specs.declared.shape.ValueKind.TheVariants as operands
use Rattle.insn_codec.specs.declared.shape.Relation.{Relation}
use Rattle.insn_codec.specs.declared.shape.Relation.TheVariants as compared
use Rattle.insn_codec.specs.declared.shape.Shape.{Shape}
use Rattle.insn_codec.specs.declared.shape.Shape.TheVariants as shapes
use Rattle.insn_codec.specs.Control.{jump_targets}
use Rattle.insn_codec.specs.Opcodes.{goes_on, opcode_at}
use Rattle.insn_codec.specs.Shapes.{shape_of}
use Rattle.insn_codec.specs.Encoding.{opcode_of}
use Rattle.bytecode_model.specs.declared.program.Target.{Target}
use Rattle.bytecode_model.specs.declared.program.Target.TheVariants as target
use Rattle.conspec_tree.specs.declared.types.Kind.{Kind}
use Rattle.conspec_tree.specs.declared.types.Kind.TheVariants as kinds
use Rattle.conspec_tree.specs.declared.types.Rel.{Rel}
use Rattle.conspec_tree.specs.declared.types.Rel.TheVariants as relations
use Rattle.offset_patch.specs.declared.block.BlockInsn.{BlockInsn}
use Rattle.offset_patch.specs.declared.block.BlockInsn.TheVariants.{Plain, Byte, Short, Local, Want, Jump, Call}
use Rattle.offset_patch.specs.Splicing.{is_call, put}
use Rattle.block_template.specs.Flow.{jump_of, may_pass}
use Rattle.block_template.specs.Pushing.{load, local, negated, push, store}
use Rattle.block_template.proofs.Doing.{aload_shape, astore_shape, iload_shape, istore_shape}
use Rattle.class_weaving.specs.Outcome.{part_named}

-- An instruction of this shape, whose operand names this.
pub record Does (insn : Insn) (ref : Target) (shape : Shape) (named : Target) : Type 0 where
  pub is : shape_of insn ≡ shape
  pub names : ref ≡ named

-- what holds a value of a kind
abbrev pub held : Kind → Operand
held kinds.Object = operands.Reference
held kinds.Int = operands.Int
held kinds.Bool = operands.Int
held kinds.Byte = operands.Int
held kinds.Short = operands.Int
held kinds.Char = operands.Int

-- the comparison that is made where the relation does not hold
abbrev pub negation : Rel → Relation
negation relations.Eq = compared.NotEqual
negation relations.Ne = compared.Equal
negation relations.Lt = compared.GreaterOrEqual
negation relations.Le = compared.Greater
negation relations.Gt = compared.LessOrEqual
negation relations.Ge = compared.Less

chosen : (P : BlockInsn → Type 0) (b : Bool) (x y : BlockInsn) → (b ≡ true → P x) → (b ≡ false → P y) → P (cond b x y)
chosen P true x y p q = p refl
chosen P false x y p q = q refl

module _ (pool : List Const) (fronts : List ℕ) (begin : ℕ) (own : Insn) (state : ℕ) (ref : Target) where
  abbrev pub placed : BlockInsn → Insn
  placed b = put pool fronts begin own b

  abbrev pub named : BlockInsn → Target
  named b = part_named state ref b

  -- ---- loads and stores

  local_does : (least op slot : ℕ) (shape : Shape) → (slot < 4 → Does (placed (Plain (least + slot))) target.None shape target.None)
      → Does (placed (Local op slot (nat_le 256 slot))) target.None shape target.None
      → Does (placed (local least op slot)) (named (local least op slot)) shape target.None
  local_does least op slot shape f g =
      chosen (λ (b : BlockInsn). Does (placed b) (named b) shape target.None) (nat_lt slot 4) (Plain (least + slot)) (Local op slot (nat_le 256 slot))
      (λ e. f (ltb-true _ _ e)) (λ e. g)

  pub number_loaded : (slot : ℕ) → Does (placed (local ILOAD_0 ILOAD slot)) (named (local ILOAD_0 ILOAD slot)) (shapes.Load operands.Int slot) target.None
  number_loaded slot = local_does ILOAD_0 ILOAD slot (shapes.Load operands.Int slot) (λ lt. record { is = iload_shape slot lt; names = refl }) (record { is = refl; names = refl })

  number_stored : (slot : ℕ) → Does (placed (local ISTORE_0 ISTORE slot)) (named (local ISTORE_0 ISTORE slot)) (shapes.Store operands.Int slot) target.None
  number_stored slot = local_does ISTORE_0 ISTORE slot (shapes.Store operands.Int slot) (λ lt. record { is = istore_shape slot lt; names = refl }) (record { is = refl; names = refl })

  pub loaded : (kind : Kind) (slot : ℕ) → Does (placed (load kind slot)) (named (load kind slot)) (shapes.Load (held kind) slot) target.None
  loaded kinds.Object slot = local_does ALOAD_0 ALOAD slot (shapes.Load operands.Reference slot) (λ lt. record { is = aload_shape slot lt; names = refl }) (record { is = refl; names = refl })
  loaded kinds.Int slot = number_loaded slot
  loaded kinds.Bool slot = number_loaded slot
  loaded kinds.Byte slot = number_loaded slot
  loaded kinds.Short slot = number_loaded slot
  loaded kinds.Char slot = number_loaded slot

  pub stored : (kind : Kind) (slot : ℕ) → Does (placed (store kind slot)) (named (store kind slot)) (shapes.Store (held kind) slot) target.None
  stored kinds.Object slot = local_does ASTORE_0 ASTORE slot (shapes.Store operands.Reference slot) (λ lt. record { is = astore_shape slot lt; names = refl }) (record { is = refl; names = refl })
  stored kinds.Int slot = number_stored slot
  stored kinds.Bool slot = number_stored slot
  stored kinds.Byte slot = number_stored slot
  stored kinds.Short slot = number_stored slot
  stored kinds.Char slot = number_stored slot

  -- ---- numbers

  -- A number is pushed by an opcode, or named.
  module _ (n : ℤ) (P : Shape → Target → Type 0) (plain : P (shapes.Push n) target.None) (constant : P (shapes.Heap heap.Constant) (target.Number n)) where
    abbrev Q : BlockInsn → Type 0
    Q b = P (shape_of (placed b)) (named b)

    one_of : (m : ℤ) → int_eq n m ≡ true → P (shapes.Push m) target.None
    one_of m e = subst (λ (k : ℤ). P (shapes.Push k) target.None) ((Decides-int_eq n m).0 e) plain

    pub pushed : Q (push n)
    pushed =
        chosen Q (int_eq n (neg_ℤ (pos 1))) _ _ (one_of (neg_ℤ (pos 1))) (λ e.
        chosen Q (int_eq n (pos 0)) _ _ (one_of (pos 0)) (λ e.
        chosen Q (int_eq n (pos 1)) _ _ (one_of (pos 1)) (λ e.
        chosen Q (int_eq n (pos 2)) _ _ (one_of (pos 2)) (λ e.
        chosen Q (int_eq n (pos 3)) _ _ (one_of (pos 3)) (λ e.
        chosen Q (int_eq n (pos 4)) _ _ (one_of (pos 4)) (λ e.
        chosen Q (int_eq n (pos 5)) _ _ (one_of (pos 5)) (λ e.
        chosen Q (int_le (neg_ℤ (pos 128)) n && int_le n (pos 127)) _ _ (λ e. plain) (λ e.
        chosen Q (int_le (neg_ℤ (pos 32768)) n && int_le n (pos 32767)) _ _ (λ e. plain) (λ e. constant)))))))))

  -- ---- jumps

  pub compares : (rel : Rel) (place : ℕ) → shape_of (placed (Jump (negated rel) place)) ≡ shapes.Compare (negation rel) (begin + place)
  compares relations.Eq place = refl
  compares relations.Ne place = refl
  compares relations.Lt place = refl
  compares relations.Le place = refl
  compares relations.Gt place = refl
  compares relations.Ge place = refl

  -- Where control goes on after an instruction it may pass there.
  pub goes_past : (b : BlockInsn) → is_call b ≡ false → goes_on (opcode_of (placed b)) ≡ true → may_pass b ≡ true
  unfolding opcode_at
  goes_past (Plain op) c e = by (op == ATHROW) refl
    where
      by : (t : Bool) → (op == ATHROW) ≡ t → not t ≡ true
      by true is = absurd (false≢true (ap goes_on (sym (eqb-true op ATHROW is)) ∙ e))
      by false is = refl
  goes_past (Jump op place) c e = by (op == GOTO) refl
    where
      by : (t : Bool) → (op == GOTO) ≡ t → not t ≡ true
      by true is = absurd (false≢true (ap goes_on (sym (eqb-true op GOTO is)) ∙ e))
      by false is = refl
  goes_past (Byte n) c e = refl
  goes_past (Short n) c e = refl
  goes_past (Local op slot wide) c e = refl
  goes_past (Want op want) c e = refl
  goes_past Call c e = refl

  abbrev pub places_of : Option ℕ → List ℕ
  places_of None = []
  places_of (Some place) = (begin + place) ∷ []

  pub jumps_to : (b : BlockInsn) → is_call b ≡ false → jump_targets (placed b) ≡ places_of (jump_of b)
  jumps_to (Jump op place) c = refl
  jumps_to (Plain op) c = refl
  jumps_to (Byte n) c = refl
  jumps_to (Short n) c = refl
  jumps_to (Local op slot wide) c = refl
  jumps_to (Want op want) c = refl
  jumps_to Call c = absurd cc
