-- What each instruction of a block does to the types.
use Rattle.std.proofs.Common.{
  ◌≡◌,
  ℕ,
  ◌+◌,
  ◌<◌,
  ℤ,
  pos,
  neg_ℤ,
  Bool,
  true,
  false,
  cond,
  List,
  [],
  ◌∷◌,
  map,
  refl,
  ap,
  subst,
  ◌∙◌,
}
use Rattle.std.specs.Prelude.{◌==◌, ◌&&◌, bytes_eq, codes, nat_le, nat_lt, int_le}
use Rattle.std.specs.Ordering.{int_eq}
use Rattle.std.proofs.lemmas.Bool.{and_from, lt-ltb, ltb-true}
use Rattle.api_listing.specs.BuiltIn.{throwable}
use Rattle.cert_format.specs.declared.typing.VType.{VType}
use Rattle.cert_format.specs.declared.typing.VType.TheVariants as types
use Rattle.insn_codec.specs.declared.shape.Heap.TheVariants as heap
use Rattle.insn_codec.specs.declared.shape.How.TheVariants as hows
use Rattle.insn_codec.specs.declared.shape.ValueKind.{ValueKind as Operand}
use Rattle.insn_codec.specs.declared.shape.ValueKind.TheVariants as operands
use Rattle.insn_codec.specs.declared.shape.Relation.{Relation}
use Rattle.insn_codec.specs.declared.shape.Relation.TheVariants as compared
use Rattle.insn_codec.specs.declared.shape.Shape.{Shape}
use Rattle.insn_codec.specs.declared.shape.Shape.TheVariants as shapes
use Rattle.insn_codec.specs.declared.shape.Two.TheVariants as two
use Rattle.insn_codec.specs.Shapes.{plain_shape, local_shape, shape_of}
use Rattle.insn_codec.specs.declared.opcodes.TheConstants.{
  ACONST_NULL,
  LDC_W,
  IADD,
  GOTO,
  GETSTATIC,
  PUTSTATIC,
  INVOKESTATIC,
  ATHROW,
  MONITORENTER,
  MONITOREXIT,
  ILOAD,
  ALOAD,
  ILOAD_0,
  ALOAD_0,
  ISTORE,
  ASTORE,
  ISTORE_0,
  ASTORE_0,
}
use Rattle.bytecode_model.specs.Heads.{maker}
use Rattle.bytecode_model.specs.Assigning.{assignable}
use Rattle.bytecode_model.specs.Described.{arguments, result_type, type_described, types_at}
use Rattle.bytecode_model.specs.Makes.{type_at, call_yields, constant_type, when_made}
use Rattle.bytecode_model.specs.InsnPlace.{InsnPlace, calls_maker, desc_referred}
use Rattle.bytecode_model.specs.Wants.{Want, all_met, of_kind, to_described}
use Rattle.conspec_tree.specs.declared.types.Kind.{Kind}
use Rattle.conspec_tree.specs.declared.types.Kind.TheVariants as kinds
use Rattle.conspec_tree.specs.declared.types.Rel.{Rel}
use Rattle.conspec_tree.specs.declared.types.Rel.TheVariants as relations
use Rattle.offset_patch.specs.declared.block.BlockInsn.{BlockInsn}
use Rattle.offset_patch.specs.declared.block.BlockInsn.TheVariants.{Plain, Byte, Short, Local, Want as Wanted, Jump}
use Rattle.offset_patch.specs.declared.block.PoolWant.TheVariants.{StateClass, Exit, Integer}
use Rattle.offset_patch.specs.Entries.{variable_type}
use Rattle.block_template.specs.Pushing.{field, load, local, negated, push, store}
use Rattle.block_template.specs.Typed.{Stands, operand_of}
use Rattle.block_template.proofs.Acting.{Acts}
use Rattle.block_template.proofs.Insns.{four}

-- ---- loads and stores

pub iload_shape : (slot : ℕ) → slot < 4 → plain_shape (ILOAD_0 + slot) ≡ shapes.Load operands.Int slot
iload_shape = four (λ slot. plain_shape (ILOAD_0 + slot) ≡ shapes.Load operands.Int slot) refl refl refl refl

pub aload_shape : (slot : ℕ) → slot < 4 → plain_shape (ALOAD_0 + slot) ≡ shapes.Load operands.Reference slot
aload_shape = four (λ slot. plain_shape (ALOAD_0 + slot) ≡ shapes.Load operands.Reference slot) refl refl refl refl

pub istore_shape : (slot : ℕ) → slot < 4 → plain_shape (ISTORE_0 + slot) ≡ shapes.Store operands.Int slot
istore_shape = four (λ slot. plain_shape (ISTORE_0 + slot) ≡ shapes.Store operands.Int slot) refl refl refl refl

pub astore_shape : (slot : ℕ) → slot < 4 → plain_shape (ASTORE_0 + slot) ≡ shapes.Store operands.Reference slot
astore_shape = four (λ slot. plain_shape (ASTORE_0 + slot) ≡ shapes.Store operands.Reference slot) refl refl refl refl

module _ (place : InsnPlace) where
  shape_by : (b : Bool) (slot short op : ℕ) (shape : Shape) → nat_lt slot 4 ≡ b → (slot < 4 → plain_shape (short + slot) ≡ shape)
      → local_shape op slot ≡ shape
      → Stands (cond b (Plain (short + slot)) (Local op slot (nat_le 256 slot))) place → shape_of place.insn ≡ shape
  shape_by true slot short op shape e f g stands = ap shape_of stands.is ∙ f (ltb-true _ _ e)
  shape_by false slot short op shape e f g stands = ap shape_of stands.is ∙ g

  number_loaded : (slot : ℕ) → Stands (local ILOAD_0 ILOAD slot) place → shape_of place.insn ≡ shapes.Load operands.Int slot
  number_loaded slot = shape_by (nat_lt slot 4) slot ILOAD_0 ILOAD (shapes.Load operands.Int slot) refl (iload_shape slot) refl

  load_shape : (kind : Kind) (slot : ℕ) → Stands (load kind slot) place → shape_of place.insn ≡ shapes.Load (operand_of kind) slot
  load_shape kinds.Object slot =
      shape_by (nat_lt slot 4) slot ALOAD_0 ALOAD (shapes.Load operands.Reference slot) refl (aload_shape slot) refl
  load_shape kinds.Int slot = number_loaded slot
  load_shape kinds.Bool slot = number_loaded slot
  load_shape kinds.Byte slot = number_loaded slot
  load_shape kinds.Short slot = number_loaded slot
  load_shape kinds.Char slot = number_loaded slot

  number_stored : (slot : ℕ) → Stands (local ISTORE_0 ISTORE slot) place → shape_of place.insn ≡ shapes.Store operands.Int slot
  number_stored slot = shape_by (nat_lt slot 4) slot ISTORE_0 ISTORE (shapes.Store operands.Int slot) refl (istore_shape slot) refl

  store_shape : (kind : Kind) (slot : ℕ) → Stands (store kind slot) place → shape_of place.insn ≡ shapes.Store (operand_of kind) slot
  store_shape kinds.Object slot =
      shape_by (nat_lt slot 4) slot ASTORE_0 ASTORE (shapes.Store operands.Reference slot) refl (astore_shape slot) refl
  store_shape kinds.Int slot = number_stored slot
  store_shape kinds.Bool slot = number_stored slot
  store_shape kinds.Byte slot = number_stored slot
  store_shape kinds.Short slot = number_stored slot
  store_shape kinds.Char slot = number_stored slot

  -- ---- what each does

  module _ (locals : List VType) where
    -- Locals stay, and it takes these operands and pushes those.
    abbrev pub Does : List VType → List VType → Type 0
    Does ts us = Acts place locals ts us (type_at locals)

    loads_as : (kind : Operand) (slot : ℕ) → shape_of place.insn ≡ shapes.Load kind slot → slot < place.method.max_locals
        → of_kind kind (type_at locals slot) ≡ true
        → Does [] (type_at locals slot ∷ [])
    loads_as kind slot is within holds = record {
      shape = shapes.Load kind slot;
      is = is;
      met = refl;
      returns = refl;
      stays = λ t. refl;
      left = refl;
      uses = and_from (nat_lt slot place.method.max_locals) (of_kind kind (type_at locals slot))
          (lt-ltb slot place.method.max_locals within) holds;
      made = λ stack. refl;
      local = λ j. refl;
    }

    pub loads : (kind : Kind) (slot : ℕ) → Stands (load kind slot) place → slot < place.method.max_locals
        → of_kind (operand_of kind) (type_at locals slot) ≡ true
        → Does [] (type_at locals slot ∷ [])
    loads kind slot stands = loads_as (operand_of kind) slot (load_shape kind slot stands)

    pub loads_number : (slot : ℕ) → Stands (local ILOAD_0 ILOAD slot) place → slot < place.method.max_locals
        → type_at locals slot ≡ types.Int → Does [] (types.Int ∷ [])
    loads_number slot stands within is =
        subst (λ (t : VType). Does [] (t ∷ [])) is
        (loads_as operands.Int slot (number_loaded slot stands) within (ap (of_kind operands.Int) is))

    -- The local holds then what was on top.
    abbrev pub stored : ℕ → VType → ℕ → VType
    stored slot t j = cond (j == slot) t (type_at locals j)

    pub stores_one : (kind : Kind) (slot : ℕ) (t : VType) → Stands (store kind slot) place → slot < place.method.max_locals
        → of_kind (operand_of kind) t ≡ true
        → Acts place locals (t ∷ []) [] (stored slot t)
    stores_one kind slot t stands within holds = record {
      shape = shapes.Store (operand_of kind) slot;
      is = store_shape kind slot stands;
      met = and_from (of_kind (operand_of kind) t) true holds refl;
      returns = refl;
      stays = λ u. refl;
      left = refl;
      uses = lt-ltb slot place.method.max_locals within;
      made = λ stack. refl;
      local = λ j. refl;
    }

    -- ---- constants and numbers

    number_pushed : (n : ℤ) → shape_of place.insn ≡ shapes.Push n → Does [] (types.Int ∷ [])
    number_pushed n is =
        record {
          shape = shapes.Push n;
          is = is;
          met = refl;
          returns = refl;
          stays = λ t. refl;
          left = refl;
          uses = refl;
          made =
              λ stack. refl;
          local = λ j. refl;
        }

    constant_pushed : (t : VType) → shape_of place.insn ≡ shapes.Heap heap.Constant → constant_type place.ref ≡ t → Does [] (t ∷ [])
    constant_pushed t is named = record {
      shape = shapes.Heap heap.Constant;
      is = is;
      met = refl;
      returns = refl;
      stays = λ u. refl;
      left = ap (λ (u : VType). u ∷ []) named;
      uses = refl;
      made = λ stack. refl;
      local = λ j. refl;
    }

    pub pushes_class : Stands (Wanted LDC_W StateClass) place → Does [] (types.Ref (codes "java/lang/Class") ∷ [])
    pushes_class stands = constant_pushed (types.Ref (codes "java/lang/Class")) (ap shape_of stands.is) (ap constant_type stands.names.1)

    abbrev PushesNumber : BlockInsn → Type 0
    PushesNumber insn = Stands insn place → Does [] (types.Int ∷ [])

    either : (b : Bool) (x y : BlockInsn) → PushesNumber x → PushesNumber y → PushesNumber (cond b x y)
    either true x y p q = p
    either false x y p q = q

    pub pushes : (n : ℤ) → Stands (push n) place → Does [] (types.Int ∷ [])
    pushes n =
        either (int_eq n (neg_ℤ (pos 1))) (Plain 2) _ (λ s. number_pushed _ (ap shape_of s.is)) (
        either (int_eq n (pos 0)) (Plain 3) _ (λ s. number_pushed _ (ap shape_of s.is)) (
        either (int_eq n (pos 1)) (Plain 4) _ (λ s. number_pushed _ (ap shape_of s.is)) (
        either (int_eq n (pos 2)) (Plain 5) _ (λ s. number_pushed _ (ap shape_of s.is)) (
        either (int_eq n (pos 3)) (Plain 6) _ (λ s. number_pushed _ (ap shape_of s.is)) (
        either (int_eq n (pos 4)) (Plain 7) _ (λ s. number_pushed _ (ap shape_of s.is)) (
        either (int_eq n (pos 5)) (Plain 8) _ (λ s. number_pushed _ (ap shape_of s.is)) (
        either (int_le (neg_ℤ (pos 128)) n && int_le n (pos 127)) (Byte n) _ (λ s. number_pushed n (ap shape_of s.is)) (
        either (int_le (neg_ℤ (pos 32768)) n && int_le n (pos 32767)) (Short n) (Wanted LDC_W (Integer n))
        (λ s. number_pushed n (ap shape_of s.is))
        (λ s. constant_pushed types.Int (ap shape_of s.is) (ap constant_type s.names))))))))))

    pub pushes_byte : (n : ℤ) → Stands (Byte n) place → Does [] (types.Int ∷ [])
    pushes_byte n stands = number_pushed n (ap shape_of stands.is)

    pub pushes_null : Stands (Plain ACONST_NULL) place → Does [] (types.Null ∷ [])
    pushes_null stands = record {
      shape = shapes.PushNull;
      is = ap shape_of stands.is;
      met = refl;
      returns = refl;
      stays = λ t. refl;
      left = refl;
      uses = refl;
      made = λ stack. refl;
      local = λ j. refl;
    }

    -- ---- variables

    number_described : (b : Bool) → type_described (variable_type b) ≡ types.Int
    number_described true = refl
    number_described false = refl

    pub reads : (bools : List Bool) (var : ℕ) → Stands (Wanted GETSTATIC (field bools var)) place → Does [] (types.Int ∷ [])
    reads bools var stands = record {
      shape = shapes.Heap heap.ReadStatic;
      is = ap shape_of stands.is;
      met = refl;
      returns = refl;
      stays = λ t. refl;
      left = ap (λ (d : List ℕ). type_described d ∷ []) stands.names ∙ ap (λ (t : VType). t ∷ []) (number_described _);
      uses = refl;
      made = λ stack. refl;
      local = λ j. refl;
    }

    pub writes : (bools : List Bool) (var : ℕ) → Stands (Wanted PUTSTATIC (field bools var)) place → Does (types.Int ∷ []) []
    writes bools var stands =
        let described : type_described (desc_referred place) ≡ types.Int = ap type_described stands.names ∙ number_described _ in
        record {
          shape = shapes.Heap heap.WriteStatic;
          is = ap shape_of stands.is;
          met = ap (λ (t : VType). assignable place.program types.Int t && true) described;
          returns = refl;
          stays = λ t. refl;
          left = refl;
          uses = refl;
          made = λ stack. refl;
          local = λ j. refl;
        }

    pub adds : Stands (Plain IADD) place → Does (types.Int ∷ types.Int ∷ []) (types.Int ∷ [])
    adds stands = record {
      shape = shapes.Two two.Add;
      is = ap shape_of stands.is;
      met = refl;
      returns = refl;
      stays = λ t. refl;
      left = refl;
      uses = refl;
      made = λ stack. refl;
      local = λ j. refl;
    }

    -- ---- the lock

    pub enters : (name : List ℕ) → Stands (Plain MONITORENTER) place → Does (types.Ref name ∷ []) []
    enters name stands = record {
      shape = shapes.Heap heap.Enter;
      is = ap shape_of stands.is;
      met = refl;
      returns = refl;
      stays = λ t. refl;
      left = refl;
      uses = refl;
      made = λ stack. refl;
      local = λ j. refl;
    }

    pub exits : (name : List ℕ) → Stands (Plain MONITOREXIT) place → Does (types.Ref name ∷ []) []
    exits name stands = record {
      shape = shapes.Heap heap.Exit;
      is = ap shape_of stands.is;
      met = refl;
      returns = refl;
      stays = λ t. refl;
      left = refl;
      uses = refl;
      made = λ stack. refl;
      local = λ j. refl;
    }

    -- ---- jumps

    compares_as : (relation : Relation) (to : ℕ) → shape_of place.insn ≡ shapes.Compare relation to → Does (types.Int ∷ types.Int ∷ []) []
    compares_as relation to is = record {
      shape = shapes.Compare relation to;
      is = is;
      met = refl;
      returns = refl;
      stays = λ t. refl;
      left = refl;
      uses = refl;
      made = λ stack. refl;
      local = λ j. refl;
    }

    pub compares : (rel : Rel) (to : ℕ) → Stands (Jump (negated rel) to) place → Does (types.Int ∷ types.Int ∷ []) []
    compares relations.Eq to stands = compares_as compared.NotEqual (stands.begin + to) (ap shape_of stands.is)
    compares relations.Ne to stands = compares_as compared.Equal (stands.begin + to) (ap shape_of stands.is)
    compares relations.Lt to stands = compares_as compared.GreaterOrEqual (stands.begin + to) (ap shape_of stands.is)
    compares relations.Le to stands = compares_as compared.Greater (stands.begin + to) (ap shape_of stands.is)
    compares relations.Gt to stands = compares_as compared.LessOrEqual (stands.begin + to) (ap shape_of stands.is)
    compares relations.Ge to stands = compares_as compared.Less (stands.begin + to) (ap shape_of stands.is)

    pub jumps : (to : ℕ) → Stands (Jump GOTO to) place → Does [] []
    jumps to stands = record {
      shape = shapes.Goto (stands.begin + to);
      is = ap shape_of stands.is;
      met = refl;
      returns = refl;
      stays = λ t. refl;
      left = refl;
      uses = refl;
      made = λ stack. refl;
      local = λ j. refl;
    }

    -- ---- the way out, and throwing

    pub throws : (t : VType) → assignable place.program t (types.Ref throwable) ≡ true → Stands (Plain ATHROW) place → Does (t ∷ []) []
    throws t fits stands = record {
      shape = shapes.Heap heap.Throw;
      is = ap shape_of stands.is;
      met = and_from (assignable place.program t (types.Ref throwable)) true fits refl;
      returns = refl;
      stays = λ u. refl;
      left = refl;
      uses = refl;
      made = λ stack. refl;
      local = λ j. refl;
    }

    -- the arguments of the method that stops the program
    way_out_arguments : arguments (codes "(I)V") ≡ codes "I" ∷ []
    unfolding types_at
    way_out_arguments = refl

    -- the call of System.exit
    pub stops : Stands (Wanted INVOKESTATIC Exit) place → Does (types.Int ∷ []) []
    stops stands =
        let no_maker : calls_maker place ≡ false = ap (λ (n : List ℕ). bytes_eq n maker) stands.names.0 in
        let desc : desc_referred place ≡ codes "(I)V" = stands.names.1 in
        let takes_one : map (to_described place.program) (arguments (desc_referred place)) ≡ to_described place.program (codes "I") ∷ [] =
        ap (λ (d : List ℕ). map (to_described place.program) (arguments d)) desc
        ∙ ap (map (to_described place.program)) way_out_arguments in
        record {
          shape = shapes.Heap (heap.Call hows.Static);
          is = ap shape_of stands.is;
          met = ap (λ (ws : List Want). all_met ws (types.Int ∷ [])) takes_one;
          returns = refl;
          stays = λ t. ap (λ (b : Bool). cond b (when_made place types.Int t) t) no_maker;
          left = ap (λ (d : List ℕ). call_yields (result_type d)) desc;
          uses = refl;
          made = λ stack. rw no_maker refl;
          local = λ j. refl;
        }
