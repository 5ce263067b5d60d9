-- What is known of an instruction whose operand links.
use Rattle.std.proofs.Common.{◌≡◌, ℕ, ◌<◌, Bool, true, false, cond, not, List, [], length, Option, Some, None, Result, Ok, Err, refl, sym, ap, subst, ◌∙◌, arith}
use Rattle.std.specs.Prelude.{◌==◌, ◌||◌, ◌&&◌, slice_get, ok_or, is_ok, ⊤}
use Rattle.std.specs.Bool.{beq}
use Rattle.std.specs.Option.{option_map_or}
use Rattle.std.proofs.lemmas.Bool.{false≢true}
use Rattle.std.proofs.lemmas.Option.{slice_get_within}
use Rattle.mon_base.specs.declared.method.MethodId.{MethodId}
use Rattle.mon_base.specs.Reading.{◌>>=◌}
use Rattle.mon_base.proofs.Reading.{bind_ok, ok_is, ok_or_ok}
use Rattle.class_codec.specs.declared.pool.ConstKind.TheVariants as kinds
use Rattle.class_codec.specs.declared.tree.ClassFile.{ClassFile}
use Rattle.class_codec.specs.declared.tree.Const.{Const}
use Rattle.class_codec.specs.declared.tree.Const.TheVariants as constants
use Rattle.class_codec.specs.Fits.{IsEncodable, FitsPool, IsNamed}
use Rattle.class_codec.specs.Pool.{names, utf8_at, class_name_at, class_name_of, name_and_type_at, member_id, reference_of, reference_at}
use Rattle.insn_codec.specs.declared.opcodes.TheConstants.{INVOKESPECIAL, INVOKESTATIC, INVOKEVIRTUAL}
use Rattle.insn_codec.specs.declared.insn.Insn.{Insn}
use Rattle.insn_codec.specs.declared.insn.Insn.TheVariants as insns
use Rattle.insn_codec.specs.declared.opcode.Operands.{Operands}
use Rattle.insn_codec.specs.declared.opcode.Operands.TheVariants as ops
use Rattle.insn_codec.specs.Opcodes.{opcode_at, operands_of}
use Rattle.insn_codec.specs.Fits.{IsInsn}
use Rattle.insn_codec.proofs.InsnForms.{number, all_below, each_below, known_opcode, passed, equal_numbers}
use Rattle.insn_codec.specs.declared.shape.Heap.TheVariants as heap
use Rattle.insn_codec.specs.declared.shape.Shape.TheVariants as shapes
use Rattle.insn_codec.specs.Shapes.{shape_of, pool_shape}
use Rattle.insn_codec.specs.declared.shape.How.{How}
use Rattle.insn_codec.specs.declared.shape.How.TheVariants as hows
use Rattle.insn_codec.specs.declared.shape.Shape.{Shape}
use Rattle.api_listing.specs.declared.descriptor.FieldType.{FieldType}
use Rattle.api_listing.specs.declared.types.Listing.{Listing}
use Rattle.api_listing.specs.Descriptor.{method_type, whole_type}
use Rattle.api_listing.specs.Fault.{Read}
use Rattle.class_linking.specs.declared.operand_fault.OperandFault.{OperandFault}
use Rattle.class_linking.specs.declared.operand_fault.OperandFault.TheVariants as operand
use Rattle.bytecode_model.specs.declared.operand.Use.{Use}
use Rattle.bytecode_model.specs.declared.operand.Use.TheVariants as uses
use Rattle.bytecode_model.specs.declared.program.LinkedClass.{LinkedClass}
use Rattle.bytecode_model.specs.declared.program.Program.{Program}
use Rattle.bytecode_model.specs.declared.program.Target.{Target}
use Rattle.bytecode_model.specs.declared.program.Target.TheVariants as target
use Rattle.bytecode_model.specs.Heads.{text_at}
use Rattle.bytecode_model.specs.Members.{method_of, field_of}
use Rattle.bytecode_model.specs.Arrays.{is_array}
use Rattle.bytecode_model.specs.Operands.{use_of, use_of_opcode, index_of, element_is_known, known_in, id_at}
use Rattle.class_linking.specs.Operands.{is_nothing, operand_linked, used, loaded, typed, field_used, called, call_linked, field_linked, field_fits, class_linked, array_linked}
use Rattle.bytecode_model.proofs.Lists.{all_get}
use Rattle.class_linking.proofs.Constants.{named_one, text_there, is_class}
use Rattle.class_linking.proofs.Nearest.{looked_up}
use Rattle.bytecode_model.specs.Named.{desc_told, IsRightOperand}
use Rattle.class_linking.proofs.LinkedMembers.{IsUnlisted, IsTold, unlisted_told, method_found, field_found}

-- ---- opcodes

-- each opcode that names a constant uses it
uses_it : ℕ → Bool
uses_it op = not (number (operands_of op) == 4) || not (is_nothing (use_of_opcode op))

all_use_it : all_below 202 uses_it ≡ true
unfolding uses_it opcode_at
all_use_it = refl

pool_uses : (op : ℕ) → operands_of op ≡ ops.Pool → not (is_nothing (use_of_opcode op)) ≡ true
unfolding uses_it
pool_uses op is =
    let less : op < 202 = known_opcode op (ap (λ (o : Operands). number o == 15) is) in
    passed (number (operands_of op) == 4) _ (each_below 202 uses_it all_use_it op less) (ap (λ (o : Operands). number o == 4) is)

abbrev is_call : Use → Bool
is_call (uses.Call static of_interface) = true
is_call other = false

is_calling : ℕ → Bool
is_calling op = not (is_call (use_of_opcode op)) || (op == INVOKEVIRTUAL || (op == INVOKESPECIAL || op == INVOKESTATIC))

all_calling : all_below 256 is_calling ≡ true
unfolding is_calling
all_calling = refl

-- an opcode that calls, and how it does
abbrev CallsSo : Shape → Type 0
CallsSo shape = (how : How) × (shape ≡ shapes.Heap (heap.Call how))

one_of_three : (op : ℕ) → (op == INVOKEVIRTUAL || (op == INVOKESPECIAL || op == INVOKESTATIC)) ≡ true → CallsSo (pool_shape op)
one_of_three op e = by (op == INVOKEVIRTUAL) (op == INVOKESPECIAL) (op == INVOKESTATIC) refl refl refl e where
  shaped : (n : ℕ) → CallsSo (pool_shape n) → (op == n) ≡ true → CallsSo (pool_shape op)
  shaped n is e =
      let same : n ≡ op = sym (equal_numbers op n e) in
      subst (λ (k : ℕ). CallsSo (pool_shape k)) same is

  by : (a b c : Bool) → (op == INVOKEVIRTUAL) ≡ a → (op == INVOKESPECIAL) ≡ b → (op == INVOKESTATIC) ≡ c → (a || (b || c)) ≡ true → CallsSo (pool_shape op)
  by true b c x y z e = shaped INVOKEVIRTUAL (hows.Virtual, refl) x
  by false true c x y z e = shaped INVOKESPECIAL (hows.Special, refl) y
  by false false true x y z e = shaped INVOKESTATIC (hows.Static, refl) z
  by false false false x y z e = absurd (false≢true e)

pool_calls : (op : ℕ) → op < 256 → is_call (use_of_opcode op) ≡ true → CallsSo (pool_shape op)
unfolding is_calling
pool_calls op small is = one_of_three op (passed (is_call (use_of_opcode op)) _ (each_below 256 is_calling all_calling op small) is)

-- ---- instructions

pub nothing_named : (insn : Insn) → IsInsn insn → is_nothing (use_of insn) ≡ true → index_of insn ≡ 0
nothing_named (insns.Ldc index) is e = absurd cc
nothing_named (insns.Iface index count) is e = absurd cc
nothing_named (insns.Pool op index) is e =
    let h : not true ≡ true = subst (λ (b : Bool). not b ≡ true) e (pool_uses op is.1) in
    absurd cc
nothing_named insn is e = refl

call_shaped : (insn : Insn) → IsInsn insn → is_call (use_of insn) ≡ true → CallsSo (shape_of insn)
call_shaped (insns.Iface index count) is e = (hows.Interface, refl)
call_shaped (insns.Pool op index) is e =
    let small : op < 256 = is.0 in
    pool_calls op small e
call_shaped insn is e = absurd cc

-- ---- constants

module _ (pool : List Const) (fits : FitsPool pool) where
  pub class_there : (i : ℕ) → names kinds.Class pool i ≡ true → (text : List ℕ) × (class_name_at pool i ≡ Some text)
  unfolding names class_name_at utf8_at
  class_there i e =
      let one = named_one kinds.Class (slice_get pool i) e in
      let class = is_class one.0 one.1.1 in
      let there : slice_get pool i ≡ Some (constants.Class class.0) = one.1.0 ∙ ap Some class.1 in
      let named : IsNamed pool (constants.Class class.0) = all_get (IsNamed pool) pool i (constants.Class class.0) fits.named there in
      let text = text_there (slice_get pool class.0) named in
      (text.0, ap (class_name_of pool) there ∙ text.1)

  member_desc : (class : Option (List ℕ)) (text : List ℕ) (member : Option (List ℕ × List ℕ)) → class ≡ Some text
      → option_map_or (λ (id : MethodId). id.desc) (member_id class member) [] ≡ option_map_or (λ (m : List ℕ × List ℕ). m.1) member []
  member_desc None text member e = absurd cc
  member_desc (Some class) text None e = refl
  member_desc (Some class) text (Some m) e = refl

  -- what a reference to a method tells is what its indices name
  method_told : (i class member : ℕ) → slice_get pool i ≡ Some (constants.Method class member) → option_map_or (λ (id : MethodId). id.desc) (reference_at pool i) [] ≡ (id_at pool class member).desc
  unfolding reference_at
  method_told i class member there =
      let named : IsNamed pool (constants.Method class member) = all_get (IsNamed pool) pool i (constants.Method class member) fits.named there in
      let text = class_there class named.0 in
      ap (λ (o : Option Const). option_map_or (λ (id : MethodId). id.desc) (reference_of pool o) []) there ∙ member_desc (class_name_at pool class) text.0 (name_and_type_at pool member) text.1

  interface_told : (i class member : ℕ) → slice_get pool i ≡ Some (constants.IMethod class member) → option_map_or (λ (id : MethodId). id.desc) (reference_at pool i) [] ≡ (id_at pool class member).desc
  unfolding reference_at
  interface_told i class member there =
      let named : IsNamed pool (constants.IMethod class member) = all_get (IsNamed pool) pool i (constants.IMethod class member) fits.named there in
      let text = class_there class named.0 in
      ap (λ (o : Option Const). option_map_or (λ (id : MethodId). id.desc) (reference_of pool o) []) there ∙ member_desc (class_name_at pool class) text.0 (name_and_type_at pool member) text.1

-- ---- classes and fields name no method

module _ (n : ℕ) where
  -- what links is no method of the listing
  abbrev Unlisted : Result Target OperandFault → Type 0
  Unlisted linked = (ref : Target) → linked ≡ Ok ref → IsUnlisted n ref

  ok_unlisted : (a : Target) → IsUnlisted n a → Unlisted (Ok a)
  ok_unlisted a e ref is = subst (IsUnlisted n) (ok_is OperandFault a ref is) e

  fault_unlisted : (fault : OperandFault) → Unlisted (Err fault)
  fault_unlisted fault ref is = absurd cc

  choice_unlisted : (b : Bool) (x y : Result Target OperandFault) → Unlisted x → Unlisted y → Unlisted (cond b x y)
  choice_unlisted true x y f g = f
  choice_unlisted false x y f g = g

  array_unlisted : (arrays : Bool) (known : List ℕ → Bool) (text : List ℕ) (t : Read FieldType) → Unlisted (array_linked arrays known text t)
  array_unlisted arrays known text (Err e) = fault_unlisted operand.Wrong
  array_unlisted arrays known text (Ok t) = choice_unlisted (arrays && element_is_known known t.element) _ _ (ok_unlisted (target.ClassName text) tt) (fault_unlisted (operand.Missing text))

  class_unlisted : (arrays : Bool) (known : List ℕ → Bool) (text : List ℕ) → Unlisted (class_linked arrays known text)
  class_unlisted arrays known text =
      choice_unlisted (is_array text) _ _ (array_unlisted arrays known text (whole_type text))
      (choice_unlisted (known text) _ _ (ok_unlisted (target.ClassName text) tt) (fault_unlisted (operand.Missing text)))

module _ (files : List ClassFile) (listing : Listing) where
  abbrev count : ℕ
  count = length files

  loaded_unlisted : (pool : List Const) (c : Const) → Unlisted count (loaded files listing pool c)
  loaded_unlisted pool (constants.Integer n) = ok_unlisted count _ tt
  loaded_unlisted pool (constants.Str text) = ok_unlisted count _ tt
  loaded_unlisted pool (constants.Class name) = class_unlisted count false (known_in files listing) (text_at pool name)
  loaded_unlisted pool c = fault_unlisted count operand.Wrong

  typed_unlisted : (arrays : Bool) (pool : List Const) (c : Const) → Unlisted count (typed files listing arrays pool c)
  typed_unlisted arrays pool (constants.Class name) = class_unlisted count arrays (known_in files listing) (text_at pool name)
  typed_unlisted arrays pool c = fault_unlisted count operand.Wrong

  field_unlisted : (static writes : Bool) (id : MethodId) → Unlisted count (field_linked files listing static writes id)
  field_unlisted static writes id ref e =
      let look = looked_up (is_ok (whole_type id.desc)) (field_of files listing id) (field_fits static writes) (operand.Missing id.name) ref e in
      subst (IsUnlisted count) look.is (field_found files listing id look.found look.there)

  field_used_unlisted : (static writes : Bool) (pool : List Const) (c : Const) → Unlisted count (field_used files listing static writes pool c)
  field_used_unlisted static writes pool (constants.Field class member) = field_unlisted static writes (id_at pool class member)
  field_used_unlisted static writes pool c = fault_unlisted count operand.Wrong

  -- ---- calls

  call_found : (static : Bool) (id : MethodId) (ref : Target) → call_linked files listing static id ≡ Ok ref → IsTold count listing.methods id.desc ref
  call_found static id ref e =
      let look = looked_up (is_ok (method_type id.desc)) (method_of files listing id) (λ found. beq found.is_static static) (operand.Missing id.name) ref e in
      subst (IsTold count listing.methods id.desc) look.is (method_found files listing id look.found look.there)

  -- a method of the listing is named by a call
  abbrev Calls : Use → Target → Type 0
  Calls purpose (target.ApiMethod index) = is_call purpose ≡ true
  Calls purpose other = ⊤

  unlisted_calls : (purpose : Use) (t : Target) → IsUnlisted count t → Calls purpose t
  unlisted_calls purpose (target.ApiMethod index) h = absurd h
  unlisted_calls purpose t h = tt

  call_calls : (purpose : Use) (t : Target) → is_call purpose ≡ true → Calls purpose t
  call_calls purpose (target.ApiMethod index) h = h
  call_calls purpose t h = tt

  module _ (pool : List Const) (fits : FitsPool pool) (i : ℕ) (ref : Target) where
    abbrev Tells : Type 0
    Tells = IsTold count listing.methods (option_map_or (λ (id : MethodId). id.desc) (reference_at pool i) []) ref

    called_method : (static : Bool) (class member : ℕ) → slice_get pool i ≡ Some (constants.Method class member) → call_linked files listing static (id_at pool class member) ≡ Ok ref → Tells
    called_method static class member there e =
        subst (λ (desc : List ℕ). IsTold count listing.methods desc ref) (sym (method_told pool fits i class member there)) (call_found static (id_at pool class member) ref e)

    called_interface : (static : Bool) (class member : ℕ) → slice_get pool i ≡ Some (constants.IMethod class member) → call_linked files listing static (id_at pool class member) ≡ Ok ref → Tells
    called_interface static class member there e =
        subst (λ (desc : List ℕ). IsTold count listing.methods desc ref) (sym (interface_told pool fits i class member there)) (call_found static (id_at pool class member) ref e)

    called_tells : (static of_interface : Bool) (c : Const) → slice_get pool i ≡ Some c → called files listing static of_interface pool c ≡ Ok ref → Tells
    called_tells static false (constants.Method class member) there e = called_method static class member there e
    called_tells static true (constants.IMethod class member) there e = called_interface static class member there e
    called_tells static of_interface c there e = absurd cc

    unlisted : (purpose : Use) → IsUnlisted count ref → Calls purpose ref × Tells
    unlisted purpose h = (unlisted_calls purpose ref h, unlisted_told count listing.methods _ ref h)

    used_tells : (purpose : Use) (c : Const) → slice_get pool i ≡ Some c → used files listing pool purpose c ≡ Ok ref → Calls purpose ref × Tells
    used_tells uses.Nothing c there e = unlisted uses.Nothing (ok_unlisted count target.None tt ref e)
    used_tells uses.Load c there e = unlisted uses.Load (loaded_unlisted pool c ref e)
    used_tells (uses.Field static writes) c there e = unlisted (uses.Field static writes) (field_used_unlisted static writes pool c ref e)
    used_tells (uses.Call static of_interface) c there e = (call_calls (uses.Call static of_interface) ref refl, called_tells static of_interface c there e)
    used_tells uses.New c there e = unlisted uses.New (typed_unlisted false pool c ref e)
    used_tells uses.Type c there e = unlisted uses.Type (typed_unlisted true pool c ref e)

  -- ---- an instruction

  module _ (program : Program) (listing_is : program.listing ≡ listing) (classes : length program.classes ≡ length files) where
    told_right : (class : LinkedClass) (insn : Insn) (ref : Target) → index_of insn < length class.file.pool → IsInsn insn → Calls (use_of insn) ref → IsTold count listing.methods (desc_told class insn) ref
        → IsRightOperand program class insn ref
    told_right class insn ref constant is calls tells = record {
      constant = constant;
      listed = λ index same.
          let named : is_call (use_of insn) ≡ true = subst (Calls (use_of insn)) same calls in
          let m : IsTold count listing.methods (desc_told class insn) (target.ApiMethod index) = subst (IsTold count listing.methods (desc_told class insn)) same tells in
          record { method = m.0; there = ap (λ (l : Listing). slice_get l.methods index) listing_is ∙ m.1.0; how = (call_shaped insn is named).0; calls = (call_shaped insn is named).1; desc = m.1.1 };
      field = λ of index same.
          let less : of < count = subst (IsTold count listing.methods (desc_told class insn)) same tells in
          omega (arith, less, classes);
    }

    pub operand_right : (class : LinkedClass) (insn : Insn) (ref : Target) → IsEncodable class.file → 0 < length class.file.pool → IsInsn insn → operand_linked files listing class.file.pool insn ≡ Ok ref
        → IsRightOperand program class insn ref
    operand_right class insn ref fits some is e = by (is_nothing (use_of insn)) refl e where
      by : (b : Bool) → is_nothing (use_of insn) ≡ b → cond b (Ok target.None) (ok_or (slice_get class.file.pool (index_of insn)) operand.Wrong >>= used files listing class.file.pool (use_of insn)) ≡ Ok ref → IsRightOperand program class insn ref
      by true none e =
          let zero_is : index_of insn ≡ 0 = nothing_named insn is none in
          let other : IsUnlisted count ref = ok_unlisted count target.None tt ref e in
          told_right class insn ref (subst (λ (k : ℕ). k < length class.file.pool) (sym zero_is) some) is (unlisted_calls (use_of insn) ref other) (unlisted_told count listing.methods _ ref other)
      by false some e =
          let c = bind_ok (ok_or (slice_get class.file.pool (index_of insn)) operand.Wrong) (used files listing class.file.pool (use_of insn)) ref e in
          let there : slice_get class.file.pool (index_of insn) ≡ Some c.0 = ok_or_ok (slice_get class.file.pool (index_of insn)) operand.Wrong c.0 c.1 in
          let tells = used_tells class.file.pool fits.pool (index_of insn) ref (use_of insn) c.0 there c.2 in
          told_right class insn ref (slice_get_within class.file.pool (index_of insn) c.0 there) is tells.0 tells.1
