-- The operands of a program that files link to.
use Rattle.std.proofs.Common.{◌≡◌, ℕ, suc, ◌+◌, ◌<◌, true, List, [], ◌∷◌, length, Option, Some, None, Result, Ok, Err, refl, sym, ap, subst, ◌∙◌, arith}
use Rattle.std.specs.Prelude.{slice_get, IfOk}
use Rattle.std.specs.List.{AllByRecursion}
use Rattle.std.proofs.lemmas.Option.{slice_get_within}
use Rattle.mon_base.specs.Answer.{Answers}
use Rattle.mon_base.proofs.Reading.{ok_is}
use Rattle.class_codec.specs.declared.pool.ConstKind.TheVariants as kinds
use Rattle.class_codec.specs.declared.tree.ClassFile.{ClassFile}
use Rattle.class_codec.specs.declared.tree.Code.{Code}
use Rattle.class_codec.specs.declared.tree.Const.{Const}
use Rattle.class_codec.specs.declared.tree.Member.{Member}
use Rattle.class_codec.specs.Pool.{names, is_one_of}
use Rattle.insn_codec.specs.declared.insn.Insn.{Insn}
use Rattle.insn_codec.specs.Fits.{IsInsn}
use Rattle.api_listing.specs.declared.types.Listing.{Listing}
use Rattle.class_linking.specs.declared.fault.LinkFault.{LinkFault}
use Rattle.class_linking.specs.declared.fault.LinkFault.TheVariants as faults
use Rattle.class_linking.specs.declared.operand_fault.OperandFault.{OperandFault}
use Rattle.bytecode_model.specs.declared.program.LinkedClass.{LinkedClass}
use Rattle.bytecode_model.specs.declared.program.Method.{Method}
use Rattle.bytecode_model.specs.declared.program.Program.{Program}
use Rattle.bytecode_model.specs.declared.program.Side.{Side}
use Rattle.bytecode_model.specs.declared.program.Target.{Target}
use Rattle.bytecode_model.specs.Conditions.{codes_of}
use Rattle.class_linking.specs.Fault.{Linked, linked_from}
use Rattle.bytecode_model.specs.Heads.{head_of}
use Rattle.class_linking.specs.Linking.{bare, with_code, code_linked, body_linked, method_linked, methods_linked, classes_with, assembled}
use Rattle.bytecode_model.specs.Operands.{literals_of}
use Rattle.class_linking.specs.Operands.{operand_linked, told_at, operand_at, operands_linked}
use Rattle.bytecode_model.specs.Sound.{IsSound, IsSoundClass, IsSoundMethod}
use Rattle.bytecode_model.proofs.Lists.{some_is, all_get}
use Rattle.class_linking.proofs.Loop.{both_linked, each_of, linked_at, same_length}
use Rattle.class_linking.proofs.Parts.{class_parts, code_parts, method_parts, program_with, program_parts}
use Rattle.bytecode_model.specs.Named.{AreRightOperands}
use Rattle.class_linking.specs.Laws.{LinkedOperandsAreRight}
use Rattle.class_linking.proofs.LinkedOperands.{operand_right}

module _ (files : List ClassFile) (listing : Listing) where
  -- ---- a method

  -- The operands of the method are those that its instructions link to.
  pub record HasOperands (pool : List Const) (method : Method) : Type 0 where
    pub class : List ℕ
    pub index : ℕ
    pub refs : operands_linked files listing class pool index method.insns ≡ Ok method.refs

  code_has : (file : ClassFile) (index : ℕ) (member : Member) (code : Code) (method : Method) → code_linked files listing file index member code ≡ Ok method → HasOperands file.pool method
  code_has file index member code method e =
      let parts = code_parts files listing file index member code method e in
      let made = with_code file member code parts.insns parts.refs parts.handlers in
      subst (HasOperands file.pool) {x = made} parts.is (record { class = (head_of file).name; index = index; refs = parts.operands })

  body_has : (file : ClassFile) (index : ℕ) (member : Member) (code : Option Code) (method : Method) → body_linked files listing file index member code ≡ Ok method → HasOperands file.pool method
  body_has file index member None method e =
      let is : bare file member ≡ method = ok_is LinkFault (bare file member) method e in
      subst (HasOperands file.pool) is (record { class = []; index = 0; refs = refl })
  body_has file index member (Some code) method e = code_has file index member code method e

  method_has : (file : ClassFile) (index : ℕ) (member : Member) (method : Method) → method_linked files listing file index member ≡ Ok method → HasOperands file.pool method
  method_has file index member method e = body_has file index member (slice_get (codes_of member) 0) method (method_parts files listing file index member method e).body

  -- ---- a class

  abbrev pub HaveOperands : LinkedClass → Type 0
  HaveOperands class = AllByRecursion (HasOperands class.file.pool) class.methods

  classes_have : (at : ℕ) (some : List ClassFile) (methods : List (List Method)) → linked_from (λ i. methods_linked files listing) at some ≡ Ok methods → AllByRecursion HaveOperands (classes_with some methods)
  classes_have at [] methods e = tt
  classes_have at (file ∷ some) [] e = tt
  classes_have at (file ∷ some) (first ∷ methods) e =
      let both = both_linked (λ i. methods_linked files listing) at file some first methods e in
      (each_of (method_linked files listing file) (HasOperands file.pool) (method_has file) 0 file.methods first (class_parts files listing file first both.0).each, classes_have (at + 1) some methods both.1)

  -- ---- an instruction

  untold : {X : Type 0} (class : List ℕ) (method at : ℕ) (r : Result X OperandFault) (x : X) → told_at class method at r ≡ Ok x → r ≡ Ok x
  untold class method at (Ok y) x e = cc
  untold class method at (Err fault) x e = absurd cc

  pub operand_is : (pool : List Const) (method : Method) (at : ℕ) (insn : Insn) (ref : Target) → HasOperands pool method → slice_get method.insns at ≡ Some insn → slice_get method.refs at ≡ Some ref
      → operand_linked files listing pool insn ≡ Ok ref
  operand_is pool method at insn ref has here there =
      let found = linked_at (operand_at files listing has.class pool has.index) 0 method.insns method.refs at insn has.refs here in
      let same : found.0 ≡ ref = some_is found.0 ref (sym found.1 ∙ there) in
      untold has.class has.index (0 + at) (operand_linked files listing pool insn) ref (found.2 ∙ ap Ok same)

some_constant : (pool : List Const) (index : ℕ) → names kinds.Class pool index ≡ true → 0 < length pool
unfolding names
some_constant pool index e = by pool (slice_get pool index) refl e where
  by : (pool : List Const) (o : Option Const) → slice_get pool index ≡ o → is_one_of kinds.Class o ≡ true → 0 < length pool
  by pool None is e = absurd cc
  by pool (Some c) is e =
      let within : index < length pool = slice_get_within pool index c is in
      omega (arith, within)

-- ---- the program

-- What linking tells of the operands of the program.
pub record IsLinked (files : List ClassFile) (listing : Listing) (program : Program) : Type 0 where
  pub listing_is : program.listing ≡ listing
  pub count : length program.classes ≡ length files
  pub classes : AllByRecursion (HaveOperands files listing) program.classes

-- A class for each file.
classes_many : (files : List ClassFile) (methods : List (List Method)) → length methods ≡ length files → length (classes_with files methods) ≡ length files
classes_many [] methods e = refl
classes_many (file ∷ files) [] e = absurd cc
classes_many (file ∷ files) (first ∷ methods) e = ap suc (classes_many files methods (omega (arith, e)))

pub is_linked : (files : List ClassFile) (listing : Listing) (main : List ℕ) (side : Side) (program : Program) → assembled files listing main side ≡ Ok program → IsLinked files listing program
is_linked files listing main side program e =
    let parts = program_parts files listing main side program e in
    let many : length parts.methods ≡ length files = same_length (λ at. methods_linked files listing) 0 files parts.methods parts.each in
    let whole : IsLinked files listing (program_with files listing parts.methods (literals_of files) parts.begin) = record {
      listing_is = refl;
      count = classes_many files parts.methods many;
      classes = classes_have files listing 0 files parts.methods parts.each;
    } in
    subst (IsLinked files listing) parts.is whole

operands_right : (files : List ClassFile) (listing : Listing) (program : Program) → IsLinked files listing program → IsSound program → AreRightOperands program
operands_right files listing program is sound own index at class method insn ref its_class its_method its_insn its_ref =
    let have : HaveOperands files listing class = all_get (HaveOperands files listing) program.classes own class is.classes its_class in
    let has : HasOperands files listing class.file.pool method = all_get (HasOperands files listing class.file.pool) class.methods index method have its_method in
    let sound_class : IsSoundClass class = all_get IsSoundClass program.classes own class sound.classes its_class in
    let sound_method : IsSoundMethod method = all_get IsSoundMethod class.methods index method sound_class.methods its_method in
    let good : IsInsn insn = all_get IsInsn method.insns at insn sound_method.insns its_insn in
    let some : 0 < length class.file.pool = some_constant class.file.pool class.file.this_class sound_class.fits.this_class.named in
    let links = operand_is files listing class.file.pool method at insn ref has its_insn its_ref in
    operand_right files listing program is.listing_is is.count class insn ref sound_class.fits some good links

pub all_right : LinkedOperandsAreRight
all_right files listing main side program e sound = operands_right files listing program (is_linked files listing main side program e) sound

-- the same of a call that answers what the files link to
pub known : (files : List ClassFile) (listing : Listing) (main : List ℕ) (side : Side) (answer : Linked Program)
    → Answers faults.Memory answer (assembled files listing main side) → IfOk answer IsSound → IfOk answer AreRightOperands
known files listing main side (Ok program) given sound = all_right files listing main side program given sound
known files listing main side (Err fault) given sound = tt
