-- What an instruction's operand names. (The Java Virtual Machine Specification, sections 4.4, 5.4.3 and 6.5.)
use Rattle.std.specs.Prelude.{ℕ, Bool, true, false, not, ◌&&◌, if◌then◌else◌, List, slice_get, ok_or, Result, Ok, Err, is_ok}
use Rattle.std.specs.Bool.{beq}
use Rattle.mon_base.specs.Reading.{◌>>=◌, need}
use Rattle.mon_base.specs.declared.method.MethodId.{MethodId}
use Rattle.class_codec.specs.declared.tree.Const.{Const}
use Rattle.class_codec.specs.declared.tree.Const.TheVariants as constants
use Rattle.class_codec.specs.declared.tree.ClassFile.{ClassFile}
use Rattle.insn_codec.specs.declared.insn.Insn.{Insn}
use Rattle.api_listing.specs.declared.descriptor.FieldType.{FieldType}
use Rattle.api_listing.specs.declared.types.Listing.{Listing}
use Rattle.api_listing.specs.Descriptor.{method_type, whole_type}
use Rattle.api_listing.specs.Fault.{Read}
use Rattle.class_linking.specs.declared.fault.LinkFault.{LinkFault}
use Rattle.class_linking.specs.declared.fault.LinkFault.TheVariants as faults
use Rattle.class_linking.specs.declared.operand_fault.OperandFault.{OperandFault}
use Rattle.class_linking.specs.declared.operand_fault.OperandFault.TheVariants as operand
use Rattle.bytecode_model.specs.declared.operand.Use.{Use}
use Rattle.bytecode_model.specs.declared.operand.Use.TheVariants as uses
use Rattle.bytecode_model.specs.declared.program.Target.{Target}
use Rattle.bytecode_model.specs.declared.program.Target.TheVariants as target
use Rattle.class_linking.specs.Fault.{Linked, linked_from}
use Rattle.bytecode_model.specs.Heads.{text_at}
use Rattle.bytecode_model.specs.SearchOrder.{Name}
use Rattle.bytecode_model.specs.declared.members.Found.{Found}
use Rattle.bytecode_model.specs.Members.{method_of, field_of}
use Rattle.bytecode_model.specs.Arrays.{is_array}
use Rattle.bytecode_model.specs.Operands.{use_of, index_of, literals_of, place_of, element_is_known, is_api_field, id_at, known_in}

-- ---- classes

-- The name of a class, or the descriptor of an array where one may stand, whose class is known.
abbrev pub array_linked : Bool → (Name → Bool) → List ℕ → Read FieldType → Result Target OperandFault
array_linked arrays known text (Err e) = Err operand.Wrong
array_linked arrays known text (Ok t) =
    if arrays && element_is_known known t.element then Ok (target.ClassName text) else Err (operand.Missing text)

abbrev pub class_linked : Bool → (Name → Bool) → List ℕ → Result Target OperandFault
class_linked arrays known text =
    if is_array text then array_linked arrays known text (whole_type text)
    else if known text then Ok (target.ClassName text)
    else Err (operand.Missing text)

-- ---- fields and methods

-- A field is static where its instruction says so, and one of the library is not written.
abbrev pub field_fits : Bool → Bool → Found → Bool
field_fits static writes found = beq found.is_static static && not (writes && is_api_field found.target)

abbrev pub field_linked : List ClassFile → Listing → Bool → Bool → MethodId → Result Target OperandFault
field_linked files listing static writes id = do
  described ← need (is_ok (whole_type id.desc)) operand.Wrong
  found ← ok_or (field_of files listing id) (operand.Missing id.name)
  fits ← need (field_fits static writes found) (operand.Missing id.name)
  Ok found.target

abbrev pub call_linked : List ClassFile → Listing → Bool → MethodId → Result Target OperandFault
call_linked files listing static id = do
  described ← need (is_ok (method_type id.desc)) operand.Wrong
  found ← ok_or (method_of files listing id) (operand.Missing id.name)
  fits ← need (beq found.is_static static) (operand.Missing id.name)
  Ok found.target

-- ---- the constant that an instruction names

abbrev pub loaded : List ClassFile → Listing → List Const → Const → Result Target OperandFault
loaded files listing pool (constants.Integer n) = Ok (target.Number n)
loaded files listing pool (constants.Str text) = Ok (target.Literal (place_of (literals_of files) (text_at pool text)))
loaded files listing pool (constants.Class name) = class_linked false (known_in files listing) (text_at pool name)
loaded files listing pool other = Err operand.Wrong

abbrev pub typed : List ClassFile → Listing → Bool → List Const → Const → Result Target OperandFault
typed files listing arrays pool (constants.Class name) = class_linked arrays (known_in files listing) (text_at pool name)
typed files listing arrays pool other = Err operand.Wrong

abbrev pub field_used : List ClassFile → Listing → Bool → Bool → List Const → Const → Result Target OperandFault
field_used files listing static writes pool (constants.Field class member) = field_linked files listing static writes (id_at pool class member)
field_used files listing static writes pool other = Err operand.Wrong

-- A method of a class is called by its reference, and one of an interface by that of an interface.
abbrev pub called : List ClassFile → Listing → Bool → Bool → List Const → Const → Result Target OperandFault
called files listing static false pool (constants.Method class member) = call_linked files listing static (id_at pool class member)
called files listing static true pool (constants.IMethod class member) = call_linked files listing static (id_at pool class member)
called files listing static of_interface pool other = Err operand.Wrong

abbrev pub used : List ClassFile → Listing → List Const → Use → Const → Result Target OperandFault
used files listing pool uses.Nothing constant = Ok target.None
used files listing pool uses.Load constant = loaded files listing pool constant
used files listing pool (uses.Field static writes) constant = field_used files listing static writes pool constant
used files listing pool (uses.Call static of_interface) constant = called files listing static of_interface pool constant
used files listing pool uses.New constant = typed files listing false pool constant
used files listing pool uses.Type constant = typed files listing true pool constant

abbrev pub is_nothing : Use → Bool
is_nothing uses.Nothing = true
is_nothing other = false

-- what the constant of this index names, where it is used so
abbrev pub used_at : List ClassFile → Listing → List Const → Use → ℕ → Result Target OperandFault
used_at files listing pool how index = ok_or (slice_get pool index) operand.Wrong >>= used files listing pool how

-- what the operand of an instruction names, in code of a class with this constant pool
abbrev pub operand_linked : List ClassFile → Listing → List Const → Insn → Result Target OperandFault
operand_linked files listing pool insn =
    if is_nothing (use_of insn) then Ok target.None
    else used_at files listing pool (use_of insn) (index_of insn)

-- An operand that its instruction does not take is told by its place, and one that has no target by its name.
abbrev pub operand_fault_told : List ℕ → ℕ → ℕ → OperandFault → LinkFault
operand_fault_told class method at operand.Wrong = faults.Operand class method at
operand_fault_told class method at (operand.Missing name) = faults.Unresolved class name
operand_fault_told class method at operand.Memory = faults.Memory

abbrev pub told_at : {X : Type 0} → List ℕ → ℕ → ℕ → Result X OperandFault → Linked X
told_at class method at (Ok x) = Ok x
told_at class method at (Err fault) = Err (operand_fault_told class method at fault)

-- the operand of the instruction of this index
abbrev pub operand_at : List ClassFile → Listing → List ℕ → List Const → ℕ → ℕ → Insn → Linked Target
operand_at files listing class pool method at insn = told_at class method at (operand_linked files listing pool insn)

-- the operands of the instructions of a method
abbrev pub operands_linked : List ClassFile → Listing → List ℕ → List Const → ℕ → List Insn → Linked (List Target)
operands_linked files listing class pool method insns = linked_from (operand_at files listing class pool method) 0 insns
