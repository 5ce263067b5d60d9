-- How instructions use constants, and what constants tell. (The Java Virtual Machine Specification, sections 4.4 and 6.5.)
use Rattle.std.specs.Prelude.{ℕ, Bool, true, false, ◌==◌, ◌||◌, bytes_eq, if◌then◌else◌, List, [], Option, None}
use Rattle.std.specs.List.{flat_map, filter_map, fold, position_from}
use Rattle.std.specs.Option.{option_map_or}
use Rattle.mon_base.specs.declared.method.MethodId.{MethodId}
use Rattle.class_codec.specs.declared.tree.Const.{Const}
use Rattle.class_codec.specs.declared.tree.Const.TheVariants as constants
use Rattle.class_codec.specs.declared.tree.ClassFile.{ClassFile}
use Rattle.class_codec.specs.Pool.{utf8_at, name_and_type_at}
use Rattle.insn_codec.specs.declared.insn.Insn.{Insn}
use Rattle.insn_codec.specs.declared.insn.Insn.TheVariants as insns
use Rattle.api_listing.specs.declared.descriptor.Element.{Element}
use Rattle.api_listing.specs.declared.descriptor.Element.TheVariants as elements
use Rattle.api_listing.specs.declared.types.Listing.{Listing}
use Rattle.api_listing.specs.Listing.{is_known}
use Rattle.bytecode_model.specs.declared.operand.Use.{Use}
use Rattle.bytecode_model.specs.declared.operand.Use.TheVariants as uses
use Rattle.bytecode_model.specs.declared.program.Target.{Target}
use Rattle.bytecode_model.specs.declared.program.Target.TheVariants as target
use Rattle.bytecode_model.specs.Heads.{all_classes, class_at}
use Rattle.bytecode_model.specs.SearchOrder.{Name, with_name}
use Rattle.insn_codec.specs.declared.opcodes.TheConstants.{
  LDC_W,
  GETSTATIC,
  PUTSTATIC,
  GETFIELD,
  PUTFIELD,
  INVOKEVIRTUAL,
  INVOKESPECIAL,
  INVOKESTATIC,
  NEW,
  ANEWARRAY,
  CHECKCAST,
  INSTANCEOF,
}

-- ---- how instructions use constants

abbrev pub use_of_opcode : ℕ → Use
use_of_opcode op =
    if op == LDC_W then uses.Load
    else if op == GETSTATIC then uses.Field true false
    else if op == PUTSTATIC then uses.Field true true
    else if op == GETFIELD then uses.Field false false
    else if op == PUTFIELD then uses.Field false true
    else if (op == INVOKEVIRTUAL) || (op == INVOKESPECIAL) then uses.Call false false
    else if op == INVOKESTATIC then uses.Call true false
    else if op == NEW then uses.New
    else if (op == ANEWARRAY) || ((op == CHECKCAST) || (op == INSTANCEOF)) then uses.Type
    else uses.Nothing

abbrev pub use_of : Insn → Use
use_of (insns.Ldc index) = uses.Load
use_of (insns.Iface index count) = uses.Call false true
use_of (insns.Pool op index) = use_of_opcode op
use_of other = uses.Nothing

-- the index of the constant that an instruction names, or 0, which names none
abbrev pub index_of : Insn → ℕ
index_of (insns.Ldc index) = index
index_of (insns.Iface index count) = index
index_of (insns.Pool op index) = index
index_of other = 0

-- ---- literals

abbrev pub text_of_string : List Const → Const → Option (List ℕ)
text_of_string pool (constants.Str text) = utf8_at pool text
text_of_string pool other = None

abbrev pub strings_in : ClassFile → List (List ℕ)
strings_in file = filter_map (text_of_string file.pool) file.pool

-- the texts of the string constants of the classes, each once, in order
abbrev pub literals_of : List ClassFile → List (List ℕ)
literals_of files = fold with_name [] (flat_map strings_in files)

-- the place of a text among them
abbrev pub place_of : List Name → Name → ℕ
place_of names name = option_map_or (λ (i : ℕ). i) (position_from (λ other. bytes_eq other name) 0 names) 0

-- ---- classes

abbrev pub element_is_known : (Name → Bool) → Element → Bool
element_is_known known (elements.Class name) = known name
element_is_known known other = true

-- ---- fields and methods

abbrev pub is_api_field : Target → Bool
is_api_field (target.ApiField index) = true
is_api_field other = false

-- what a reference tells, whose indices name what they should
abbrev pub id_at : List Const → ℕ → ℕ → MethodId
id_at pool class member = record {
  class = class_at pool class;
  name = option_map_or (λ (m : List ℕ × List ℕ). m.0) (name_and_type_at pool member) [];
  desc = option_map_or (λ (m : List ℕ × List ℕ). m.1) (name_and_type_at pool member) [];
}

-- ---- names of classes

abbrev pub known_in : List ClassFile → Listing → Name → Bool
known_in files listing name = is_known (all_classes listing files) name
