-- An instruction in its place, and what its operand names. (docs/TYPING.md)
use Rattle.std.specs.Prelude.{ℕ, Bool, true, false, ◌==◌, bytes_eq, List, [], Option}
use Rattle.std.specs.Option.{option_map_or}
use Rattle.mon_base.specs.declared.method.MethodId.{MethodId}
use Rattle.class_codec.specs.Pool.{reference_at}
use Rattle.insn_codec.specs.declared.insn.Insn.{Insn}
use Rattle.insn_codec.specs.declared.shape.How.{How}
use Rattle.insn_codec.specs.declared.shape.How.TheVariants as hows
use Rattle.bytecode_model.specs.declared.program.LinkedClass.{LinkedClass}
use Rattle.bytecode_model.specs.declared.program.Method.{Method}
use Rattle.bytecode_model.specs.declared.program.Program.{Program}
use Rattle.bytecode_model.specs.declared.program.Target.{Target}
use Rattle.bytecode_model.specs.declared.program.Target.TheVariants as target
use Rattle.bytecode_model.specs.Heads.{maker}
use Rattle.bytecode_model.specs.Operands.{index_of}

-- the instruction `insn` at the index `at` of a method of the class with the index `own`; `ref` is what its operand names
pub record InsnPlace : Type 0 where
  pub program : Program
  pub own : ℕ
  pub class : LinkedClass
  pub method : Method
  pub at : ℕ
  pub insn : Insn
  pub ref : Target

-- ---- what the operand names

abbrev pub referred : InsnPlace → Option MethodId
referred place = reference_at place.class.file.pool (index_of place.insn)

-- the class, the name and the descriptor of the field or method that is referred to
abbrev pub class_referred : InsnPlace → List ℕ
class_referred place = option_map_or (λ (id : MethodId). id.class) (referred place) []

abbrev pub name_referred : InsnPlace → List ℕ
name_referred place = option_map_or (λ (id : MethodId). id.name) (referred place) []

abbrev pub desc_referred : InsnPlace → List ℕ
desc_referred place = option_map_or (λ (id : MethodId). id.desc) (referred place) []

-- what is named, where something is
abbrev pub target_or_none : Option Target → Target
target_or_none ref = option_map_or (λ (t : Target). t) ref target.None

-- the class or the array type that is named
abbrev pub class_of : Target → List ℕ
class_of (target.ClassName name) = name
class_of other = []

-- ---- calls and fields

-- whether a call has a receiver
abbrev pub has_receiver : How → Bool
has_receiver hows.Virtual = true
has_receiver hows.Special = true
has_receiver hows.Static = false
has_receiver hows.Interface = true

-- a call of the method that makes an object, by whatever opcode
abbrev pub calls_maker : InsnPlace → Bool
calls_maker place = bytes_eq (name_referred place) maker

-- a field that stands in the method's own class
abbrev pub is_own_field : ℕ → Target → Bool
is_own_field own (target.Field class field) = class == own
is_own_field own other = false

-- whether the method makes an object
abbrev pub is_maker : Method → Bool
is_maker method = bytes_eq method.name maker
