-- Where a frame stands in a program. (docs/MACHINE.md)
use Rattle.std.specs.Prelude.{ℕ, bytes_eq, List, Option, option_map, option_and_then, slice_get}
use Rattle.std.specs.List.{position_from}
use Rattle.api_listing.specs.declared.types.ListedClass.{ListedClass}
use Rattle.insn_codec.specs.declared.insn.Insn.{Insn}
use Rattle.bytecode_model.specs.declared.program.LinkedClass.{LinkedClass}
use Rattle.bytecode_model.specs.declared.program.Method.{Method}
use Rattle.bytecode_model.specs.declared.program.Program.{Program}
use Rattle.bytecode_model.specs.declared.program.Target.{Target}
use Rattle.bytecode_model.specs.Classes.{classes_of}
use Rattle.guest_heap.specs.declared.frame.Frame.{Frame}

-- ---- classes

-- the index of a class among those of the listing and the given ones
abbrev pub class_index : Program → List ℕ → Option ℕ
class_index program name = position_from (λ (c : ListedClass). bytes_eq c.name name) 0 (classes_of program)

-- ---- methods and instructions

abbrev pub method_at : Program → ℕ → ℕ → Option Method
method_at program class method = option_and_then (λ (c : LinkedClass). slice_get c.methods method) (slice_get program.classes class)

-- an instruction of a method, and what its operand names
abbrev pub insn_in : Method → ℕ → Option (Insn × Target)
insn_in method at = option_and_then (λ (insn : Insn). option_map (λ (ref : Target). (insn, ref)) (slice_get method.refs at)) (slice_get method.insns at)

-- the instruction that comes next in a frame
abbrev pub insn_at : Program → Frame → Option (Insn × Target)
insn_at program frame = option_and_then (λ (method : Method). insn_in method frame.at) (method_at program frame.class frame.method)
