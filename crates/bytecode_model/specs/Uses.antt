-- How instructions use constants, as their shapes tell it. (The Java Virtual Machine Specification, section 6.5.)
use Rattle.std.specs.Prelude.{◌≡◌, Bool, true, false, not}
use Rattle.insn_codec.specs.declared.insn.Insn.{Insn}
use Rattle.insn_codec.specs.declared.shape.Heap.{Heap}
use Rattle.insn_codec.specs.declared.shape.Heap.TheVariants as heap
use Rattle.insn_codec.specs.declared.shape.How.{How}
use Rattle.insn_codec.specs.declared.shape.How.TheVariants as hows
use Rattle.insn_codec.specs.declared.shape.Shape.{Shape}
use Rattle.insn_codec.specs.declared.shape.Shape.TheVariants as shapes
use Rattle.insn_codec.specs.Fits.{IsInsn}
use Rattle.insn_codec.specs.Shapes.{shape_of}
use Rattle.bytecode_model.specs.declared.operand.Use.{Use}
use Rattle.bytecode_model.specs.declared.operand.Use.TheVariants as uses
use Rattle.bytecode_model.specs.Operands.{use_of}
use Rattle.bytecode_model.specs.InsnPlace.{has_receiver}

-- whether a call refers to a method of an interface
abbrev pub calls_interface : How → Bool
calls_interface hows.Virtual = false
calls_interface hows.Special = false
calls_interface hows.Static = false
calls_interface hows.Interface = true

abbrev pub use_on_heap : Heap → Use
use_on_heap heap.Constant = uses.Load
use_on_heap (heap.ReadItem item) = uses.Nothing
use_on_heap (heap.WriteItem item) = uses.Nothing
use_on_heap (heap.Divide remainder) = uses.Nothing
use_on_heap heap.ReadStatic = uses.Field true false
use_on_heap heap.WriteStatic = uses.Field true true
use_on_heap heap.ReadField = uses.Field false false
use_on_heap heap.WriteField = uses.Field false true
use_on_heap (heap.Call how) = uses.Call (not (has_receiver how)) (calls_interface how)
use_on_heap heap.New = uses.New
use_on_heap (heap.NewArray kind) = uses.Nothing
use_on_heap heap.NewArrayOf = uses.Type
use_on_heap heap.Length = uses.Nothing
use_on_heap heap.Throw = uses.Nothing
use_on_heap heap.Cast = uses.Type
use_on_heap heap.IsInstance = uses.Type
use_on_heap heap.Enter = uses.Nothing
use_on_heap heap.Exit = uses.Nothing
use_on_heap (heap.Return kind) = uses.Nothing

-- how an instruction of this shape uses the constant that it names
abbrev pub use_shaped : Shape → Use
use_shaped shapes.Nothing = uses.Nothing
use_shaped (shapes.Push n) = uses.Nothing
use_shaped shapes.PushNull = uses.Nothing
use_shaped (shapes.Load kind slot) = uses.Nothing
use_shaped (shapes.Store kind slot) = uses.Nothing
use_shaped (shapes.Move form) = uses.Nothing
use_shaped (shapes.Two op) = uses.Nothing
use_shaped (shapes.One op) = uses.Nothing
use_shaped (shapes.Increment slot by) = uses.Nothing
use_shaped (shapes.Test relation to) = uses.Nothing
use_shaped (shapes.Compare relation to) = uses.Nothing
use_shaped (shapes.CompareReferences same to) = uses.Nothing
use_shaped (shapes.TestNull null to) = uses.Nothing
use_shaped (shapes.Goto to) = uses.Nothing
use_shaped shapes.Switch = uses.Nothing
use_shaped (shapes.Heap what) = use_on_heap what

-- Each instruction uses its constant as its shape tells.
abbrev pub UsesAreShaped : Type 0
UsesAreShaped = (insn : Insn) → IsInsn insn → use_of insn ≡ use_shaped (shape_of insn)
