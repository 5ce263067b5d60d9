-- How the shapes agree with the table of opcodes. (docs/INSTRUCTIONS.md)
use Rattle.std.specs.Prelude.{◌≡◌, ℕ, Bool, true, false, not, List, Contains}
use Rattle.insn_codec.specs.declared.insn.Insn.{Insn}
use Rattle.insn_codec.specs.declared.insn.Insn.TheVariants as insns
use Rattle.insn_codec.specs.Fits.{IsInsn}
use Rattle.insn_codec.specs.Opcodes.{is_frame_only, goes_on}
use Rattle.insn_codec.specs.Encoding.{opcode_of}
use Rattle.insn_codec.specs.declared.shape.Heap.TheVariants as heap
use Rattle.insn_codec.specs.declared.shape.Shape.{Shape}
use Rattle.insn_codec.specs.declared.shape.Shape.TheVariants as shapes
use Rattle.insn_codec.specs.Control.{View, next_of, successors}
use Rattle.insn_codec.specs.Shapes.{shape_of}
use Rattle.insn_codec.specs.declared.opcodes.TheConstants.{NOP}

abbrev pub is_heap : Shape → Bool
is_heap (shapes.Heap what) = true
is_heap other = false

-- Control goes elsewhere, or leaves the frame.
abbrev pub ends : Shape → Bool
ends (shapes.Goto to) = true
ends shapes.Switch = true
ends (shapes.Heap heap.Throw) = true
ends (shapes.Heap (heap.Return kind)) = true
ends other = false

-- The instructions that the table marks as working on their frame alone are those whose shape does.
abbrev pub MarkedAlike : Type 0
MarkedAlike = (insn : Insn) → IsInsn insn → is_frame_only (opcode_of insn) ≡ not (is_heap (shape_of insn))

-- Control can go on after those whose shape says so.
abbrev pub GoesOnAlike : Type 0
GoesOnAlike = (insn : Insn) → IsInsn insn → goes_on (opcode_of insn) ≡ not (ends (shape_of insn))

-- Only nop does nothing.
abbrev pub NopAlone : Type 0
NopAlone = (insn : Insn) → IsInsn insn → shape_of insn ≡ shapes.Nothing → insn ≡ insns.Plain NOP

-- Control goes to one of an instruction's successors.
abbrev pub GoesToSuccessor : {V : Type 0} → View V → Type 0
GoesToSuccessor {V = V} view =
    (insn : Insn) (at : ℕ) (stack : List V) → IsInsn insn → is_heap (shape_of insn) ≡ false → Contains (successors at insn) (next_of view insn at stack)
