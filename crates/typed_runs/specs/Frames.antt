-- What it is for a frame to be as its typing says: where it stands, what its locals and operands hold, and what it waits for.
-- (docs/PROMISES.md)
use Rattle.std.specs.Prelude.{◌≡◌, ◌≤◌, List, [], ◌∷◌, length, reverse, slice_get, Option, Some}
use Rattle.cert_format.specs.declared.typing.FrameType.{FrameType}
use Rattle.cert_format.specs.declared.typing.Typing.{Typing}
use Rattle.cert_format.specs.declared.typing.VType.{VType}
use Rattle.insn_codec.specs.declared.insn.Insn.{Insn}
use Rattle.insn_codec.specs.declared.shape.Heap.TheVariants as heap_shapes
use Rattle.insn_codec.specs.declared.shape.How.{How}
use Rattle.insn_codec.specs.declared.shape.Shape.TheVariants as shapes
use Rattle.insn_codec.specs.Following.{Paired}
use Rattle.insn_codec.specs.Shapes.{shape_of}
use Rattle.bytecode_model.specs.declared.program.LinkedClass.{LinkedClass}
use Rattle.bytecode_model.specs.declared.program.Method.{Method}
use Rattle.bytecode_model.specs.declared.program.Program.{Program}
use Rattle.bytecode_model.specs.Described.{result_type}
use Rattle.bytecode_model.specs.Makes.{below, type_at}
use Rattle.bytecode_model.specs.InsnPlace.{InsnPlace, desc_referred}
use Rattle.bytecode_model.specs.Rules.{frame_of}
use Rattle.bytecode_model.specs.Typed.{frames_in, frames_told, place_at}
use Rattle.bytecode_model.specs.Wants.{takes}
use Rattle.frame_types.specs.Moving.{padded}
use Rattle.guest_heap.specs.declared.frame.Frame.{Frame}
use Rattle.guest_heap.specs.declared.object.Object.{Object}
use Rattle.typed_runs.specs.Fitting.{fits_type}

-- The frame stands at an instruction that the typing tells a frame type of.
pub record Stands (program : Program) (typing : Typing) (frame : Frame) : Type 0 where
  pub class : LinkedClass
  pub method : Method
  pub insn : Insn
  pub type : FrameType
  pub there : slice_get program.classes frame.class ≡ Some class
  pub here : slice_get class.methods frame.method ≡ Some method
  pub next : slice_get method.insns frame.at ≡ Some insn
  pub told : frame_of (frames_in class.methods (frames_told typing frame.class) frame.method) frame.at ≡ Some type
  pub size : frame.stack.size ≡ method.max_stack

-- its instruction in its place
abbrev pub stands_at : {program : Program} {typing : Typing} {frame : Frame} → Stands program typing frame → InsnPlace
stands_at {program = program} {frame = frame} s = place_at program frame.class s.class s.method frame.at s.insn

-- Each local is of its type. A frame has as many as its method says.
abbrev pub LocalsFit : (program : Program) (typing : Typing) (heap : List Object) (frame : Frame) → Stands program typing frame → Type 0
LocalsFit program typing heap frame s =
    Paired (fits_type program heap s.class s.method) frame.locals (padded s.method.max_locals (type_at s.type.locals))

-- The operands are of these types, which stand from the bottom.
abbrev pub OperandsFit : (program : Program) (typing : Typing) (heap : List Object) (frame : Frame) → Stands program typing frame → List VType → Type 0
OperandsFit program typing heap frame s types = Paired (fits_type program heap s.class s.method) frame.stack.items (reverse types)

-- The frame is ready for its next instruction, and its operands are at most the stack's size.
pub record IsReady (program : Program) (typing : Typing) (heap : List Object) (frame : Frame) : Type 0 where
  pub stands : Stands program typing frame
  pub locals : LocalsFit program typing heap frame stands
  pub operands : OperandsFit program typing heap frame stands stands.type.stack
  pub room : length frame.stack.items ≤ frame.stack.size

-- The frame waits at a call for such a result, without what the call passed.
pub record IsWaiting (program : Program) (typing : Typing) (heap : List Object) (result : Option VType) (frame : Frame) : Type 0 where
  pub stands : Stands program typing frame
  pub how : How
  pub calls : shape_of stands.insn ≡ shapes.Heap (heap_shapes.Call how)
  pub gives : result_type (desc_referred (stands_at stands)) ≡ result
  pub locals : LocalsFit program typing heap frame stands
  pub operands : OperandsFit program typing heap frame stands (below (length (takes (stands_at stands))) stands.type.stack)

-- Each frame waits for the result of the method of the frame above it, and the first for this one.
abbrev pub AreWaiting : Program → Typing → List Object → Option VType → List Frame → Type 0
AreWaiting program typing heap result [] = Unit {0}
AreWaiting program typing heap result (frame ∷ below) =
    (w : IsWaiting program typing heap result frame) × AreWaiting program typing heap (result_type w.stands.method.desc) below

-- The top frame is ready, and those below wait.
abbrev pub AreRunning : Program → Typing → List Object → List Frame → Type 0
AreRunning program typing heap [] = ⊥
AreRunning program typing heap (frame ∷ below) =
    (r : IsReady program typing heap frame) × AreWaiting program typing heap (result_type r.stands.method.desc) below
