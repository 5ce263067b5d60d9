-- Frames in order: what an instruction does to a frame that may stand in the place of another. (docs/TYPING.md)
use Rattle.std.specs.Prelude.{◌≡◌, ℕ, ◌≤◌, not, Bool, true, IsTrue, List, length, None}
use Rattle.cert_format.specs.declared.typing.FrameType.{FrameType}
use Rattle.cert_format.specs.declared.typing.VType.{VType}
use Rattle.cert_format.specs.declared.typing.VType.TheVariants as types
use Rattle.insn_codec.specs.declared.shape.Heap.TheVariants as heap
use Rattle.insn_codec.specs.declared.shape.Shape.{Shape}
use Rattle.insn_codec.specs.declared.shape.Shape.TheVariants as shapes
use Rattle.insn_codec.specs.Shapes.{shape_of}
use Rattle.bytecode_model.specs.declared.program.Program.{Program}
use Rattle.bytecode_model.specs.Assigning.{assignable}
use Rattle.bytecode_model.specs.Order.{IsInOrder}
use Rattle.bytecode_model.specs.Makes.{type_at, local_after, stack_after}
use Rattle.bytecode_model.specs.InsnPlace.{InsnPlace}
use Rattle.bytecode_model.specs.Rules.{stack_fits, taken, Depth, Operand, Local, Made, has_object, leaves_made, goes_well, local_caught}
use Rattle.bytecode_model.specs.Wants.{takes}

-- ---- lists of types

-- Operand stacks of the same height, each operand assignable to the one in its place.
abbrev pub StackBelow : Program → List VType → List VType → Type 0
StackBelow program from to = stack_fits program from to ≡ true

-- Each local is assignable to the one in its place; one that is absent is Top.
abbrev pub LocalsBelow : Program → (ℕ → VType) → (ℕ → VType) → Type 0
LocalsBelow program from to = (j : ℕ) → assignable program (from j) (to j) ≡ true

-- The one frame may stand in the place of the other.
pub record IsFrameBelow (program : Program) (from to : FrameType) : Type 0 where
  pub stack : StackBelow program from.stack to.stack
  pub locals : LocalsBelow program (type_at from.locals) (type_at to.locals)

-- ---- the rules that ask nothing of other instructions

pub record IsAloneMet (place : InsnPlace) (frame : FrameType) : Type 0 where
  pub depth : IsTrue (Depth place frame)
  pub operand : IsTrue (Operand place frame)
  pub local : IsTrue (Local place frame)
  pub made : IsTrue (Made place frame)

-- Where a rule forbids an object that is not made yet, the frame has none.
abbrev pub is_settled_at : InsnPlace → FrameType → Shape → Bool
is_settled_at place frame (shapes.Heap heap.New) = not (has_object (types.Uninit place.at) frame.stack)
is_settled_at place frame (shapes.Heap (heap.Return None)) = leaves_made place frame
is_settled_at place frame other = true

abbrev pub is_settled : InsnPlace → FrameType → Bool
is_settled place frame = is_settled_at place frame (shape_of place.insn)

-- What meets these rules is met by each frame below it that has no such object and so many locals.
abbrev pub IsAloneKept : Type 0
IsAloneKept =
    (place : InsnPlace) → IsInOrder place.program → (low high : FrameType) → IsFrameBelow place.program low high → IsAloneMet place high
    → IsTrue (is_settled place low) → length low.locals ≤ place.method.max_locals → IsAloneMet place low

-- ---- what is left

-- What the instruction leaves of the lower frame may stand in the place of what it leaves of the higher one.
pub record IsLeftBelow (place : InsnPlace) (low high : FrameType) : Type 0 where
  pub stack : StackBelow place.program (stack_after place low.locals (length (takes place)) low.stack) (stack_after place high.locals (length (takes place)) high.stack)
  pub locals : LocalsBelow place.program (local_after place low.locals (taken place low)) (local_after place high.locals (taken place high))

abbrev pub IsLeftKept : Type 0
IsLeftKept =
    (place : InsnPlace) → IsInOrder place.program → (low high : FrameType) → IsFrameBelow place.program low high → IsAloneMet place high → IsLeftBelow place low high

-- Where the higher frame goes well, the lower one does.
abbrev pub GoesKept : Type 0
GoesKept =
    (place : InsnPlace) → IsInOrder place.program → (low high to : FrameType) → IsFrameBelow place.program low high → IsAloneMet place high
    → goes_well place high to ≡ true → goes_well place low to ≡ true

-- What is thrown of the lower frame is below what is thrown of the higher one.
abbrev pub IsThrownKept : Type 0
IsThrownKept =
    (place : InsnPlace) → IsInOrder place.program → (low high : FrameType) → IsFrameBelow place.program low high
    → LocalsBelow place.program (local_caught low.locals) (local_caught high.locals)

-- ---- the order

-- Frames are in order.
abbrev pub FrameIsBelowItself : Type 0
FrameIsBelowItself = (program : Program) (frame : FrameType) → IsFrameBelow program frame frame

abbrev pub FramesAreInOrder : Type 0
FramesAreInOrder =
    (program : Program) → IsInOrder program → (a b c : FrameType) → IsFrameBelow program a b → IsFrameBelow program b c → IsFrameBelow program a c
