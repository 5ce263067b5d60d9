-- What holds of the frames that are found while the types of a method are looked for. (docs/TYPING.md)
use Rattle.std.specs.Prelude.{◌≡◌, ◌⊎◌, ℕ, ◌+◌, ◌<◌, ◌≤◌, Bool, true, false, if◌then◌else◌, IsTrue, Contains, List, [], ◌∷◌, length, drop, set, ⊤, Option, Some, None, option_map, slice_get}
use Rattle.std.specs.Option.{option_map_or, option_or}
use Rattle.cert_format.specs.declared.typing.FrameType.{FrameType}
use Rattle.cert_format.specs.declared.typing.VType.{VType}
use Rattle.cert_format.specs.declared.typing.VType.TheVariants as types
use Rattle.insn_codec.specs.declared.insn.Insn.{Insn}
use Rattle.insn_codec.specs.Opcodes.{goes_on}
use Rattle.insn_codec.specs.Encoding.{opcode_of}
use Rattle.insn_codec.specs.declared.shape.Heap.TheVariants as heap
use Rattle.insn_codec.specs.declared.shape.Shape.{Shape}
use Rattle.insn_codec.specs.declared.shape.Shape.TheVariants as shapes
use Rattle.insn_codec.specs.Control.{successors}
use Rattle.bytecode_model.specs.declared.program.Handler.{Handler}
use Rattle.bytecode_model.specs.declared.program.LinkedClass.{LinkedClass}
use Rattle.bytecode_model.specs.declared.program.Method.{Method}
use Rattle.bytecode_model.specs.declared.program.Program.{Program}
use Rattle.bytecode_model.specs.Sound.{IsSoundMethod}
use Rattle.bytecode_model.specs.Order.{IsInOrder}
use Rattle.bytecode_model.specs.Makes.{type_at, is_same_object, local_after, stack_after}
use Rattle.code_typing.specs.Order.{StackBelow, LocalsBelow, IsFrameBelow, is_settled}
use Rattle.bytecode_model.specs.InsnPlace.{InsnPlace, is_maker}
use Rattle.bytecode_model.specs.Rules.{Frames, frame_of, taken, entry_locals, covers, class_caught, local_caught}
use Rattle.bytecode_model.specs.Layout.{has_code}
use Rattle.bytecode_model.specs.Typed.{row_in, place_at, list_at}
use Rattle.bytecode_model.specs.Wants.{takes}
use Rattle.type_infer.specs.Untyped.{AreMet}

-- ---- where, and how far

-- The method whose types are looked for.
pub record Scope : Type 0 where
  pub program : Program
  pub own : ℕ
  pub class : LinkedClass
  pub method : Method

-- Its instruction of this index.
abbrev pub place_of : Scope → ℕ → Option InsnPlace
place_of scope at = option_map (λ (insn : Insn). place_at scope.program scope.own scope.class scope.method at insn) (slice_get scope.method.insns at)

-- The frames found so far, and for each instruction whether it is to be looked at.
pub record State : Type 0 where
  pub frames : Frames
  pub marks : List Bool

abbrev pub is_marked : List Bool → ℕ → Bool
is_marked marks at = option_map_or (λ (marked : Bool). marked) (slice_get marks at) false

-- A frame, if there is one, is put before an instruction, which is then to be looked at.
abbrev pub put : State → ℕ → Option FrameType → State
put state at None = state
put state at (Some frame) = record { frames = set state.frames at (Some frame); marks = set state.marks at true }

-- The instruction is looked at.
abbrev pub unmarked : State → ℕ → State
unmarked state at = record { frames = state.frames; marks = set state.marks at false }

-- ---- frames that come together

-- Top for the object.
abbrev pub unless : VType → VType → VType
unless object t = if is_same_object object t then types.Top else t

-- What a local, and what an operand, is before an instruction that may not find an object that is not made yet.
abbrev pub local_settled : InsnPlace → Shape → VType → VType
local_settled place (shapes.Heap (heap.Return None)) t = if is_maker place.method then unless types.UninitThis t else t
local_settled place other t = t

abbrev pub operand_settled : InsnPlace → Shape → VType → VType
operand_settled place (shapes.Heap heap.New) t = unless (types.Uninit place.at) t
operand_settled place (shapes.Heap (heap.Return None)) t = if is_maker place.method then unless types.UninitThis t else t
operand_settled place other t = t

-- Locals and operands that come to an instruction.
pub record Left : Type 0 where
  pub locals : ℕ → VType
  pub operands : List VType

-- They may stand in the place of the frame.
pub record AreBelow (program : Program) (left : Left) (to : FrameType) : Type 0 where
  pub operands : StackBelow program left.operands to.stack
  pub locals : LocalsBelow program left.locals (type_at to.locals)

-- A frame that stands there may stand in the place of this one.
abbrev pub OldIsBelow : Program → Option FrameType → FrameType → Type 0
OldIsBelow program old to = (frame : FrameType) → old ≡ Some frame → IsFrameBelow program frame to

-- The least frame above both what stands there and what comes, where some objects pass as Top alone.
pub record IsRaised (place : InsnPlace) (old : Option FrameType) (left : Left) (now : FrameType) : Type 0 where
  pub came : AreBelow place.program left now
  pub kept : OldIsBelow place.program old now
  pub least : (high : FrameType) → IsTrue (is_settled place high) → AreBelow place.program left high → OldIsBelow place.program old high → IsFrameBelow place.program now high
  pub settled : ((frame : FrameType) → old ≡ Some frame → IsTrue (is_settled place frame)) → IsTrue (is_settled place now)
  pub within : ((frame : FrameType) → old ≡ Some frame → length frame.locals ≤ place.method.max_locals) → length now.locals ≤ place.method.max_locals

-- Such a frame is the one that is told, or it stands there and none is told.
abbrev pub IsRaisedBy : InsnPlace → Option FrameType → Left → Option FrameType → Type 0
IsRaisedBy place old left told = (now : FrameType) × ((option_or told old ≡ Some now) × IsRaised place old left now)

-- What is told, the frame that stands there is below.
abbrev pub IsKept : Program → Option FrameType → Option FrameType → Type 0
IsKept program old told = (frame : FrameType) → told ≡ Some frame → OldIsBelow program old frame

-- What is left of a frame that is told: none where it may stand in the place of the old one.
abbrev pub IsUnlessBelow : Program → FrameType → Option FrameType → Option FrameType → Type 0
IsUnlessBelow program old told left = (left ≡ told) ⊎ ((left ≡ None) × ((frame : FrameType) × ((told ≡ Some frame) × IsFrameBelow program frame old)))

-- What stands there has so many operands.
abbrev pub IsOfHeight : Option FrameType → ℕ → Type 0
IsOfHeight old n = (frame : FrameType) → old ≡ Some frame → length frame.stack ≡ n

-- ---- what flows

-- What an instruction leaves for the next, what it throws to a handler, and what a method begins with.
abbrev pub left_by : InsnPlace → FrameType → Left
left_by place frame = record {
  locals = local_after place frame.locals (taken place frame);
  operands = stack_after place frame.locals (length (takes place)) frame.stack;
}

abbrev pub thrown_to : Handler → InsnPlace → FrameType → Left
thrown_to handler place frame = record { locals = local_caught frame.locals; operands = types.Ref (class_caught handler) ∷ [] }

abbrev pub begun : InsnPlace → Left
begun place = record { locals = type_at (entry_locals place); operands = [] }

-- The next instruction, where control can go on to it.
abbrev pub next_of : ℕ → Insn → List ℕ
next_of at insn = if goes_on (opcode_of insn) then (at + 1) ∷ [] else []

-- It has come to this instruction.
pub record HasCome (program : Program) (frames : Frames) (to : ℕ) (left : Left) : Type 0 where
  pub frame : FrameType
  pub there : frame_of frames to ≡ Some frame
  pub below : AreBelow program left frame

-- What an instruction leaves has come to another, or the instruction is to be looked at again.
abbrev pub HasGone : Scope → State → ℕ → ℕ → (InsnPlace → FrameType → Left) → Type 0
HasGone scope state at to left =
    is_marked state.marks at ≡ false → (place : InsnPlace) (frame : FrameType) → place_of scope at ≡ Some place → frame_of state.frames at ≡ Some frame
    → HasCome scope.program state.frames to (left place frame)

-- All that it leaves and throws has.
pub record IsDone (scope : Scope) (state : State) (at : ℕ) : Type 0 where
  pub goes : (place : InsnPlace) → place_of scope at ≡ Some place → (to : ℕ) → Contains (successors at place.insn) to → HasGone scope state at to left_by
  pub throws : (handler : Handler) → Contains scope.method.handlers handler → IsTrue (covers at handler) → HasGone scope state at handler.at (thrown_to handler)

-- ---- below other frames

-- The classes are in order, and control stays in the code.
pub record IsReady (scope : Scope) : Type 0 where
  pub order : IsInOrder scope.program
  pub sound : IsSoundMethod scope.method

-- The rules are met at this instruction by these frames.
abbrev pub RowIsMet : Scope → Frames → ℕ → Type 0
RowIsMet scope above at = row_in scope.program scope.own scope.class scope.method above at ≡ None

-- The rules are met at the first `limit` instructions.
pub record IsMetBy (scope : Scope) (limit : ℕ) (above : Frames) : Type 0 where
  pub ready : IsReady scope
  pub some : 0 < limit
  pub met : AreMet scope.program scope.own scope.class scope.method limit above

-- A frame that is found is below each one that has no object where a rule forbids it and is above the one there.
pub record IsFound (scope : Scope) (above : Frames) (at : ℕ) (low : FrameType) : Type 0 where
  pub place : InsnPlace
  pub placed : place_of scope at ≡ Some place
  pub high : FrameType
  pub there : frame_of above at ≡ Some high
  pub height : length low.stack ≡ length high.stack
  pub below : (settled : FrameType) → IsFrameBelow scope.program high settled → IsTrue (is_settled place settled) → IsFrameBelow scope.program low settled
  pub settled : IsTrue (is_settled place low)
  pub within : length low.locals ≤ scope.method.max_locals

pub record AreFound (scope : Scope) (above : Frames) (state : State) : Type 0 where
  pub frames : length state.frames ≡ length scope.method.insns
  pub marks : length state.marks ≡ length scope.method.insns
  pub found : (at : ℕ) (low : FrameType) → frame_of state.frames at ≡ Some low → IsFound scope above at low

-- ---- steps

-- Frames are raised alone, and where one is the instruction is to be looked at.
pub record Grows (program : Program) (old new : State) : Type 0 where
  pub raised : (at : ℕ) (low : FrameType) → frame_of old.frames at ≡ Some low → (high : FrameType) × ((frame_of new.frames at ≡ Some high) × IsFrameBelow program low high)
  pub unmarked : (at : ℕ) → is_marked new.marks at ≡ false → (is_marked old.marks at ≡ false) × (frame_of new.frames at ≡ frame_of old.frames at)

-- From an instruction at which the rules are met by frames above, frames below them come of frames below them.
abbrev pub StaysFound : Scope → ℕ → State → State → Type 0
StaysFound scope at old new = (above : Frames) → RowIsMet scope above at → AreFound scope above old → AreFound scope above new

abbrev pub IsSent : Scope → ℕ → ℕ → (InsnPlace → FrameType → Left) → State → State → Type 0
IsSent scope at to left old new = (above : Frames) → RowIsMet scope above at → AreFound scope above old → HasGone scope new at to left

-- ---- the whole

-- What is known of the frames while the method is looked through.
pub record Holds (scope : Scope) (limit : ℕ) (above : Frames) (state : State) : Type 0 where
  pub found : AreFound scope above state
  pub begun : (place : InsnPlace) → place_of scope 0 ≡ Some place → HasCome scope.program state.frames 0 (begun place)
  pub done : (at : ℕ) → at < limit → IsDone scope state at

-- The frames meet the rules, and each is below the one there.
pub record IsSolution (scope : Scope) (limit : ℕ) (above : Frames) (frames : Frames) : Type 0 where
  pub met : AreMet scope.program scope.own scope.class scope.method limit frames
  pub least : (at : ℕ) (low : FrameType) → at < limit → frame_of frames at ≡ Some low → (high : FrameType) × ((frame_of above at ≡ Some high) × IsFrameBelow scope.program low high)

abbrev pub IsSolved : Scope → ℕ → Frames → Type 0
IsSolved scope limit frames = (above : Frames) → IsMetBy scope limit above → IsSolution scope limit above frames

-- ---- the program

abbrev pub scope_of : Program → ℕ → LinkedClass → Method → Scope
scope_of program own class method = record { program = program; own = own; class = class; method = method }

-- The frames that are told of the methods with code are solutions.
abbrev pub MethodsAreSolved : Program → ℕ → LinkedClass → List Method → List Frames → Type 0
MethodsAreSolved program own class [] told = ⊤
MethodsAreSolved program own class (m ∷ methods) told =
    (has_code m ≡ true → IsSolved (scope_of program own class m) (length m.insns) (list_at told 0) × MethodsAreSolved program own class methods (drop 1 told))
    × (has_code m ≡ false → MethodsAreSolved program own class methods told)

-- Those of the classes, of which the first has this index.
abbrev pub ClassesAreSolved : Program → ℕ → List LinkedClass → List (List Frames) → Type 0
ClassesAreSolved program own [] told = ⊤
ClassesAreSolved program own (class ∷ classes) told =
    MethodsAreSolved program own class class.methods (list_at told 0) × ClassesAreSolved program (own + 1) classes (drop 1 told)
