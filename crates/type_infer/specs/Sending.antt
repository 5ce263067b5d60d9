-- What is said of each call that sends a frame on. (docs/TYPING.md)
use Rattle.std.specs.Prelude.{◌≡◌, ℕ, ◌≤◌, length, Contains, IsTrue, List, Option, Some, ⊤}
use Rattle.cert_format.specs.declared.typing.FrameType.{FrameType}
use Rattle.insn_codec.specs.Control.{successors}
use Rattle.bytecode_model.specs.declared.program.Handler.{Handler}
use Rattle.bytecode_model.specs.Order.{IsInOrder}
use Rattle.bytecode_model.specs.InsnPlace.{InsnPlace}
use Rattle.bytecode_model.specs.Rules.{covers}
use Rattle.code_typing.specs.Order.{IsAloneMet}
use Rattle.type_infer.specs.Solving.{Scope, State, Grows, IsKept, IsOfHeight, IsRaisedBy, IsSent, StaysFound, left_by, place_of, thrown_to}

-- There is a frame or none, and a mark, for each instruction of the method.
pub record HasEach (scope : Scope) (state : State) : Type 0 where
  pub frames : length state.frames ≡ length scope.method.insns
  pub marks : length state.marks ≡ length scope.method.insns

-- The place is one of the method, and so are the frames.
pub record StandsIn (scope : Scope) (here : InsnPlace) (state : State) : Type 0 where
  pub place : place_of scope here.at ≡ Some here
  pub frames : length state.frames ≡ length scope.method.insns
  pub marks : length state.marks ≡ length scope.method.insns

-- Where the classes are in order, the old frame is below what is told.
abbrev pub KeepsOld : InsnPlace → Option FrameType → Option FrameType → Type 0
KeepsOld place old told = IsInOrder place.program → IsKept place.program old told

-- Where the frame meets the rules that ask nothing of other instructions, what it leaves is joined with the old frame.
abbrev pub RaisesLeft : InsnPlace → FrameType → InsnPlace → Option FrameType → Option FrameType → Type 0
RaisesLeft place frame to old told =
    IsInOrder place.program → IsAloneMet place frame → IsOfHeight old (length (left_by place frame).operands) → IsRaisedBy to old (left_by place frame) told

-- Where there is room, what it throws is.
abbrev pub RaisesThrown : Handler → InsnPlace → FrameType → InsnPlace → Option FrameType → Option FrameType → Type 0
RaisesThrown handler place frame to old told =
    IsInOrder place.program → length frame.locals ≤ place.method.max_locals → 1 ≤ place.method.max_stack → IsOfHeight old 1
    → IsRaisedBy to old (thrown_to handler place frame) told

-- ---- what is sent

-- Frames are raised alone, and where what is sent may go there, frames that are found stay so, and it has gone.
pub record Sends (scope : Scope) (at : ℕ) (may gone : Type 0) (old new : State) : Type 0 where
  pub grows : Grows scope.program old new
  pub found : may → StaysFound scope at old new
  pub sent : may → gone

-- Control can go from the instruction to each of these.
abbrev pub AreSuccessors : InsnPlace → List ℕ → Type 0
AreSuccessors place targets = (to : ℕ) → Contains targets to → Contains (successors place.at place.insn) to

-- What the instruction leaves is sent to each of these.
abbrev pub SendsTo : Scope → InsnPlace → List ℕ → State → State → Type 0
SendsTo scope place targets old new =
    Sends scope place.at (AreSuccessors place targets) ((to : ℕ) → Contains targets to → IsSent scope place.at to left_by old new) old new

-- What it throws is sent to this handler, and to each of the method, where they cover the instruction.
abbrev pub ThrowsTo : Scope → InsnPlace → Handler → State → State → Type 0
ThrowsTo scope place handler old new =
    Sends scope place.at (Contains scope.method.handlers handler)
    (IsTrue (covers place.at handler) → IsSent scope place.at handler.at (thrown_to handler) old new) old new

abbrev pub ThrowsToAll : Scope → InsnPlace → State → State → Type 0
ThrowsToAll scope place old new =
    Sends scope place.at ⊤
    ((handler : Handler) → Contains scope.method.handlers handler → IsTrue (covers place.at handler) → IsSent scope place.at handler.at (thrown_to handler) old new) old new
