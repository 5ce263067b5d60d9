-- Where a program has no typing, and which typing is the least. (docs/TYPING.md)
use Rattle.std.specs.Prelude.{◌≡◌, ◌⊎◌, ℕ, ◌+◌, ◌<◌, List, length, Some, None, slice_get, ⊤}
use Rattle.cert_format.specs.declared.typing.FrameType.{FrameType}
use Rattle.cert_format.specs.declared.typing.Typing.{Typing}
use Rattle.bytecode_model.specs.declared.program.LinkedClass.{LinkedClass}
use Rattle.bytecode_model.specs.declared.program.Method.{Method}
use Rattle.bytecode_model.specs.declared.program.Program.{Program}
use Rattle.code_typing.specs.declared.fault.TypeFault.{TypeFault}
use Rattle.code_typing.specs.Order.{IsFrameBelow}
use Rattle.bytecode_model.specs.Rules.{Frames, frame_of}
use Rattle.bytecode_model.specs.Typed.{IsTyped, row_in, frames_in, frames_told}
use Rattle.type_infer.specs.declared.fault.InferFault.{InferFault}
use Rattle.type_infer.specs.declared.fault.InferFault.TheVariants as faults

-- ---- a method

-- These frames meet the rules at the first n instructions.
abbrev pub AreMet : Program → ℕ → LinkedClass → Method → ℕ → Frames → Type 0
AreMet program own class method n frames = (at : ℕ) → at < n → row_in program own class method frames at ≡ None

-- Some frames do.
abbrev pub CanBeMet : Program → ℕ → LinkedClass → Method → ℕ → Type 0
CanBeMet program own class method n = (frames : Frames) × AreMet program own class method n frames

-- No frames do.
abbrev pub CannotBeMet : Program → ℕ → LinkedClass → Method → ℕ → Type 0
CannotBeMet program own class method n = CanBeMet program own class method n → ⊥

-- ---- a program

-- There is such a method, and it has code.
abbrev pub HasPlace : Program → TypeFault → Type 0
HasPlace program fault =
    (c : LinkedClass) × ((m : Method) × ((slice_get program.classes fault.class ≡ Some c) × (slice_get c.methods fault.method ≡ Some m) × (0 < length m.insns)))

-- The one method stands before the other, in the order of classes and of the methods of each.
abbrev pub StandsBefore : ℕ → ℕ → ℕ → ℕ → Type 0
StandsBefore own index class method = (own < class) ⊎ ((own ≡ class) × (index < method))

-- The rules can be met at all instructions of each method before this one.
abbrev pub AreMetBefore : Program → ℕ → ℕ → Type 0
AreMetBefore program class method =
    (own index : ℕ) (c : LinkedClass) (m : Method) → slice_get program.classes own ≡ Some c → slice_get c.methods index ≡ Some m
    → StandsBefore own index class method → CanBeMet program own c m (length m.insns)

-- No frames meet the rules at all instructions of the method in which the fault is.
abbrev pub CannotBeMetAt : Program → TypeFault → Type 0
CannotBeMetAt program fault =
    (c : LinkedClass) (m : Method) → slice_get program.classes fault.class ≡ Some c → slice_get c.methods fault.method ≡ Some m
    → CannotBeMet program fault.class c m (length m.insns)

-- It is the first method without a typing, and the first of its instructions up to which no frames meet the rules.
pub record IsUntypedAt (program : Program) (class method at : ℕ) : Type 0 where
  pub of : LinkedClass
  pub class_there : slice_get program.classes class ≡ Some of
  pub body : Method
  pub method_there : slice_get of.methods method ≡ Some body
  pub within : at < length body.insns
  pub earlier : AreMetBefore program class method
  pub before : CanBeMet program class of body at
  pub fails : CannotBeMet program class of body (at + 1)

-- What is told where there is no typing.
abbrev pub FirstUntyped : Program → InferFault → Type 0
FirstUntyped program (faults.Untyped class method at) = IsUntypedAt program class method at
FirstUntyped program faults.Memory = ⊤

-- Some typing meets the rules.
abbrev pub IsTypable : Program → Type 0
IsTypable program = (typing : Typing) × IsTyped program typing

-- No typing does, unless memory ran out.
abbrev pub IsUntypable : Program → InferFault → Type 0
IsUntypable program (faults.Untyped class method at) = IsTypable program → ⊥
IsUntypable program faults.Memory = ⊤

-- ---- the least typing

-- The instruction of a method of the class has this frame.
abbrev pub HasFrame : LinkedClass → List Frames → ℕ → ℕ → FrameType → Type 0
HasFrame class told method at frame = frame_of (frames_in class.methods told method) at ≡ Some frame

-- Where it has a frame, all frames that meet the rules of the method have one, too, in whose place it may stand.
abbrev pub IsLeast : Program → Typing → Type 0
IsLeast program typing =
    (class method at : ℕ) (c : LinkedClass) (m : Method) (frames : Frames) (frame : FrameType) → slice_get program.classes class ≡ Some c
    → slice_get c.methods method ≡ Some m → AreMet program class c m (length m.insns) frames → at < length m.insns
    → HasFrame c (frames_told typing class) method at frame → (above : FrameType) × ((frame_of frames at ≡ Some above) × IsFrameBelow program frame above)
