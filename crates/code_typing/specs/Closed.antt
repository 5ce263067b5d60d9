-- The places of a typed program that have a frame, and where control goes from them. (docs/TYPING.md)
use Rattle.std.specs.Prelude.{◌≡◌, ℕ, ◌≤◌, ◌<◌, IsTrue, Contains, Some, Option, option_and_then, slice_get, length}
use Rattle.cert_format.specs.declared.typing.Typing.{Typing}
use Rattle.insn_codec.specs.declared.insn.Insn.{Insn}
use Rattle.insn_codec.specs.Control.{successors}
use Rattle.bytecode_model.specs.declared.program.Handler.{Handler}
use Rattle.bytecode_model.specs.declared.program.LinkedClass.{LinkedClass}
use Rattle.bytecode_model.specs.declared.program.Method.{Method}
use Rattle.bytecode_model.specs.declared.program.Program.{Program}
use Rattle.bytecode_model.specs.Typed.{IsTyped, reached}

-- the method of this place in its class
abbrev pub method_at : Program → ℕ → ℕ → Option Method
method_at program class method = option_and_then (λ (c : LinkedClass). slice_get c.methods method) (slice_get program.classes class)

-- Each method with code begins at a place that is reached.
abbrev pub BeginsReached : Type 0
BeginsReached =
    (program : Program) (typing : Typing) → IsTyped program typing
    → (class method : ℕ) (of : Method) → method_at program class method ≡ Some of → 0 < length of.insns → IsTrue (reached program typing class method 0)

-- Each successor of an instruction that is reached is reached.
abbrev pub GoesToReached : Type 0
GoesToReached =
    (program : Program) (typing : Typing) → IsTyped program typing
    → (class method at : ℕ) (of : Method) (insn : Insn) → method_at program class method ≡ Some of → slice_get of.insns at ≡ Some insn
    → IsTrue (reached program typing class method at) → (to : ℕ) → Contains (successors at insn) to → IsTrue (reached program typing class method to)

-- Each handler that covers an instruction that is reached is reached.
abbrev pub IsCaughtReached : Type 0
IsCaughtReached =
    (program : Program) (typing : Typing) → IsTyped program typing
    → (class method at : ℕ) (of : Method) (insn : Insn) (handler : Handler) → method_at program class method ≡ Some of → slice_get of.insns at ≡ Some insn
    → IsTrue (reached program typing class method at) → Contains of.handlers handler → handler.from ≤ at → at < handler.to
    → IsTrue (reached program typing class method handler.at)
