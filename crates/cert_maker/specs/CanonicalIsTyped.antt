-- The canonical typing of a typed program is a typing of it. (docs/CERTIFICATES.md)
use Rattle.std.specs.Prelude.{◌≡◌, ℕ, false}
use Rattle.cert_format.specs.declared.typing.Typing.{Typing}
use Rattle.bytecode_model.specs.declared.program.Program.{Program}
use Rattle.bytecode_model.specs.Layout.{IsLaidOut}
use Rattle.bytecode_model.specs.Typed.{IsTyped, reached}
use Rattle.cert_maker.specs.Canonical.{canonical}

-- It is typed and shaped as it was, and no more is reached.
pub record IsTypedStill (program : Program) (typing : Typing) : Type 0 where
  pub typed : IsTyped program (canonical program typing)
  pub shaped : IsLaidOut program (canonical program typing).frames
  pub reached : (class method at : ℕ) → reached program typing class method at ≡ false → reached program (canonical program typing) class method at ≡ false

abbrev pub CanonicalIsTyped : Type 0
CanonicalIsTyped = (program : Program) (typing : Typing) → IsTyped program typing → IsLaidOut program typing.frames → IsTypedStill program typing
