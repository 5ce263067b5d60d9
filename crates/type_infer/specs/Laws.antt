-- The laws of types and frames that frames are found by. (docs/TYPING.md)
use Rattle.std.specs.Prelude.{◌≡◌, List, true, ℕ}
use Rattle.api_listing.specs.BuiltIn.{throwable}
use Rattle.cert_format.specs.declared.typing.FrameType.{FrameType}
use Rattle.cert_format.specs.declared.typing.VType.{VType}
use Rattle.cert_format.specs.declared.typing.VType.TheVariants as types
use Rattle.bytecode_model.specs.declared.program.Program.{Program}
use Rattle.bytecode_model.specs.Assigning.{assignable}
use Rattle.bytecode_model.specs.Classes.{is_below}
use Rattle.bytecode_model.specs.Order.{IsInOrder}
use Rattle.code_typing.specs.Order.{IsAloneKept, IsFrameBelow, IsLeftKept, IsThrownKept}

pub record Laws (program : Program) : Type 0 where
  pub order : IsInOrder program
  pub reflexive : (t : VType) → assignable program t t ≡ true
  pub transitive : (t u v : VType) → assignable program t u ≡ true → assignable program u v ≡ true → assignable program t v ≡ true
  pub thrown_alone : (class : List ℕ) (t : VType) → is_below program class throwable ≡ true → assignable program (types.Ref class) t ≡ true
      → assignable program t (types.Ref class) ≡ true → t ≡ types.Ref class
  pub itself : (frame : FrameType) → IsFrameBelow program frame frame
  pub over : (a b c : FrameType) → IsFrameBelow program a b → IsFrameBelow program b c → IsFrameBelow program a c
  pub alone : IsAloneKept
  pub left : IsLeftKept
  pub thrown : IsThrownKept
