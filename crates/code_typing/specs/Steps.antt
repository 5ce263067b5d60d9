-- One operand or one local after the other. (docs/TYPING.md)
use Rattle.std.specs.Prelude.{ℕ, if◌then◌else◌, List, [], ◌∷◌, Option, Some, None}
use Rattle.cert_format.specs.declared.typing.VType.{VType}
use Rattle.bytecode_model.specs.declared.program.Program.{Program}
use Rattle.bytecode_model.specs.Assigning.{assignable}
use Rattle.bytecode_model.specs.Wants.{to_described}

-- the operands after the first, where that is what is described
abbrev pub after_met : Program → List ℕ → List VType → Option (List VType)
after_met program desc [] = None
after_met program desc (t ∷ types) = if to_described program desc t then Some types else None

-- the locals after the first, where the type is assignable to that or there is none
abbrev pub after_fit : Program → VType → List VType → Option (List VType)
after_fit program from [] = Some []
after_fit program from (t ∷ to) = if assignable program from t then Some to else None
