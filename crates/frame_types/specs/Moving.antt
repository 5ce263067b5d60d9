-- What an instruction that works on its frame alone does to the verifier's types. (docs/TYPING.md)
use Rattle.std.specs.Prelude.{◌≡◌, ℕ, false, IsTrue, List, length, map, reverse, Some}
use Rattle.std.specs.List.{range_with_len}
use Rattle.cert_format.specs.declared.typing.FrameType.{FrameType}
use Rattle.cert_format.specs.declared.typing.VType.{VType}
use Rattle.cert_format.specs.declared.typing.VType.TheVariants as types
use Rattle.insn_codec.specs.Effect.{Domain, effect}
use Rattle.insn_codec.specs.Shapes.{shape_of}
use Rattle.insn_codec.specs.Table.{is_heap}
use Rattle.bytecode_model.specs.Makes.{type_at, local_after, stack_after}
use Rattle.bytecode_model.specs.InsnPlace.{InsnPlace}
use Rattle.bytecode_model.specs.Rules.{taken, Depth, Operand, Local}
use Rattle.bytecode_model.specs.Wants.{takes, of_kind, is_made}

abbrev pub types_moved : Domain VType
types_moved = record {
  fits = of_kind;
  made = is_made;
  int = λ n. types.Int;
  null = types.Null;
  two = λ op t u. types.Int;
  one = λ op t. types.Int;
}

-- a list of so many locals, by their places
abbrev pub padded : ℕ → (ℕ → VType) → List VType
padded n locals = map locals (range_with_len 0 n)

-- Where the rules of depth, operands and locals are met, the effect over the types is there, and leaves the frame
-- afterwards. Its operands have the top first.
abbrev pub IsEffectTyped : Type 0
IsEffectTyped =
    (place : InsnPlace) (frame : FrameType) → is_heap (shape_of place.insn) ≡ false → IsTrue (Depth place frame) → IsTrue (Operand place frame) → IsTrue (Local place frame)
    → effect types_moved (shape_of place.insn) (padded place.method.max_locals (type_at frame.locals)) (reverse frame.stack)
    ≡ Some (padded place.method.max_locals (local_after place frame.locals (taken place frame)), reverse (stack_after place frame.locals (length (takes place)) frame.stack))
