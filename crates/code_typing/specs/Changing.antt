-- What each name of a change means. (docs/TYPING.md)
use Rattle.std.specs.Prelude.{ℕ, Bool, ◌&&◌, if◌then◌else◌, List, ◌++◌, map}
use Rattle.cert_format.specs.declared.typing.FrameType.{FrameType}
use Rattle.cert_format.specs.declared.typing.VType.{VType}
use Rattle.cert_format.specs.declared.typing.VType.TheVariants as types
use Rattle.code_typing.specs.declared.change.Change.{Change}
use Rattle.code_typing.specs.declared.change.Change.TheVariants as changes
use Rattle.insn_codec.specs.declared.shape.Shape.{Shape}
use Rattle.insn_codec.specs.Shapes.{shape_of}
use Rattle.bytecode_model.specs.Makes.{is_same_object, when_new, type_at, stores, yields}
use Rattle.bytecode_model.specs.InsnPlace.{InsnPlace}
use Rattle.bytecode_model.specs.Rules.{stack_fits, locals_fit}

abbrev pub change_told : Change → VType → VType
change_told changes.Nothing t = t
change_told (changes.Forget at) t = when_new at t
change_told (changes.Make receiver class) t = if is_same_object receiver.now t then types.Ref class.now else t

abbrev pub local_told : Shape → Change → List VType → List VType → ℕ → VType
local_told shape change locals taken j = if stores shape j then type_at taken 0 else change_told change (type_at locals j)

-- What stays and what is pushed is assignable to the frame.
abbrev pub frame_takes : InsnPlace → Change → List VType → List VType → List VType → FrameType → Bool
frame_takes place change locals below taken to =
    stack_fits place.program (map (change_told change) below ++ yields place locals taken) to.stack
    && locals_fit place.program (local_told (shape_of place.insn) change locals taken) 0 to.locals
