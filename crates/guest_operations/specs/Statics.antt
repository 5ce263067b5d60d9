-- What static fields hold at the start, in parts. (docs/MACHINE.md)
use Rattle.std.specs.Prelude.{ℕ, List, map, slice_get, Option, option_map, option_and_then}
use Rattle.std.specs.List.{filter_map}
use Rattle.class_codec.specs.declared.tree.ClassFile.{ClassFile}
use Rattle.class_codec.specs.declared.tree.Const.{Const}
use Rattle.class_codec.specs.declared.tree.Member.{Member}
use Rattle.class_codec.specs.Pool.{utf8_at}
use Rattle.bytecode_model.specs.declared.program.Program.{Program}
use Rattle.bytecode_model.specs.Operands.{place_of}
use Rattle.guest_heap.specs.declared.value.Value.{Value}
use Rattle.guest_heap.specs.declared.value.Value.TheVariants as values
use Rattle.guest_model.specs.Layout.{constant_bytes, starting_value, two_bytes}

-- what the fields of a class hold
abbrev pub class_statics : Program → ClassFile → List Value
class_statics program file = map (starting_value program file) file.fields

-- the constant that the first ConstantValue of the field names
abbrev pub constant_told : List Const → Member → Option Const
constant_told pool field =
    option_and_then (slice_get pool) (option_and_then two_bytes (slice_get (filter_map (constant_bytes pool) field.attrs) 0))

-- the text of this index as the program's literal
abbrev pub text_value : Program → List Const → ℕ → Option Value
text_value program pool index = option_map (λ (t : List ℕ). values.Lit (place_of program.literals t)) (utf8_at pool index)
