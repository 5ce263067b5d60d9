-- What objects and classes hold before anything is written, and where: the fields of the superclass first, and then those of
-- the class, in the order of its file. (The Java Virtual Machine Specification, sections 2.3, 2.4 and 4.7.2.)
use Rattle.std.specs.Prelude.{ℕ, zero, suc, pos, ◌+◌, ◌*◌, ◌==◌, ◌||◌, Bool, false, not, bytes_eq, codes, if◌then◌else◌, List, [], ◌∷◌, ◌++◌, length, map, take, filter, find, slice_get, slice_index, Option, Some, None, option_map}
use Rattle.std.specs.List.{filter_map}
use Rattle.std.specs.Option.{option_map_or}
use Rattle.class_codec.specs.declared.tree.Attr.{Attr}
use Rattle.class_codec.specs.declared.tree.Attr.TheVariants as attributes
use Rattle.class_codec.specs.declared.tree.ClassFile.{ClassFile}
use Rattle.class_codec.specs.declared.tree.Const.{Const}
use Rattle.class_codec.specs.declared.tree.Const.TheVariants as constants
use Rattle.class_codec.specs.declared.tree.Member.{Member}
use Rattle.class_codec.specs.Pool.{utf8_at}
use Rattle.bytecode_model.specs.declared.program.LinkedClass.{LinkedClass}
use Rattle.bytecode_model.specs.declared.program.Program.{Program}
use Rattle.bytecode_model.specs.Heads.{desc_of, is_static, text_at}
use Rattle.bytecode_model.specs.Operands.{place_of}
use Rattle.bytecode_model.specs.SearchOrder.{Name}
use Rattle.guest_heap.specs.declared.object.Object.{Object}
use Rattle.guest_heap.specs.declared.object.Object.TheVariants as objects
use Rattle.guest_heap.specs.declared.value.Value.{Value}
use Rattle.guest_heap.specs.declared.value.Value.TheVariants as values
use Rattle.guest_model.specs.Options.{◌>>=◌}

-- ---- values before they are written

-- whether a descriptor is of objects
abbrev pub is_of_references : List ℕ → Bool
is_of_references [] = false
is_of_references (b ∷ text) = (b == 76) || (b == 91)

-- 0, or null
abbrev pub first_value : List ℕ → Value
first_value desc = if is_of_references desc then values.Null else values.Int (pos 0)

-- ---- objects

abbrev pub is_in_objects : Member → Bool
is_in_objects member = not (is_static member.flags)

-- the own fields of an object of the class
abbrev pub own_fields : ClassFile → List Value
own_fields file = map (λ (m : Member). first_value (desc_of file.pool m)) (filter is_in_objects file.fields)

abbrev pub class_given : Program → Name → Option LinkedClass
class_given program name = find (λ (c : LinkedClass). bytes_eq c.name name) program.classes

-- the fields of an object of the class, of at most n given classes upwards; a class of the library has none
abbrev pub fields_up : ℕ → Program → Name → List Value
fields_up zero program name = []
fields_up (suc n) program name = option_map_or (λ (c : LinkedClass). fields_up n program c.parent ++ own_fields c.file) (class_given program name) []

abbrev pub fields_of : Program → Name → List Value
fields_of program name = fields_up (length program.classes) program name

-- the place in an object of the field with this index in its class
abbrev pub place_of_field : Program → LinkedClass → ℕ → ℕ
place_of_field program class field = length (fields_of program class.parent) + length (filter is_in_objects (take field class.file.fields))

-- a new object, not made yet
abbrev pub new_of : Program → Name → Object
new_of program name = objects.Plain name (fields_of program name) values.Null None

-- ---- static fields

-- the number that two bytes are
abbrev pub two_bytes : List ℕ → Option ℕ
two_bytes bytes = if length bytes == 2 then Some (256 * slice_index bytes 0 + slice_index bytes 1) else None

-- the bytes of an attribute, where it is a ConstantValue
abbrev pub constant_bytes : List Const → Attr → Option (List ℕ)
constant_bytes pool (attributes.Code code) = None
constant_bytes pool (attributes.Other other) = if bytes_eq (text_at pool other.name) (codes "ConstantValue") then Some other.bytes else None

-- a constant as the value of a field: a number, or a text of a String
abbrev pub value_of_constant : Program → List Const → List ℕ → Const → Option Value
value_of_constant program pool desc (constants.Integer n) = if is_of_references desc then None else Some (values.Int n)
value_of_constant program pool desc (constants.Str text) =
    if bytes_eq desc (codes "Ljava/lang/String;")
    then option_map (λ (t : List ℕ). values.Lit (place_of program.literals t)) (utf8_at pool text)
    else None
value_of_constant program pool desc other = None

-- what the first ConstantValue of the field tells, where that is a value of the field's type
abbrev pub value_told : Program → ClassFile → Member → Option Value
value_told program file member = do
  bytes ← slice_get (filter_map (constant_bytes file.pool) member.attrs) 0
  index ← two_bytes bytes
  constant ← slice_get file.pool index
  value_of_constant program file.pool (desc_of file.pool member) constant

-- what a field holds at the start: if it is static its ConstantValue, or else 0 or null
abbrev pub starting_value : Program → ClassFile → Member → Value
starting_value program file member =
    option_map_or (λ (v : Value). v) (if is_static member.flags then value_told program file member else None)
    (first_value (desc_of file.pool member))

-- the static fields of each given class, in the place of each of its fields
abbrev pub statics_of : Program → List (List Value)
statics_of program = map (λ (c : LinkedClass). map (starting_value program c.file) c.file.fields) program.classes
