-- Which values fit which of the verifier's types, in a heap, and which objects and static fields hold what fits.
-- (The Java Virtual Machine Specification, section 4.10.1.2.)
use Rattle.std.specs.Prelude.{◌≡◌, ℕ, zero, suc, Bool, true, false, ◌||◌, IsTrue, bytes_eq, List, [], ◌++◌, length, map, filter, drop, slice_get, Some, IsSomeAnd, is_some}
use Rattle.std.specs.List.{AllByRecursion}
use Rattle.std.specs.Option.{option_map_or}
use Rattle.class_codec.specs.declared.tree.ClassFile.{ClassFile}
use Rattle.class_codec.specs.declared.tree.Member.{Member}
use Rattle.cert_format.specs.declared.typing.VType.{VType}
use Rattle.cert_format.specs.declared.typing.VType.TheVariants as types
use Rattle.insn_codec.specs.Following.{Paired}
use Rattle.bytecode_model.specs.declared.program.LinkedClass.{LinkedClass}
use Rattle.bytecode_model.specs.declared.program.Method.{Method}
use Rattle.bytecode_model.specs.declared.program.Program.{Program}
use Rattle.bytecode_model.specs.Arrays.{is_array}
use Rattle.bytecode_model.specs.Assigning.{assignable}
use Rattle.bytecode_model.specs.Described.{type_described}
use Rattle.bytecode_model.specs.Heads.{desc_of}
use Rattle.bytecode_model.specs.Makes.{new_at}
use Rattle.bytecode_model.specs.SearchOrder.{Name}
use Rattle.guest_heap.specs.declared.object.Object.{Object}
use Rattle.guest_heap.specs.declared.object.Object.TheVariants as objects
use Rattle.guest_heap.specs.declared.value.Value.{Value}
use Rattle.guest_frames.specs.Values.{is_null, is_number}
use Rattle.guest_model.specs.Kinds.{class_of_value}
use Rattle.guest_model.specs.Layout.{class_given, is_in_objects}

-- ---- values

-- an object whose class, or array, is assignable to this one
abbrev pub is_of : Program → List Object → Name → Value → Bool
is_of program heap name v = option_map_or (λ class. assignable program (types.Ref class) (types.Ref name)) (class_of_value heap v) false

-- an object of this very class
abbrev pub is_just : List Object → Name → Value → Bool
is_just heap name v = option_map_or (bytes_eq name) (class_of_value heap v) false

-- Anything fits where nothing is known. No object that is not made yet fits here.
abbrev pub fits_made : Program → List Object → Value → VType → Bool
fits_made program heap v types.Top = true
fits_made program heap v types.Int = is_number v
fits_made program heap v types.Null = is_null v
fits_made program heap v (types.Ref name) = is_null v || is_of program heap name v
fits_made program heap v types.UninitThis = false
fits_made program heap v (types.Uninit at) = false

-- The same in a frame of the method of the class: what its constructor makes is of its class or of one below, and what it
-- has just made is of the class that the `new` names.
abbrev pub fits_type : Program → List Object → LinkedClass → Method → Value → VType → Bool
fits_type program heap class method v types.UninitThis = is_of program heap class.name v
fits_type program heap class method v (types.Uninit at) = is_just heap (new_at method at) v
fits_type program heap class method v types.Top = fits_made program heap v types.Top
fits_type program heap class method v types.Int = fits_made program heap v types.Int
fits_type program heap class method v types.Null = fits_made program heap v types.Null
fits_type program heap class method v (types.Ref name) = fits_made program heap v (types.Ref name)

-- a number, null, or an object that is there
abbrev pub is_there : List Object → Value → Bool
is_there heap v = is_number v || (is_null v || is_some (class_of_value heap v))

-- ---- objects

-- the types of a class's own fields, as an object holds them
abbrev pub own_types : ClassFile → List VType
own_types file = map (λ (m : Member). type_described (desc_of file.pool m)) (filter is_in_objects file.fields)

-- the types of the fields of an object of the class, of at most n given classes upwards
abbrev pub types_up : ℕ → Program → Name → List VType
types_up zero program name = []
types_up (suc n) program name = option_map_or (λ (c : LinkedClass). types_up n program c.parent ++ own_types c.file) (class_given program name) []

abbrev pub field_types : Program → Name → List VType
field_types program name = types_up (length program.classes) program name

-- An object has the fields of its class, and each holds what fits its type; each item of an array fits the type of the items.
-- A class is not named as an array is.
abbrev pub ObjectFits : Program → List Object → Object → Type 0
ObjectFits program heap (objects.Plain class fields target thread) =
    (is_array class ≡ false) × Paired (fits_made program heap) fields (field_types program class)
ObjectFits program heap (objects.Array desc items) =
    (is_array desc ≡ true) × AllByRecursion (λ (v : Value). IsTrue (fits_made program heap v (type_described (drop 1 desc)))) items
ObjectFits program heap (objects.Text text) = Unit {0}

abbrev pub HeapFits : Program → List Object → Type 0
HeapFits program heap = AllByRecursion (ObjectFits program heap) heap

-- ---- static fields

abbrev pub static_types : ClassFile → List VType
static_types file = map (λ (m : Member). type_described (desc_of file.pool m)) file.fields

-- Each given class has a value for each field of its file, which fits the field's type.
abbrev pub StaticsFit : Program → List Object → List (List Value) → Type 0
StaticsFit program heap statics =
    (own : ℕ) (class : LinkedClass) → slice_get program.classes own ≡ Some class
    → IsSomeAnd (slice_get statics own) (λ (fields : List Value). Paired (fits_made program heap) fields (static_types class.file))
