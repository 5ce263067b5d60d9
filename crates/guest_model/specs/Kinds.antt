-- Of which classes an object is. (The Java Virtual Machine Specification, section 6.5, checkcast, instanceof and aastore.)
use Rattle.std.specs.Prelude.{ℕ, ◌==◌, ◌&&◌, ◌||◌, Bool, false, not, bytes_eq, codes, if◌then◌else◌, List, [], ◌∷◌, slice_get, Option, Some, None, option_map}
use Rattle.std.specs.Option.{option_map_or}
use Rattle.api_listing.specs.BuiltIn.{object}
use Rattle.bytecode_model.specs.declared.program.Program.{Program}
use Rattle.bytecode_model.specs.Arrays.{is_array}
use Rattle.bytecode_model.specs.Assigning.{named, reference_of}
use Rattle.bytecode_model.specs.Classes.{classes_of, is_below, is_interface}
use Rattle.bytecode_model.specs.SearchOrder.{Name, is_one_of, search_order}
use Rattle.guest_heap.specs.declared.object.Object.{Object}
use Rattle.guest_heap.specs.declared.object.Object.TheVariants as objects
use Rattle.guest_heap.specs.declared.value.Value.{Value}
use Rattle.guest_heap.specs.declared.value.Value.TheVariants as values

abbrev pub string : Name
string = codes "java/lang/String"

-- ---- the class of an object

-- its class, or the descriptor of its array
abbrev pub class_of_object : Object → Name
class_of_object (objects.Plain class fields target thread) = class
class_of_object (objects.Array desc items) = desc
class_of_object (objects.Text text) = string

-- a number is no object, and null is none
abbrev pub class_of_value : List Object → Value → Option Name
class_of_value heap (values.Int n) = None
class_of_value heap values.Null = None
class_of_value heap (values.Ref at) = option_map class_of_object (slice_get heap at)
class_of_value heap (values.Class index) = Some (codes "java/lang/Class")
class_of_value heap (values.Lit index) = Some string

-- ---- which classes have it as one of theirs

-- whether the other is an interface that the class has, itself or by what is above it
abbrev pub implements : Program → Name → Name → Bool
implements program name other = is_interface program other && is_one_of (search_order (classes_of program) name) other

-- A class is, extends or implements the other, or the other is Object; of an array the other is Object.
abbrev pub class_is : Program → Name → Name → Bool
class_is program name other = bytes_eq other object || (not (is_array name) && (is_below program name other || implements program name other))

-- the same component, or one that is a class which is the other
abbrev pub leaf_is : Program → List ℕ → List ℕ → Bool
leaf_is program from to =
    bytes_eq from to || option_map_or (λ above. option_map_or (λ below. class_is program below above) (reference_of from) false) (named to) false

abbrev pub component_is : Program → List ℕ → List ℕ → Bool
component_is program [] to = leaf_is program [] to
component_is program (c ∷ from) [] = leaf_is program (c ∷ from) []
component_is program (c ∷ from) (d ∷ to) = if (c == 91) && (d == 91) then component_is program from to else leaf_is program (c ∷ from) (d ∷ to)

abbrev pub array_is : Program → List ℕ → List ℕ → Bool
array_is program [] to = false
array_is program (c ∷ from) [] = false
array_is program (c ∷ from) (d ∷ to) = (c == 91) && ((d == 91) && component_is program from to)

-- whether what is of the class, or the array, is of the other
abbrev pub is_kind_of : Program → Name → Name → Bool
is_kind_of program name other = class_is program name other || array_is program name other

abbrev pub is_instance : Program → List Object → Value → Name → Bool
is_instance program heap value name = option_map_or (λ class. is_kind_of program class name) (class_of_value heap value) false

-- whether the objects of a class are Threads
abbrev pub is_thread : Program → Name → Bool
is_thread program class = is_below program class (codes "java/lang/Thread")
