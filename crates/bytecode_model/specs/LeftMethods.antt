-- Methods that a class leaves to the library (149): an interface of the program asks for one, no given class from this one upwards
-- offers it, and a class of the library above does. A Java machine would run the library's method, without an event.
-- (The Java Virtual Machine Specification, section 6.5, invokeinterface.)
use Rattle.std.specs.Prelude.{ℕ, Bool, false, not, ◌&&◌, if◌then◌else◌, find, filter, List, [], map, Option, Some, None, option_and_then, option_map, slice_get}
use Rattle.std.specs.List.{flat_map, list_any}
use Rattle.std.specs.Option.{option_map_or}
use Rattle.mon_base.specs.declared.method.MethodId.{MethodId}
use Rattle.class_codec.specs.declared.tree.Const.{Const}
use Rattle.class_codec.specs.declared.tree.Member.{Member}
use Rattle.class_codec.specs.declared.tree.ClassFile.{ClassFile}
use Rattle.api_listing.specs.declared.types.ListedClass.{ListedClass}
use Rattle.api_listing.specs.declared.types.Listing.{Listing}
use Rattle.api_listing.specs.Nearest.{names_of}
use Rattle.bytecode_model.specs.declared.members.Found.{Found}
use Rattle.bytecode_model.specs.declared.program.Target.{Target}
use Rattle.bytecode_model.specs.declared.program.Target.TheVariants as target
use Rattle.bytecode_model.specs.Conditions.{id_of, is_run, overrides_in}
use Rattle.bytecode_model.specs.Heads.{all_classes, desc_of, heads_of, is_interface, is_public, is_static, name_of}
use Rattle.bytecode_model.specs.Members.{first_of, in_class, methods_declared}
use Rattle.bytecode_model.specs.Places.{class_place}
use Rattle.bytecode_model.specs.SearchOrder.{Name, search_order, superclasses}

-- ---- what interfaces ask for

-- a method of objects, other than the `run ()V` of a thread
abbrev pub is_asked : List Const → Member → Bool
is_asked pool member = not (is_static member.flags) && not (is_run (name_of pool member) (desc_of pool member))

abbrev pub if_interface : ClassFile → Option ClassFile
if_interface file = if is_interface file.flags then Some file else None

-- the file of the class of this name, where it is an interface
abbrev pub given_interface : List ClassFile → Name → Option ClassFile
given_interface files name = option_and_then (λ (at : ℕ). option_and_then if_interface (slice_get files at)) (class_place (heads_of files) name)

-- the methods that the interface of this name asks for
abbrev pub asked_by : Name → ClassFile → List MethodId
asked_by name file = map (id_of name file.pool) (filter (is_asked file.pool) file.methods)

abbrev pub asked_by_named : List ClassFile → Name → List MethodId
asked_by_named files name = option_map_or (asked_by name) (given_interface files name) []

-- those that the given interfaces above a class ask for
abbrev pub asked_of : List ClassFile → Listing → Name → List MethodId
asked_of files listing class = flat_map (asked_by_named files) (search_order (all_classes listing files) class)

-- ---- what classes offer

-- a public method of objects, of a class that is no interface
abbrev pub offers_at : ClassFile → ℕ → Bool
offers_at file index = option_map_or (λ (m : Member). is_public m.flags && not (is_interface file.flags)) (slice_get file.methods index) false

-- the target is such a method of one of the files
abbrev pub is_open_to_all : List ClassFile → Target → Bool
is_open_to_all files (target.Method class index) = option_map_or (λ (f : ClassFile). offers_at f index) (slice_get files class) false
is_open_to_all files target.None = false
is_open_to_all files (target.ApiMethod index) = false
is_open_to_all files (target.Builtin index) = false
is_open_to_all files (target.Field class index) = false
is_open_to_all files (target.ApiField index) = false
is_open_to_all files (target.ClassName text) = false
is_open_to_all files (target.Number n) = false
is_open_to_all files (target.Literal index) = false

abbrev pub is_offering : List ClassFile → Found → Bool
is_offering files found = not found.is_static && is_open_to_all files found.target

-- a class declares the method so
abbrev pub offers : List ClassFile → Listing → MethodId → Bool
offers files listing id = option_map_or (is_offering files) (first_of (methods_declared files listing) id) false

-- one of the classes does
abbrev pub offered_in : List ClassFile → Listing → MethodId → List Name → Bool
offered_in files listing id classes = list_any (λ class. offers files listing (in_class id class)) classes

-- ---- what is left

-- none of the classes offers the method, and the library has it in one of them
abbrev pub is_left : List ClassFile → Listing → List Name → MethodId → Bool
is_left files listing classes id = overrides_in listing id classes && not (offered_in files listing id classes)

-- the first method that the class of this name leaves to the library
abbrev pub left_in : List ClassFile → Listing → Name → Option Name
left_in files listing class =
    option_map (λ (id : MethodId). id.name) (find (is_left files listing (names_of (superclasses (all_classes listing files) class))) (asked_of files listing class))

-- An interface is called through a class below it alone.
abbrev pub left_to_library : List ClassFile → Listing → ListedClass → Option Name
left_to_library files listing c = if c.is_interface then None else left_in files listing c.name
