-- The conditions that each class and each method of a program meets, one definition for each refusal. (docs/LINKING.md)
use Rattle.std.specs.Prelude.{ℕ, zero, suc, Bool, true, false, not, ◌==◌, ◌&&◌, ◌||◌, bytes_eq, if◌then◌else◌, List, [], ◌∷◌, length, nat_eq, Option, Some, None, is_ok}
use Rattle.std.specs.List.{list_all, list_any, filter_map, starts_with}
use Rattle.std.specs.Option.{option_map_or}
use Rattle.mon_base.specs.declared.method.MethodId.{MethodId}
use Rattle.class_codec.specs.declared.tree.Const.{Const}
use Rattle.class_codec.specs.declared.tree.Const.TheVariants as constants
use Rattle.class_codec.specs.declared.tree.Code.{Code}
use Rattle.class_codec.specs.declared.tree.Attr.{Attr}
use Rattle.class_codec.specs.declared.tree.Attr.TheVariants as attributes
use Rattle.class_codec.specs.declared.tree.Member.{Member}
use Rattle.class_codec.specs.declared.tree.ClassFile.{ClassFile}
use Rattle.api_listing.specs.declared.types.ListedClass.{ListedClass}
use Rattle.api_listing.specs.declared.types.Listing.{Listing}
use Rattle.api_listing.specs.BuiltIn.{object, thread, runnable, throwables, is_built_in}
use Rattle.api_listing.specs.Listing.{is_known, has_method, own_class}
use Rattle.api_listing.specs.Nearest.{class_named}
use Rattle.api_listing.specs.Descriptor.{method_type}
use Rattle.bytecode_model.specs.declared.program.Side.{Side}
use Rattle.bytecode_model.specs.declared.program.Side.TheVariants as sides
use Rattle.bytecode_model.specs.Heads.{is_static, is_synchronized, is_native, is_abstract, name_of, desc_of, main_name, main_desc, maker, initialiser, takes_nothing, run_name}
use Rattle.bytecode_model.specs.Members.{in_class}
use Rattle.bytecode_model.specs.SearchOrder.{Name, is_one_of, search_order}

-- ---- the constant pool (145)

-- the bytes stand somewhere in the text
abbrev pub holds : List ℕ → List ℕ → Bool
holds part [] = starts_with nat_eq [] part
holds part (b ∷ text) = starts_with nat_eq (b ∷ text) part || holds part text

abbrev pub names_own_class : Const → Bool
names_own_class (constants.Utf8 text) = holds own_class text
names_own_class other = false

-- A file from a compiler names nothing of this tool's own class.
abbrev pub is_free : Side → ClassFile → Bool
is_free sides.Original file = not (list_any names_own_class file.pool)
is_free sides.Inlined file = true

-- ---- superclasses and interfaces (144)

-- a built-in class that a given one may be below
abbrev pub may_be_extended : Name → Bool
may_be_extended name = bytes_eq name object || (bytes_eq name thread || is_one_of throwables name)

abbrev pub is_super : List ListedClass → Name → Bool
is_super heads name = is_known heads name || may_be_extended name

-- whether one of the classes has the name, and is an interface
abbrev pub has_interface : List ListedClass → Name → Bool
has_interface heads name = option_map_or (λ (c : ListedClass). c.is_interface) (class_named heads name) false

abbrev pub is_above : List ListedClass → Name → Bool
is_above heads name = has_interface heads name || bytes_eq name runnable

-- after n superclasses the way up is still among the given classes
abbrev pub stays_within : ℕ → List ListedClass → Name → Bool
stays_within zero heads name = true
stays_within (suc n) heads name = option_map_or (λ (c : ListedClass). stays_within n heads c.parent) (class_named heads name) false

-- the way up from the class never leaves the given classes
abbrev pub runs_in_circle : List ListedClass → Name → Bool
runs_in_circle heads name = stays_within (suc (length heads)) heads name

-- the superclass and the interfaces of a class may stand above it
abbrev pub stands_below : List ListedClass → ListedClass → Bool
stands_below heads c = is_super heads c.parent && (list_all (is_above heads) c.interfaces && not (runs_in_circle heads c.name))

-- an interface is below Object, and its fields are static
abbrev pub is_good_interface : ListedClass → List Member → Bool
is_good_interface c fields = not c.is_interface || (bytes_eq c.parent object && list_all (λ (m : Member). is_static m.flags) fields)

-- Nothing stands below the class that holds a policy's variables: what names them names it.
abbrev pub is_below_own : ListedClass → Bool
is_below_own c = bytes_eq c.parent own_class || is_one_of c.interfaces own_class

abbrev pub has_supers : List ListedClass → ListedClass → List Member → Bool
has_supers heads c fields = stands_below heads c && (is_good_interface c fields && not (is_below_own c))

-- ---- methods (146)

abbrev pub code_in : Attr → Option Code
code_in (attributes.Code code) = Some code
code_in (attributes.Other other) = None

abbrev pub codes_of : Member → List Code
codes_of member = filter_map code_in member.attrs

abbrev pub has_signature : Name → Name → List Const → Member → Bool
has_signature name desc pool member = bytes_eq (name_of pool member) name && bytes_eq (desc_of pool member) desc

-- neither native, nor abstract and static, nor an abstract maker
abbrev pub has_good_flags : List Const → Member → Bool
has_good_flags pool member =
    not (is_native member.flags)
    && not (is_abstract member.flags && (is_static member.flags || bytes_eq (name_of pool member) maker))

-- An initialiser is static and takes nothing.
abbrev pub is_good_initialiser : List Const → Member → Bool
is_good_initialiser pool member =
    not (bytes_eq (name_of pool member) initialiser) || (is_static member.flags && bytes_eq (desc_of pool member) takes_nothing)

-- A method that is begun without a call is not synchronized.
abbrev pub is_begun_unlocked : List Const → Member → Bool
is_begun_unlocked pool member =
    not (is_synchronized member.flags
    && (has_signature main_name main_desc pool member || (bytes_eq (name_of pool member) initialiser || has_signature run_name takes_nothing pool member)))

-- whether the text is the descriptor of a method
abbrev pub describes_method : List ℕ → Bool
describes_method desc = is_ok (method_type desc)

-- A method has one code, or none where it is abstract.
abbrev pub has_its_code : Member → Bool
has_its_code member = length (codes_of member) == (if is_abstract member.flags then 0 else 1)

abbrev pub is_allowed : List Const → Member → Bool
is_allowed pool member =
    has_good_flags pool member && (is_good_initialiser pool member && (is_begun_unlocked pool member
    && (describes_method (desc_of pool member) && has_its_code member)))

-- ---- methods of the library (149)

abbrev pub is_run : Name → Name → Bool
is_run name desc = bytes_eq name run_name && bytes_eq desc takes_nothing

-- The library declares the method in the very class; that a Thread or Runnable runs counts for nothing.
abbrev pub is_of_library : Listing → MethodId → Bool
is_of_library listing id = has_method listing.methods id || (is_built_in id.class id.name id.desc && not (is_run id.name id.desc))

-- one of the classes has it
abbrev pub overrides_in : Listing → MethodId → List Name → Bool
overrides_in listing id classes = list_any (λ class. is_of_library listing (in_class id class)) classes

abbrev pub id_of : Name → List Const → Member → MethodId
id_of class pool member = record { class = class; name = name_of pool member; desc = desc_of pool member }

-- An instance method other than a maker has the name and descriptor of a method of the library above its class.
abbrev pub overrides : List ListedClass → Listing → Name → List Const → Member → Bool
overrides classes listing class pool member =
    not (is_static member.flags) && (not (bytes_eq (name_of pool member) maker)
    && overrides_in listing (id_of class pool member) (search_order classes class))
