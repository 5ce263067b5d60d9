-- What the operand of each instruction of a linked program names: a row for each kind of target.
-- (The Java Virtual Machine Specification, sections 5.4.3 and 6.5.)
use Rattle.std.specs.Prelude.{◌≡◌, ℕ, ℤ, Bool, true, false, ◌&&◌, if◌then◌else◌, List, slice_get, Option, Some, Ok, Err, is_ok}
use Rattle.mon_base.specs.declared.method.MethodId.{MethodId}
use Rattle.class_codec.specs.declared.tree.Const.{Const}
use Rattle.class_codec.specs.declared.tree.Const.TheVariants as constants
use Rattle.class_codec.specs.declared.tree.Member.{Member}
use Rattle.class_codec.specs.Pool.{utf8_at, class_name_at, reference_at}
use Rattle.insn_codec.specs.declared.insn.Insn.{Insn}
use Rattle.api_listing.specs.declared.descriptor.FieldType.{FieldType}
use Rattle.api_listing.specs.declared.types.ListedClass.{ListedClass}
use Rattle.api_listing.specs.BuiltIn.{method_rows}
use Rattle.api_listing.specs.Descriptor.{method_type, whole_type}
use Rattle.api_listing.specs.Fault.{Read}
use Rattle.api_listing.specs.Listing.{is_known}
use Rattle.bytecode_model.specs.declared.operand.Use.{Use}
use Rattle.bytecode_model.specs.declared.operand.Use.TheVariants as uses
use Rattle.bytecode_model.specs.declared.program.LinkedClass.{LinkedClass}
use Rattle.bytecode_model.specs.declared.program.Method.{Method}
use Rattle.bytecode_model.specs.declared.program.Program.{Program}
use Rattle.bytecode_model.specs.declared.program.Target.{Target}
use Rattle.bytecode_model.specs.declared.program.Target.TheVariants as target
use Rattle.bytecode_model.specs.Arrays.{is_array}
use Rattle.bytecode_model.specs.Classes.{classes_of}
use Rattle.bytecode_model.specs.Heads.{name_of, desc_of, is_static}
use Rattle.bytecode_model.specs.Files.{unlinked}
use Rattle.bytecode_model.specs.Members.{in_class, method_of, field_of}
use Rattle.bytecode_model.specs.Operands.{use_of, index_of, element_is_known, is_api_field}
use Rattle.bytecode_model.specs.SearchOrder.{Name, field_order, is_one_of, search_order}

-- the constant that the instruction names
abbrev pub constant_of : LinkedClass → Insn → Option Const
constant_of class insn = slice_get class.file.pool (index_of insn)

-- ---- what is loaded

-- The instruction loads a string, whose text is this one of the program's literals.
pub record LoadsText (program : Program) (class : LinkedClass) (insn : Insn) (literal : ℕ) : Type 0 where
  pub loads : use_of insn ≡ uses.Load
  pub index : ℕ
  pub constant : constant_of class insn ≡ Some (constants.Str index)
  pub text : List ℕ
  pub told : utf8_at class.file.pool index ≡ Some text
  pub there : slice_get program.literals literal ≡ Some text

-- The instruction loads this number.
abbrev pub LoadsNumber : LinkedClass → Insn → ℤ → Type 0
LoadsNumber class insn n = (use_of insn ≡ uses.Load) × (constant_of class insn ≡ Some (constants.Integer n))

-- ---- classes

abbrev pub item_is_known : List ListedClass → Read FieldType → Bool
item_is_known classes (Ok t) = element_is_known (is_known classes) t.element
item_is_known classes (Err e) = false

-- whether the text is the name of one of the classes or, where an array may stand, the descriptor of an array whose
-- items, if they are objects, are of one
abbrev pub is_type : List ListedClass → Bool → List ℕ → Bool
is_type classes arrays text = if is_array text then arrays && item_is_known classes (whole_type text) else is_known classes text

-- whether an instruction that uses a constant so takes a class
abbrev pub takes_class : Use → Bool
takes_class uses.Nothing = false
takes_class uses.Load = true
takes_class (uses.Field static writes) = false
takes_class (uses.Call static of_interface) = false
takes_class uses.New = true
takes_class uses.Type = true

-- whether it takes an array, too
abbrev pub takes_array : Use → Bool
takes_array uses.Nothing = false
takes_array uses.Load = false
takes_array (uses.Field static writes) = false
takes_array (uses.Call static of_interface) = false
takes_array uses.New = false
takes_array uses.Type = true

-- The instruction takes a class, and its constant is one of this name that is known.
pub record TakesClass (program : Program) (class : LinkedClass) (insn : Insn) (text : List ℕ) : Type 0 where
  pub takes : takes_class (use_of insn) ≡ true
  pub told : class_name_at class.file.pool (index_of insn) ≡ Some text
  pub known : is_type (classes_of program) (takes_array (use_of insn)) text ≡ true

-- ---- methods

-- The method of these indices is of this class, name and descriptor, and static or not.
pub record IsMethodAt (program : Program) (of index : ℕ) (id : MethodId) (static : Bool) : Type 0 where
  pub class : LinkedClass
  pub method : Method
  pub there : slice_get program.classes of ≡ Some class
  pub here : slice_get class.methods index ≡ Some method
  pub owner : class.name ≡ id.class
  pub name : method.name ≡ id.name
  pub desc : method.desc ≡ id.desc
  pub flags : is_static method.flags ≡ static

-- the same of any target: of the listing, of the table of built-in methods, or of the program's classes
abbrev pub IsMethod : Program → Target → MethodId → Bool → Type 0
IsMethod program (target.ApiMethod i) id static = slice_get program.listing.methods i ≡ Some (record { id = id; is_static = static })
IsMethod program (target.Builtin i) id static = slice_get method_rows i ≡ Some (id.class, id.name, id.desc, static)
IsMethod program (target.Method of index) id static = IsMethodAt program of index id static
IsMethod program target.None id static = ⊥
IsMethod program (target.Field of index) id static = ⊥
IsMethod program (target.ApiField i) id static = ⊥
IsMethod program (target.ClassName text) id static = ⊥
IsMethod program (target.Number n) id static = ⊥
IsMethod program (target.Literal i) id static = ⊥

-- the constant that refers to a method, of a class or of an interface
abbrev pub method_constant : Bool → ℕ → ℕ → Const
method_constant false owner member = constants.Method owner member
method_constant true owner member = constants.IMethod owner member

-- The instruction calls the method: the nearest one of the reference's name and descriptor, from its class on. The
-- declaring class is the reference's own or one above it, and the method is static exactly where the call is.
pub record Calls (program : Program) (class : LinkedClass) (insn : Insn) (ref : Target) : Type 0 where
  pub static : Bool
  pub of_interface : Bool
  pub calls : use_of insn ≡ uses.Call static of_interface
  pub owner : ℕ
  pub member : ℕ
  pub constant : constant_of class insn ≡ Some (method_constant of_interface owner member)
  pub told : MethodId
  pub refers : reference_at class.file.pool (index_of insn) ≡ Some told
  pub described : is_ok (method_type told.desc) ≡ true
  pub nearest : method_of (unlinked program) program.listing told ≡ Some (record { target = ref; is_static = static })
  pub declaring : Name
  pub above : is_one_of (search_order (classes_of program) told.class) declaring ≡ true
  pub declared : IsMethod program ref (in_class told declaring) static

-- ---- fields

-- The field of these indices is of this class, name and descriptor, and static or not.
pub record IsFieldAt (program : Program) (of index : ℕ) (id : MethodId) (static : Bool) : Type 0 where
  pub class : LinkedClass
  pub member : Member
  pub there : slice_get program.classes of ≡ Some class
  pub here : slice_get class.file.fields index ≡ Some member
  pub owner : class.name ≡ id.class
  pub name : name_of class.file.pool member ≡ id.name
  pub desc : desc_of class.file.pool member ≡ id.desc
  pub flags : is_static member.flags ≡ static

-- the same of any target; a listed field is static
abbrev pub IsField : Program → Target → MethodId → Bool → Type 0
IsField program (target.ApiField i) id static = (slice_get program.listing.fields i ≡ Some id) × (static ≡ true)
IsField program (target.Field of index) id static = IsFieldAt program of index id static
IsField program target.None id static = ⊥
IsField program (target.ApiMethod i) id static = ⊥
IsField program (target.Builtin i) id static = ⊥
IsField program (target.Method of index) id static = ⊥
IsField program (target.ClassName text) id static = ⊥
IsField program (target.Number n) id static = ⊥
IsField program (target.Literal i) id static = ⊥

-- The instruction reads or writes the field: the nearest one of the reference's name and descriptor, from its class on.
-- It is static exactly where the instruction says so, and one of the listing is not written.
pub record UsesField (program : Program) (class : LinkedClass) (insn : Insn) (ref : Target) : Type 0 where
  pub static : Bool
  pub writes : Bool
  pub accesses : use_of insn ≡ uses.Field static writes
  pub owner : ℕ
  pub member : ℕ
  pub constant : constant_of class insn ≡ Some (constants.Field owner member)
  pub told : MethodId
  pub refers : reference_at class.file.pool (index_of insn) ≡ Some told
  pub described : is_ok (whole_type told.desc) ≡ true
  pub nearest : field_of (unlinked program) program.listing told ≡ Some (record { target = ref; is_static = static })
  pub declaring : Name
  pub above : is_one_of (field_order (classes_of program) told.class) declaring ≡ true
  pub declared : IsField program ref (in_class told declaring) static
  pub unwritten : writes && is_api_field ref ≡ false

-- ---- the rows

-- The target is what the operand of an instruction of the class names.
abbrev pub Names : Program → LinkedClass → Insn → Target → Type 0
Names program class insn target.None = use_of insn ≡ uses.Nothing
Names program class insn (target.Number n) = LoadsNumber class insn n
Names program class insn (target.Literal i) = LoadsText program class insn i
Names program class insn (target.ClassName text) = TakesClass program class insn text
Names program class insn (target.ApiMethod i) = Calls program class insn (target.ApiMethod i)
Names program class insn (target.Builtin i) = Calls program class insn (target.Builtin i)
Names program class insn (target.Method of index) = Calls program class insn (target.Method of index)
Names program class insn (target.ApiField i) = UsesField program class insn (target.ApiField i)
Names program class insn (target.Field of index) = UsesField program class insn (target.Field of index)

-- It is so for each instruction of the program.
abbrev pub AreNamed : Program → Type 0
AreNamed program =
    (own index at : ℕ) (class : LinkedClass) (method : Method) (insn : Insn) (ref : Target) → slice_get program.classes own ≡ Some class
    → slice_get class.methods index ≡ Some method → slice_get method.insns at ≡ Some insn → slice_get method.refs at ≡ Some ref
    → Names program class insn ref
