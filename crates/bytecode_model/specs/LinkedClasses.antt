-- What stands where in a linked program: its classes, their methods, and the method that it begins with. (docs/LINKING.md)
use Rattle.std.specs.Prelude.{◌≡◌, ℕ, ◌<◌, ◌≤◌, ◌==◌, Bool, true, false, not, ◌&&◌, ◌||◌, bytes_eq, if◌then◌else◌, List, [], ◌∷◌, length, slice_get, Some, None, Ok}
use Rattle.std.specs.List.{AllByRecursion}
use Rattle.class_codec.specs.declared.tree.Code.{Code}
use Rattle.class_codec.specs.declared.tree.Const.{Const}
use Rattle.class_codec.specs.declared.tree.Member.{Member}
use Rattle.class_codec.specs.declared.tree.TableEntry.{TableEntry}
use Rattle.insn_codec.specs.Reading.{code_of}
use Rattle.insn_codec.specs.Encoding.{starts_of}
use Rattle.api_listing.specs.declared.types.Listing.{Listing}
use Rattle.api_listing.specs.Listing.{is_known}
use Rattle.api_listing.specs.Words.{is_class_name}
use Rattle.bytecode_model.specs.declared.program.Handler.{Handler}
use Rattle.bytecode_model.specs.declared.program.LinkedClass.{LinkedClass}
use Rattle.bytecode_model.specs.declared.program.Method.{Method}
use Rattle.bytecode_model.specs.declared.program.Program.{Program}
use Rattle.bytecode_model.specs.declared.program.Side.{Side}
use Rattle.bytecode_model.specs.Classes.{classes_of}
use Rattle.bytecode_model.specs.Conditions.{codes_of, describes_method, has_its_code, has_supers, is_free, is_run, overrides_in}
use Rattle.bytecode_model.specs.Starts.{index_at, insn_at}
use Rattle.bytecode_model.specs.Heads.{class_at, head_of, heads_of, name_of, desc_of, is_static, is_native, is_abstract, is_synchronized, main_name, main_desc, maker, initialiser, takes_nothing}
use Rattle.bytecode_model.specs.Files.{unlinked}
use Rattle.bytecode_model.specs.LeftMethods.{left_to_library}
use Rattle.bytecode_model.specs.Operands.{literals_of}
use Rattle.bytecode_model.specs.SearchOrder.{Name, search_order}
use Rattle.bytecode_model.specs.Layout.{has_code}
use Rattle.bytecode_model.specs.Targets.{is_type, AreNamed}

-- ---- the code of a method

-- The handler is that of the entry, where the instructions begin at these bytes.
pub record IsOfEntry (pool : List Const) (starts : List ℕ) (entry : TableEntry) (handler : Handler) : Type 0 where
  pub from : insn_at starts entry.from ≡ Some handler.from
  pub to : index_at starts entry.to ≡ Some handler.to
  pub at : insn_at starts entry.at ≡ Some handler.at
  pub class : handler.class ≡ (if entry.class == 0 then None else Some (class_at pool entry.class))

-- The method has the sizes, the instructions and the handlers of the code.
pub record IsOfCode (pool : List Const) (code : Code) (method : Method) : Type 0 where
  pub max_stack : method.max_stack ≡ code.max_stack
  pub max_locals : method.max_locals ≡ code.max_locals
  pub insns : code_of code.code ≡ Ok method.insns
  pub count : length method.handlers ≡ length code.table
  pub handlers : (i : ℕ) (entry : TableEntry) (handler : Handler) → slice_get code.table i ≡ Some entry → slice_get method.handlers i ≡ Some handler
      → IsOfEntry pool (starts_of method.insns) entry handler

-- The method is that of the member, which has one code, or none where it is abstract.
pub record IsOfMember (pool : List Const) (member : Member) (method : Method) : Type 0 where
  pub flags : method.flags ≡ member.flags
  pub name : method.name ≡ name_of pool member
  pub desc : method.desc ≡ desc_of pool member
  pub its : has_its_code member ≡ true
  pub coded : (code : Code) → codes_of member ≡ code ∷ [] → IsOfCode pool code method

-- ---- what a method may be

abbrev pub is_main : Method → Bool
is_main method = bytes_eq method.name main_name && bytes_eq method.desc main_desc

-- whether the method is begun without a call
abbrev pub is_begun : Method → Bool
is_begun method = is_main method || (bytes_eq method.name initialiser || is_run method.name method.desc)

-- The descriptor is one of a method; it is not native, and neither static nor a maker where it is abstract; there is
-- code exactly where it is not; what makes a class ready is static and takes nothing; and what is begun without a call is
-- not synchronized.
pub record IsAllowed (method : Method) : Type 0 where
  pub described : describes_method method.desc ≡ true
  pub native : is_native method.flags ≡ false
  pub plain : (is_abstract method.flags && (is_static method.flags || bytes_eq method.name maker)) ≡ false
  pub code : has_code method ≡ not (is_abstract method.flags)
  pub ready : method.name ≡ initialiser → (is_static method.flags ≡ true) × (method.desc ≡ takes_nothing)
  pub unlocked : (is_synchronized method.flags && is_begun method) ≡ false

-- whether a class of this name would override a method of the library by it: one that is neither static nor a maker
abbrev pub overrides_library : Program → Name → Method → Bool
overrides_library program class method =
    not (is_static method.flags) && (not (bytes_eq method.name maker)
    && overrides_in program.listing (record { class = class; name = method.name; desc = method.desc }) (search_order (classes_of program) class))

-- A class that is caught is one that is known.
abbrev pub CatchesKnown : Program → Handler → Type 0
CatchesKnown program handler = (name : List ℕ) → handler.class ≡ Some name → is_type (classes_of program) true name ≡ true

pub record IsLinkedMethod (program : Program) (class : LinkedClass) (method : Method) : Type 0 where
  pub allowed : IsAllowed method
  pub own : overrides_library program class.name method ≡ false
  pub handlers : AllByRecursion (CatchesKnown program) method.handlers

-- ---- classes

-- The class has a method for each of its file, in order; its name is no other's; those above it may stand there; and it leaves
-- no method to the library that an interface asks for.
pub record IsClassAt (program : Program) (own : ℕ) (class : LinkedClass) : Type 0 where
  pub count : length class.methods ≡ length class.file.methods
  pub members : (index : ℕ) (member : Member) (method : Method) → slice_get class.file.methods index ≡ Some member
      → slice_get class.methods index ≡ Some method → IsOfMember class.file.pool member method
  pub methods : AllByRecursion (IsLinkedMethod program class) class.methods
  pub named : is_class_name class.name ≡ true
  pub once : (other : ℕ) (found : LinkedClass) → slice_get program.classes other ≡ Some found → found.name ≡ class.name → other ≡ own
  pub unlisted : is_known program.listing.classes class.name ≡ false
  pub supers : has_supers (heads_of (unlinked program)) (head_of class.file) class.file.fields ≡ true
  pub left : left_to_library (unlinked program) program.listing (head_of class.file) ≡ None

abbrev pub AreLinkedClasses : Program → Type 0
AreLinkedClasses program = (own : ℕ) (class : LinkedClass) → slice_get program.classes own ≡ Some class → IsClassAt program own class

-- ---- the beginning

-- The program begins with the first main of the class of this name, which is static.
pub record BeginsIn (main : List ℕ) (program : Program) : Type 0 where
  pub class : LinkedClass
  pub there : slice_get program.classes program.main_class ≡ Some class
  pub named : class.name ≡ main
  pub method : Method
  pub here : slice_get class.methods program.main_method ≡ Some method
  pub is : is_main method ≡ true
  pub first : (index : ℕ) (before : Method) → index < program.main_method → slice_get class.methods index ≡ Some before → is_main before ≡ false
  pub static : is_static method.flags ≡ true

-- ---- literals

-- The literals are the texts of the string constants, each once, in order.
pub record AreLiterals (program : Program) : Type 0 where
  pub are : program.literals ≡ literals_of (unlinked program)
  pub once : (i j : ℕ) (text : List ℕ) → slice_get program.literals i ≡ Some text → slice_get program.literals j ≡ Some text → i ≡ j

-- ---- the whole

-- What so many files, the listing and the class link to, on this side.
pub record IsLinkedOf (side : Side) (listing : Listing) (main : List ℕ) (program : Program) : Type 0 where
  pub listing_is : program.listing ≡ listing
  pub literals : AreLiterals program
  pub free : (own : ℕ) (class : LinkedClass) → slice_get program.classes own ≡ Some class → is_free side class.file ≡ true
  pub standing : AreLinkedClasses program
  pub begins : BeginsIn main program
  pub named : AreNamed program
