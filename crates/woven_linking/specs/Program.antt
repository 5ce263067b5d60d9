-- The program that woven class files link to, made of the program that was woven. (What linking asks of class files: the JVM specification, section 5.4.).
-- (docs/BLOCKS.md)
use Rattle.std.specs.Prelude.{◌≡◌, ℕ, ◌+◌, ◌<◌, ◌≤◌, ◌^◌, true, List, [], ◌∷◌, length, map, Option, Ok, ⊤}
use Rattle.std.specs.List.{AllByRecursion}
use Rattle.class_codec.specs.declared.tree.ClassFile.{ClassFile}
use Rattle.class_codec.specs.declared.tree.Const.{Const}
use Rattle.class_codec.specs.Fits.{IsEncodable}
use Rattle.api_listing.specs.declared.types.Listing.{Listing}
use Rattle.api_listing.specs.Listing.{EncodesListing}
use Rattle.bytecode_model.specs.declared.program.LinkedClass.{LinkedClass}
use Rattle.bytecode_model.specs.declared.program.Method.{Method}
use Rattle.bytecode_model.specs.declared.program.Program.{Program}
use Rattle.bytecode_model.specs.declared.program.Side.TheVariants as sides
use Rattle.bytecode_model.specs.Files.{unlinked}
use Rattle.bytecode_model.specs.Heads.{class_at}
use Rattle.bytecode_model.specs.Sound.{IsSound}
use Rattle.class_linking.specs.Linking.{assembled}
use Rattle.conspec_tree.specs.declared.types.Var.{Var}
use Rattle.offset_patch.specs.declared.block.Block.{Block}
use Rattle.offset_patch.specs.Entries.{IsThere}
use Rattle.offset_patch.specs.Plan.{Plan, IsGood}
use Rattle.offset_patch.specs.Splicing.{count_of, operands_needed, wants_of}
use Rattle.class_weaving.specs.declared.woven.Woven.{Woven}
use Rattle.class_weaving.specs.Woven.{is_woven, sites_of, locals_of, woven}

-- ---- classes

-- the class with its woven file, and its methods with their blocks
abbrev pub class_with : LinkedClass → ClassFile → List Method → LinkedClass
class_with class file methods = record { name = class.name; parent = class.parent; file = file; methods = methods }

-- the class conspec/State of this file, which has no method
abbrev pub state_with : ClassFile → LinkedClass
state_with file = record { name = class_at file.pool file.this_class; parent = class_at file.pool file.super_class; file = file; methods = [] }

-- the classes with their files and methods, and after them conspec/State
abbrev pub classes_with : List LinkedClass → List ClassFile → List (List Method) → List LinkedClass
classes_with [] [] methods = []
classes_with [] (file ∷ files) methods = state_with file ∷ []
classes_with (class ∷ classes) [] methods = []
classes_with (class ∷ classes) (file ∷ files) [] = []
classes_with (class ∷ classes) (file ∷ files) (first ∷ others) = class_with class file first ∷ classes_with classes files others

-- ---- the program

-- All but its classes is as it was.
abbrev pub program_with : Program → List ClassFile → List (List Method) → Program
program_with old files methods = record {
  classes = classes_with old.classes files methods;
  listing = old.listing;
  literals = old.literals;
  main_class = old.main_class;
  main_method = old.main_method;
}

-- ---- room

-- The sizes of the method with its blocks fit, and the pool has what these name.
pub record HasRoom (plan : Plan) (pool : List Const) (method : Method) (sites : List (Option Block)) : Type 0 where
  pub stack : method.max_stack + operands_needed < 2 ^ 16
  pub locals : method.max_locals + locals_of plan method < 2 ^ 16
  pub insns : count_of sites < 2 ^ 16
  pub there : AllByRecursion (IsThere pool) (wants_of sites)

-- There is room for the blocks of the method, if it has one.
abbrev pub MethodHasRoom : Plan → List Const → Method → Type 0
MethodHasRoom plan pool method = is_woven plan method ≡ true → HasRoom plan pool method (sites_of plan method.max_locals method)

pub record ClassHasRoom (plan : Plan) (class : LinkedClass) (file : ClassFile) : Type 0 where
  pub few : length file.pool < 2 ^ 16
  pub methods : AllByRecursion (MethodHasRoom plan file.pool) class.methods

-- Each class has room in its file.
abbrev pub HaveRoom : Plan → List LinkedClass → List ClassFile → Type 0
HaveRoom plan [] files = ⊤
HaveRoom plan (class ∷ classes) [] = ⊤
HaveRoom plan (class ∷ classes) (file ∷ files) = ClassHasRoom plan class file × HaveRoom plan classes files

-- ---- the laws

-- A program was linked of a compiler's files, and these files were woven of it by a good plan.
pub record IsWovenOf (listing : Listing) (files : List ClassFile) (main : List ℕ) (old : Program) (plan : Plan) (vars : List Var) (made : Woven) : Type 0 where
  pub text : List ℕ
  pub listed : EncodesListing text listing
  pub links : assembled files listing main sides.Original ≡ Ok old
  pub sound : IsSound old
  pub good : IsGood (map (λ (v : Var). v.is_bool) vars) plan
  pub few : length vars ≤ 16
  pub woven : woven old plan vars ≡ Ok made

-- The woven files link to the program with its blocks.
abbrev pub WovenProgramIsLinked : Type 0
WovenProgramIsLinked =
    (listing : Listing) (files : List ClassFile) (main : List ℕ) (old : Program) (plan : Plan) (vars : List Var) (made : Woven)
    → IsWovenOf listing files main old plan vars made → assembled made.files listing main sides.Inlined ≡ Ok (program_with old made.files made.methods)

-- Its class files are the woven ones.
abbrev pub WovenFilesComeBack : Type 0
WovenFilesComeBack =
    (listing : Listing) (files : List ClassFile) (main : List ℕ) (old : Program) (plan : Plan) (vars : List Var) (made : Woven)
    → IsWovenOf listing files main old plan vars made → unlinked (program_with old made.files made.methods) ≡ made.files

-- Files that can be written have room for the blocks.
abbrev pub WovenFilesHaveRoom : Type 0
WovenFilesHaveRoom =
    (listing : Listing) (files : List ClassFile) (main : List ℕ) (old : Program) (plan : Plan) (vars : List Var) (made : Woven)
    → IsWovenOf listing files main old plan vars made → AllByRecursion IsEncodable made.files → HaveRoom plan old.classes made.files

-- What is made of files that can be written, of no more classes than may be given, is sound.
abbrev pub WovenProgramIsSound : Type 0
WovenProgramIsSound =
    (listing : Listing) (files : List ClassFile) (main : List ℕ) (old : Program) (plan : Plan) (vars : List Var) (made : Woven)
    → IsWovenOf listing files main old plan vars made → AllByRecursion IsEncodable made.files → length made.files ≤ 1001 → IsSound (program_with old made.files made.methods)
