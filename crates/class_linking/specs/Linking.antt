-- What class files, a listing and a main class link to, or the first condition that fails.
-- (The Java Virtual Machine Specification, chapter 5.)
use Rattle.std.specs.Prelude.{ℕ, ◌+◌, not, nat_lt, bytes_eq, if◌then◌else◌, List, [], ◌∷◌, length, Option, Some, None, ok_or, slice_get, Result, Ok, Err}
use Rattle.mon_base.specs.Reading.{◌>>=◌, need}
use Rattle.class_codec.specs.declared.tree.Const.{Const}
use Rattle.class_codec.specs.declared.tree.Code.{Code}
use Rattle.class_codec.specs.declared.tree.Member.{Member}
use Rattle.class_codec.specs.declared.tree.ClassFile.{ClassFile}
use Rattle.insn_codec.specs.declared.fault.CodeFault.{CodeFault}
use Rattle.insn_codec.specs.declared.fault.CodeFault.TheVariants as codes
use Rattle.insn_codec.specs.declared.insn.Insn.{Insn}
use Rattle.insn_codec.specs.Reading.{code_of}
use Rattle.insn_codec.specs.Encoding.{starts_of}
use Rattle.api_listing.specs.declared.types.Listing.{Listing}
use Rattle.class_linking.specs.declared.fault.LinkFault.{LinkFault}
use Rattle.class_linking.specs.declared.fault.LinkFault.TheVariants as faults
use Rattle.bytecode_model.specs.declared.program.Handler.{Handler}
use Rattle.bytecode_model.specs.declared.program.LinkedClass.{LinkedClass}
use Rattle.bytecode_model.specs.declared.program.Method.{Method}
use Rattle.bytecode_model.specs.declared.program.Program.{Program}
use Rattle.bytecode_model.specs.declared.program.Side.{Side}
use Rattle.bytecode_model.specs.declared.program.Target.{Target}
use Rattle.class_linking.specs.Fault.{Linked, linked_from}
use Rattle.bytecode_model.specs.Heads.{class_at, head_of, heads_of, all_classes, name_of, desc_of, is_member, is_static, main_name, main_desc}
use Rattle.class_linking.specs.ClassConditions.{classes_linked}
use Rattle.bytecode_model.specs.Conditions.{is_allowed, overrides, codes_of}
use Rattle.bytecode_model.specs.Operands.{literals_of}
use Rattle.class_linking.specs.Operands.{operands_linked}
use Rattle.class_linking.specs.Handlers.{handlers_linked}
use Rattle.bytecode_model.specs.Files.{max_files}
use Rattle.bytecode_model.specs.LeftMethods.{left_to_library}
use Rattle.bytecode_model.specs.SearchOrder.{Name}

-- ---- a method

-- a method without code
abbrev pub bare : ClassFile → Member → Method
bare file member = record {
  flags = member.flags;
  name = name_of file.pool member;
  desc = desc_of file.pool member;
  max_stack = 0;
  max_locals = 0;
  insns = [];
  refs = [];
  handlers = [];
}

abbrev pub with_code : ClassFile → Member → Code → List Insn → List Target → List Handler → Method
with_code file member code insns refs handlers = record {
  flags = member.flags;
  name = name_of file.pool member;
  desc = desc_of file.pool member;
  max_stack = code.max_stack;
  max_locals = code.max_locals;
  insns = insns;
  refs = refs;
  handlers = handlers;
}

abbrev pub code_told : List ℕ → ℕ → CodeFault → LinkFault
code_told class method codes.Memory = faults.Memory
code_told class method fault = faults.Code class method fault

-- the instructions of the method of this index
abbrev pub read_of : List ℕ → ℕ → Result (List Insn) CodeFault → Linked (List Insn)
read_of class method (Ok insns) = Ok insns
read_of class method (Err fault) = Err (code_told class method fault)

abbrev pub code_linked : List ClassFile → Listing → ClassFile → ℕ → Member → Code → Linked Method
code_linked files listing file method member code = do
  insns ← read_of (head_of file).name method (code_of code.code)
  refs ← operands_linked files listing (head_of file).name file.pool method insns
  handlers ← handlers_linked files listing (head_of file).name file.pool method (length insns) (starts_of insns) code.table
  Ok (with_code file member code insns refs handlers)

abbrev pub body_linked : List ClassFile → Listing → ClassFile → ℕ → Member → Option Code → Linked Method
body_linked files listing file method member None = Ok (bare file member)
body_linked files listing file method member (Some code) = code_linked files listing file method member code

abbrev pub method_linked : List ClassFile → Listing → ClassFile → ℕ → Member → Linked Method
method_linked files listing file method member = do
  allowed ← need (is_allowed file.pool member) (faults.Method (head_of file).name (name_of file.pool member))
  own ← need (not (overrides (all_classes listing files) listing (head_of file).name file.pool member)) (faults.Overrides (head_of file).name (name_of file.pool member))
  body_linked files listing file method member (slice_get (codes_of member) 0)

abbrev pub each_method_linked : List ClassFile → Listing → ClassFile → Linked (List Method)
each_method_linked files listing file = linked_from (method_linked files listing file) 0 file.methods

-- a method that a class leaves to the library is told as one of the library that it overrides
abbrev pub nothing_left : Name → Option Name → Linked (Unit {0})
nothing_left class None = Ok tt
nothing_left class (Some name) = Err (faults.Overrides class name)

-- the methods of a class, of which none is left to the library
abbrev pub methods_linked : List ClassFile → Listing → ClassFile → Linked (List Method)
methods_linked files listing file = do
  methods ← each_method_linked files listing file
  kept ← nothing_left (head_of file).name (left_to_library files listing (head_of file))
  Ok methods

-- ---- a class

abbrev pub class_with : ClassFile → List Method → LinkedClass
class_with file methods = record { name = (head_of file).name; parent = (head_of file).parent; file = file; methods = methods }

-- what the classes of some of the files link to, class by class
abbrev pub each_linked : List ClassFile → Listing → List ClassFile → Linked (List (List Method))
each_linked files listing some = linked_from (λ at. methods_linked files listing) 0 some

abbrev pub classes_with : List ClassFile → List (List Method) → List LinkedClass
classes_with [] methods = []
classes_with (file ∷ files) [] = []
classes_with (file ∷ files) (first ∷ others) = class_with file first ∷ classes_with files others

-- ---- the program

abbrev pub if_static : ℕ → ℕ → Member → Option (ℕ × ℕ)
if_static class method member = if is_static member.flags then Some (class, method) else None

-- the first main of a class, if it is static; the first of the members has this index
abbrev pub static_main : ℕ → List Const → ℕ → List Member → Option (ℕ × ℕ)
static_main class pool method [] = None
static_main class pool method (member ∷ members) =
    if is_member pool main_name main_desc member then if_static class method member else static_main class pool (method + 1) members

-- that of the first of some files that is of the class; the first of them has this index
abbrev pub main_from : ℕ → List ClassFile → List ℕ → Option (ℕ × ℕ)
main_from class [] main = None
main_from class (file ∷ files) main =
    if bytes_eq (class_at file.pool file.this_class) main then static_main class file.pool 0 file.methods else main_from (class + 1) files main

abbrev pub main_of : List ClassFile → List ℕ → Option (ℕ × ℕ)
main_of files main = main_from 0 files main

-- the methods of each class, and the literals
abbrev pub members_of : List ClassFile → Listing → Linked (List (List Method) × List (List ℕ))
members_of files listing = each_linked files listing files >>= λ methods. Ok (methods, literals_of files)

-- What files, however many, link to. The conditions are tried in this order: those of each class; those of each method,
-- of each of its instructions and of each of its handlers; and the main class.
abbrev pub assembled : List ClassFile → Listing → List ℕ → Side → Linked Program
assembled files listing main side = do
  sound ← classes_linked side (heads_of files) listing.classes files
  members ← members_of files listing
  begin ← ok_or (main_of files main) faults.NoMain
  Ok (record { classes = classes_with files members.0; listing = listing; literals = members.1; main_class = begin.0; main_method = begin.1 })

-- What the files link to, of which there may be so many.
abbrev pub linked : List ClassFile → Listing → List ℕ → Side → Linked Program
linked files listing main side =
    need (not (nat_lt max_files (length files))) (faults.TooMany (length files)) >>= λ few. assembled files listing main side
