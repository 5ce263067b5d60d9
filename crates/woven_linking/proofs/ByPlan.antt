-- The methods, classes and programs with blocks, as the plan tells them over the constants of the woven files.
use Rattle.std.specs.Prelude.{ℕ, ◌+◌, if◌then◌else◌, List, [], ◌∷◌, length, map, Option}
use Rattle.class_codec.specs.declared.tree.ClassFile.{ClassFile}
use Rattle.class_codec.specs.declared.tree.Const.{Const}
use Rattle.bytecode_model.specs.declared.program.LinkedClass.{LinkedClass}
use Rattle.bytecode_model.specs.declared.program.Method.{Method}
use Rattle.bytecode_model.specs.declared.program.Program.{Program}
use Rattle.offset_patch.specs.declared.block.Block.{Block}
use Rattle.offset_patch.specs.Plan.{Plan}
use Rattle.offset_patch.specs.Splicing.{handlers_with, operands_needed, parts_named, spliced}
use Rattle.class_weaving.specs.Woven.{is_woven, sites_of, locals_of}
use Rattle.woven_linking.specs.Program.{state_with}

-- the method with these blocks, which use so many more locals and name constants of the pool; conspec/State is the class of the
-- index `state`
abbrev pub with_sites : ℕ → ℕ → List Const → Method → List (Option Block) → Method
with_sites locals state pool method sites = record {
  flags = method.flags;
  name = method.name;
  desc = method.desc;
  max_stack = method.max_stack + operands_needed;
  max_locals = method.max_locals + locals;
  insns = spliced pool method.insns sites;
  refs = parts_named state method.refs sites;
  handlers = handlers_with sites method.handlers;
}

-- the same, with as many more locals as the plan asks for
abbrev pub with_blocks : Plan → ℕ → List Const → Method → List (Option Block) → Method
with_blocks plan state pool method sites = with_sites (locals_of plan method) state pool method sites

-- A method without a block stays as it is.
abbrev pub method_with : Plan → ℕ → List Const → Method → Method
method_with plan state pool method =
    if is_woven plan method then with_blocks plan state pool method (sites_of plan method.max_locals method) else method

-- ---- classes

-- the class with its woven file
abbrev pub class_with : Plan → ℕ → LinkedClass → ClassFile → LinkedClass
class_with plan state class file =
    record { name = class.name; parent = class.parent; file = file; methods = map (method_with plan state file.pool) class.methods }

-- the classes with their files, and after them conspec/State
abbrev pub classes_with : Plan → ℕ → List LinkedClass → List ClassFile → List LinkedClass
classes_with plan state [] [] = []
classes_with plan state [] (file ∷ files) = state_with file ∷ []
classes_with plan state (class ∷ classes) [] = []
classes_with plan state (class ∷ classes) (file ∷ files) = class_with plan state class file ∷ classes_with plan state classes files

-- ---- the program

-- All but its classes is as it was.
abbrev pub program_with : Plan → Program → List ClassFile → Program
program_with plan old files = record {
  classes = classes_with plan (length old.classes) old.classes files;
  listing = old.listing;
  literals = old.literals;
  main_class = old.main_class;
  main_method = old.main_method;
}
