-- The layout of a program and of what is told of its instructions: how many instructions each method with code has.
-- (docs/TYPING.md)
use Rattle.std.specs.Prelude.{◌≡◌, ℕ, Bool, nat_lt, List, length, map, filter}
use Rattle.bytecode_model.specs.declared.program.LinkedClass.{LinkedClass}
use Rattle.bytecode_model.specs.declared.program.Method.{Method}
use Rattle.bytecode_model.specs.declared.program.Program.{Program}

abbrev pub has_code : Method → Bool
has_code method = nat_lt 0 (length method.insns)

-- the methods of a class that have code
abbrev pub coded : List Method → List Method
coded methods = filter has_code methods

-- by class and method with code, the number of instructions
abbrev pub program_layout : Program → List (List ℕ)
program_layout program = map (λ (class : LinkedClass). map (λ (method : Method). length method.insns) (coded class.methods)) program.classes

-- the same of lists by class, method with code, and instruction
abbrev pub layout_of : {A : Type 0} → List (List (List A)) → List (List ℕ)
layout_of told = map (map length) told

-- What is told is laid out as the program is.
abbrev pub IsLaidOut : {A : Type 0} → Program → List (List (List A)) → Type 0
IsLaidOut program told = layout_of told ≡ program_layout program
