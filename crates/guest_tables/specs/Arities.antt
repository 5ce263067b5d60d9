-- How many arguments methods take. (docs/MACHINE.md)
use Rattle.std.specs.Prelude.{ℕ, List, map}
use Rattle.bytecode_model.specs.declared.program.LinkedClass.{LinkedClass}
use Rattle.bytecode_model.specs.declared.program.Method.{Method}
use Rattle.bytecode_model.specs.declared.program.Program.{Program}
use Rattle.guest_model.specs.Calls.{arity}

-- of the methods of each given class
unfoldable pub class_arities : LinkedClass → List ℕ
class_arities class = map (λ (m : Method). arity m.desc) class.methods

abbrev pub arities_of : Program → List (List ℕ)
arities_of program = map class_arities program.classes
