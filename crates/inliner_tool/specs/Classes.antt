-- The names of classes. (docs/COMMANDS.md)
use Rattle.std.specs.Prelude.{ℕ, List, codes, slice_get}
use Rattle.std.specs.Option.{option_map_or}
use Rattle.bytecode_model.specs.declared.program.LinkedClass.{LinkedClass}
use Rattle.bytecode_model.specs.declared.program.Program.{Program}

-- the name of a class of the program, or `-` where it has none of this number
abbrev pub label_of : Program → ℕ → List ℕ
label_of program class = option_map_or (λ (c : LinkedClass). c.name) (slice_get program.classes class) (codes "-")
