-- Methods that make a class ready. (docs/MACHINE.md)
use Rattle.std.specs.Prelude.{ℕ, Option, option_and_then, slice_get}
use Rattle.bytecode_model.specs.declared.program.LinkedClass.{LinkedClass}
use Rattle.bytecode_model.specs.declared.program.Program.{Program}
use Rattle.guest_model.specs.Finding.{Given}
use Rattle.guest_model.specs.Runs.{initialiser_of}

-- the initialiser of the class with this index, if there is the class and it has one
abbrev pub initialiser_at : Program → ℕ → Option Given
initialiser_at program class = option_and_then (λ (c : LinkedClass). initialiser_of (class, c)) (slice_get program.classes class)
