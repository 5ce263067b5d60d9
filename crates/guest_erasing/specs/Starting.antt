-- The machines at the start of a program and of what is woven of it. (docs/TRANSPARENCY.md)
use Rattle.std.specs.Prelude.{◌≡◌, List, [], ◌∷◌, ◌++◌}
use Rattle.std.specs.List.{AllByRecursion}
use Rattle.bytecode_model.specs.declared.program.Method.{Method}
use Rattle.bytecode_model.specs.declared.program.Program.{Program}
use Rattle.guest_heap.specs.declared.value.Value.{Value}
use Rattle.guest_model.specs.Finding.{Given}
use Rattle.guest_model.specs.Layout.{statics_of}
use Rattle.guest_model.specs.Runs.{initialisers, start_of}
use Rattle.guest_erasing.specs.Adding.{AddsState}
use Rattle.guest_erasing.specs.Laid.{TellAlike}
use Rattle.guest_erasing.specs.Mirrors.{CanBegin, Mirrors}
use Rattle.guest_erasing.specs.Places.{Sites}

-- what the first thread begins: the initialisers of the classes, in their order, and then main
abbrev pub begun_by : Program → List Given
begun_by program = initialisers program ++ (program.main_class, program.main_method) ∷ []

-- The static fields at the start are the client's, and then those of conspec/State.
pub record StartsWith (client woven : Program) : Type 0 where
  pub told : List Value
  pub statics : statics_of woven ≡ statics_of client ++ told ∷ []

-- ---- the law

-- Where arguments fit what the client begins, the machines at the start mirror each other.
abbrev pub StartsMirror : Type 0
StartsMirror =
    (sites_of : Method → Sites) (client woven : Program) → AddsState sites_of client woven → TellAlike sites_of client woven
    → StartsWith client woven → AllByRecursion (CanBegin client) (begun_by client)
    → Mirrors sites_of client woven (start_of client) (start_of woven)
