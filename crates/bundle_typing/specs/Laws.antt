-- That what generated bundles link to can be typed. (docs/GENERATED.md)
use Rattle.std.specs.Prelude.{◌≡◌, ◌<◌, ℕ, length, slice_get, Some, None}
use Rattle.bytecode_model.specs.declared.program.LinkedClass.{LinkedClass}
use Rattle.bytecode_model.specs.declared.program.Method.{Method}
use Rattle.bytecode_model.specs.declared.program.Program.{Program}
use Rattle.bundle_gen.specs.Linked.{generated_program}
use Rattle.bytecode_model.specs.Rules.{Frames}
use Rattle.bytecode_model.specs.Typed.{row_in}

-- These frames meet the rules at the first n instructions of the method.
abbrev pub AreMet : Program → ℕ → LinkedClass → Method → ℕ → Frames → Type 0
AreMet program own class method n frames = (at : ℕ) → at < n → row_in program own class method frames at ≡ None

-- Some frames do.
abbrev pub CanBeMet : Program → ℕ → LinkedClass → Method → ℕ → Type 0
CanBeMet program own class method n = (frames : Frames) × AreMet program own class method n frames

-- Each method of the program has frames that meet the rules at all of its instructions.
abbrev pub EachCanBeMet : Program → Type 0
EachCanBeMet program =
    (own index : ℕ) (class : LinkedClass) (method : Method) → slice_get program.classes own ≡ Some class
    → slice_get class.methods index ≡ Some method → CanBeMet program own class method (length method.insns)

-- So it is of the program of a bundle.
abbrev pub BundlesCanBeTyped : Type 0
BundlesCanBeTyped = (seed classes sites : ℕ) → EachCanBeMet (generated_program seed classes sites)
