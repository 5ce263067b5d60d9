-- What the tables tell of methods.
use Rattle.std.proofs.Common.{◌≡◌, ℕ, List, Option, Some, None, refl, ap, ◌∙◌}
use Rattle.std.specs.Prelude.{slice_get}
use Rattle.std.specs.Option.{option_and_then, option_map}
use Rattle.std.proofs.lemmas.Option.{slice_get-map}
use Rattle.bytecode_model.specs.declared.program.LinkedClass.{LinkedClass}
use Rattle.bytecode_model.specs.declared.program.Method.{Method}
use Rattle.bytecode_model.specs.declared.program.Program.{Program}
use Rattle.guest_model.specs.Calls.{arity}
use Rattle.guest_model.specs.Places.{method_at}
use Rattle.guest_tables.specs.Arities.{arities_of, class_arities}

pub arity_given : (program : Program) (class method : ℕ)
    → option_and_then (λ (row : List ℕ). slice_get row method) (slice_get (arities_of program) class) ≡ option_map (λ (m : Method). arity m.desc) (method_at program class method)
unfolding class_arities
arity_given program class method =
    ap (option_and_then (λ (row : List ℕ). slice_get row method)) (slice_get-map class_arities program.classes class)
    ∙ by (slice_get program.classes class) where
      by : (o : Option LinkedClass) → option_and_then (λ (row : List ℕ). slice_get row method) (option_map class_arities o)
          ≡ option_map (λ (m : Method). arity m.desc) (option_and_then (λ (c : LinkedClass). slice_get c.methods method) o)
      by None = refl
      by (Some c) = slice_get-map (λ (m : Method). arity m.desc) c.methods method
