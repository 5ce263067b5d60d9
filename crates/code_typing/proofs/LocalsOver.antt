-- Locals that are gone over from the front.
use Rattle.std.proofs.Common.{◌≡◌, ℕ, ◌+◌, Bool, true, false, List, ◌∷◌, sym, ap, ◌∙◌}
use Rattle.std.specs.Prelude.{◌&&◌}
use Rattle.cert_format.specs.declared.typing.VType.{VType}
use Rattle.bytecode_model.specs.declared.program.Program.{Program}
use Rattle.bytecode_model.specs.Assigning.{assignable}
use Rattle.bytecode_model.specs.Rules.{locals_fit}

module _ (program : Program) (from : ℕ → VType) (j : ℕ) (to : List VType) (t : VType) (rest : List VType) (split : to ≡ t ∷ rest) where
  -- the first fits, and the others are left
  pub one_fits : assignable program (from j) t ≡ true → locals_fit program from (j + 1) rest ≡ locals_fit program from j to
  one_fits fits = sym (ap (locals_fit program from j) split ∙ ap (λ (b : Bool). b && locals_fit program from (j + 1) rest) fits)

  -- the first does not fit
  pub one_fails : assignable program (from j) t ≡ false → false ≡ locals_fit program from j to
  one_fails fails = sym (ap (locals_fit program from j) split ∙ ap (λ (b : Bool). b && locals_fit program from (j + 1) rest) fails)
