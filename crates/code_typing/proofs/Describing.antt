-- The arguments that a descriptor tells, one after the other.
use Rattle.std.proofs.Common.{◌≡◌, ℕ, Bool, true, false, cond, List, [], ◌∷◌, map, Some, None, refl, ap, ◌∙◌}
use Rattle.cert_format.specs.declared.typing.VType.{VType}
use Rattle.bytecode_model.specs.declared.program.Program.{Program}
use Rattle.bytecode_model.specs.Assigning.{assignable}
use Rattle.bytecode_model.specs.Described.{Descriptor}
use Rattle.bytecode_model.specs.Makes.{type_at}
use Rattle.bytecode_model.specs.Rules.{locals_fit}
use Rattle.code_typing.specs.Steps.{after_met, after_fit}
use Rattle.bytecode_model.specs.Wants.{all_met, to_described}
use Rattle.frame_types.proofs.Choices.{some_is}
use Rattle.code_typing.proofs.Fitting.{locals_fit-following}

-- ---- operands

kept : {A : Type 0} (b : Bool) (x y : A) → cond b (Some x) None ≡ Some y → (b ≡ true) × (x ≡ y)
kept true x y e = (refl, some_is x y e)
kept false x y e = absurd cc

refused : {A : Type 0} (b : Bool) (x : A) → cond b (Some x) None ≡ None → b ≡ false
refused true x e = absurd cc
refused false x e = refl

pub met_some : (program : Program) (desc : List ℕ) (others : List Descriptor) (types rest : List VType) → after_met program desc types ≡ Some rest
    → all_met (map (to_described program) (desc ∷ others)) types ≡ all_met (map (to_described program) others) rest
met_some program desc others [] rest e = absurd cc
met_some program desc others (t ∷ types) rest e =
    let k = kept (to_described program desc t) types rest e in
    rw (k.0, k.1) refl

pub met_none : (program : Program) (desc : List ℕ) (others : List Descriptor) (types : List VType) → after_met program desc types ≡ None
    → all_met (map (to_described program) (desc ∷ others)) types ≡ false
met_none program desc others [] e = refl
met_none program desc others (t ∷ types) e =
    let k = refused (to_described program desc t) types e in
    rw k refl

-- ---- locals

pub fit_some : (program : Program) (from : VType) (others to rest : List VType) → after_fit program from to ≡ Some rest
    → locals_fit program (type_at (from ∷ others)) 0 to ≡ locals_fit program (type_at others) 0 rest
fit_some program from others [] rest e =
    let same : [] ≡ rest = some_is [] rest e in
    rw (← same) refl
fit_some program from others (t ∷ to) rest e =
    let k = kept (assignable program from t) to rest e in
    rw k.0 (locals_fit-following program from others 0 to ∙ ap (locals_fit program (type_at others) 0) k.1)

pub fit_none : (program : Program) (from : VType) (others to : List VType) → after_fit program from to ≡ None → locals_fit program (type_at (from ∷ others)) 0 to ≡ false
fit_none program from others [] e = absurd cc
fit_none program from others (t ∷ to) e =
    let k = refused (assignable program from t) to e in
    rw k refl
