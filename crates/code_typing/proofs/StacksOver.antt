-- Stacks that are gone over from the front, side by side.
use Rattle.std.proofs.Common.{◌≡◌, Bool, true, List, [], ◌∷◌, length, map, refl, sym, ap, ap₂, ◌∙◌, rules, tests}
use Rattle.std.specs.Prelude.{◌&&◌, ◌==◌}
use Rattle.cert_format.specs.declared.typing.VType.{VType}
use Rattle.bytecode_model.specs.declared.program.Program.{Program}
use Rattle.bytecode_model.specs.Assigning.{assignable}
use Rattle.bytecode_model.specs.Rules.{stack_fits}

-- no operand is assignable to none alone
pub none_fit : (program : Program) (to : List VType) → (length to == 0) ≡ stack_fits program [] to
none_fit program [] = refl
none_fit program (t ∷ to) = search (rules, tests)

-- the first fits, and the others are left
pub one_fits : {X : Type 0} (program : Program) (f : X → VType) (from : List X) (to : List VType) (x : X) (t : VType) (others : List X) (rest : List VType)
    → from ≡ x ∷ others → to ≡ t ∷ rest → assignable program (f x) t ≡ true → stack_fits program (map f others) rest ≡ stack_fits program (map f from) to
one_fits {X = X} program f from to x t others rest split parts fits =
    sym (ap₂ (λ (xs : List X) (ts : List VType). stack_fits program (map f xs) ts) split parts ∙ ap (λ (b : Bool). b && stack_fits program (map f others) rest) fits)

-- the same of types as they stand
pub both_fit : (program : Program) (from to : List VType) (u t : VType) (others rest : List VType)
    → from ≡ u ∷ others → to ≡ t ∷ rest → assignable program u t ≡ true → stack_fits program others rest ≡ stack_fits program from to
both_fit program from to u t others rest split parts fits =
    sym (ap₂ (stack_fits program) split parts ∙ ap (λ (b : Bool). b && stack_fits program others rest) fits)
