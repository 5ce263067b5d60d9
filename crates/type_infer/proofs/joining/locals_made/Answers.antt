use Rattle.std.proofs.Common.{◌≡◌, ◌∙◌, ℕ, false, List, map, sym}
use Rattle.cert_format.specs.declared.typing.VType.{VType}
use Rattle.cert_format.specs.declared.typing.VType.TheVariants.{UninitThis}
use Rattle.bytecode_model.specs.Makes.{type_at}
use Rattle.bytecode_model.specs.Rules.{has_object}
use Rattle.type_infer.specs.Solving.{unless}
use Rattle.type_infer.proofs.Lists.{if_ok}
use Rattle.type_infer.proofs.Settling.{free_stays, unless_each}
use Rattle.type_infer.proofs.joining.locals_made.Goals as goal

pub returns-then-not-has_this-clause-types : goal.returns-then-not-has_this-clause-types
returns-then-not-has_this-clause-types c =
    let free : has_object UninitThis c.args.locals ≡ false = rw c.as_slice.ensures at (sym c.has_this.ensures ∙ c.if-not-has_this.true) in
    free_stays UninitThis c.args.locals free

pub returns-clause-types : goal.returns-clause-types
returns-clause-types c =
    let locals = c.args.locals in
    let left : c.in_ok-types.types ≡ map (unless UninitThis) locals = rw c.as_slice-2.ensures at c.in_ok-types.ensures in
    if_ok c.new.result (λ (made : List VType). (j : ℕ) → type_at made j ≡ type_at c.in_ok-types.types j)
    (λ (made : List VType). (j : ℕ) → type_at made j ≡ unless UninitThis (type_at locals j)) (λ made e j. e j ∙ unless_each UninitThis locals c.in_ok-types.types left j)
    c.new.ensures.same
