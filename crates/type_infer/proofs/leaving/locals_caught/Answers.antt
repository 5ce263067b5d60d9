use Rattle.std.proofs.Common.{◌≡◌, ◌∙◌, ℕ, false, List, map, refl, sym, ap}
use Rattle.std.specs.List.{list_any}
use Rattle.cert_format.specs.declared.typing.VType.{VType}
use Rattle.bytecode_model.specs.Makes.{type_at}
use Rattle.bytecode_model.specs.Rules.{local_caught, when_thrown}
use Rattle.type_infer.specs.Unmade.{is_unmade}
use Rattle.type_infer.proofs.Lists.{if_ok, type_at-map}
use Rattle.type_infer.proofs.Unmade.{made_at, made_is_thrown}
use Rattle.type_infer.proofs.leaving.locals_caught.Goals as goal

pub returns-then-not-has_unmade-clause-are : goal.returns-then-not-has_unmade-clause-are
returns-then-not-has_unmade-clause-are c =
    let found = c.args.told.now.locals in
    let free : list_any is_unmade found ≡ false = rw (c.as_slice-types.ensures, c.frame.ensures) at (sym c.has_unmade.ensures ∙ c.if-not-has_unmade.true) in
    if_ok c.locals.result (λ (locals : List VType). locals ≡ found) (λ (locals : List VType). (j : ℕ) → type_at locals j ≡ local_caught found j)
    (λ locals e j. ap (λ l. type_at l j) e ∙ sym (made_is_thrown (type_at found j) (made_at found free j))) c.locals.ensures

pub returns-clause-are : goal.returns-clause-are
returns-clause-are c =
    let found = c.args.told.now.locals in
    let thrown : c.in_ok-locals.locals ≡ map when_thrown found = rw (c.as_slice-types.ensures, c.frame.ensures) at c.in_ok-locals.ensures in
    if_ok c.new.result (λ (locals : List VType). (j : ℕ) → type_at locals j ≡ type_at c.in_ok-locals.locals j)
    (λ (locals : List VType). (j : ℕ) → type_at locals j ≡ local_caught found j) (λ locals e j. e j ∙ ap (λ l. type_at l j) thrown ∙ type_at-map when_thrown refl found j)
    c.new.ensures.same
