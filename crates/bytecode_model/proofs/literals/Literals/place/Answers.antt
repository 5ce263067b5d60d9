use Rattle.std.proofs.Common.{◌≡◌, ◌∙◌, Some, sym, arith}
use Rattle.std.specs.Prelude.{bytes_eq}
use Rattle.mon_base.proofs.Lists.{position_below}
use Rattle.bytecode_model.specs.Places.{name_place}
use Rattle.bytecode_model.proofs.literals.Literals.place.Goals as goal

pub overflow_cast-result : goal.overflow_cast-result
overflow_cast-result c =
    let texts = c.self.inside.texts in
    let text = c.as_slice.result.now in
    let at : name_place texts text ≡ Some c.in-Some.place = sym (c.in-Some.ensures ∙ c.self.invariant.placed text) in
    omega (arith, c.self.invariant.few, position_below (λ other. bytes_eq other text) 0 texts c.in-Some.place at)
