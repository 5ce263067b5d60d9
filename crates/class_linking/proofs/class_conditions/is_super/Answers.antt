use Rattle.std.proofs.Common.{◌∙◌, ◌||◌, ap, sym}
use Rattle.bytecode_model.specs.Conditions.{may_be_extended}
use Rattle.class_linking.proofs.class_conditions.is_super.Goals as goal

pub returns-else-has : goal.returns-else-has
returns-else-has c =
    c.may_be_extended.ensures ∙ ap may_be_extended c.as_slice.ensures
    ∙ ap (λ b. b || may_be_extended c.args.name.now) (sym (sym c.has.ensures ∙ c.if-has.false))
