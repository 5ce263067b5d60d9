use Rattle.std.proofs.Common.{◌∙◌}
use Rattle.std.proofs.lemmas.List.{take_all}
use Rattle.woven_linking.proofs.program.fields_copied.Goals as goal

pub returns : goal.returns
returns c = c.loop-field.invariant ∙ take_all c.loop-field.field-index c.args.fields.now c.loop-field-test.false
