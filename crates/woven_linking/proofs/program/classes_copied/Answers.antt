use Rattle.std.proofs.Common.{◌∙◌}
use Rattle.std.proofs.lemmas.List.{take_all}
use Rattle.woven_linking.proofs.program.classes_copied.Goals as goal

pub returns : goal.returns
returns c = c.loop-class.invariant ∙ take_all c.loop-class.class-index c.args.classes.now c.loop-class-test.false
