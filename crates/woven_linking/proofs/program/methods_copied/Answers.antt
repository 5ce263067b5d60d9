use Rattle.std.proofs.Common.{◌∙◌}
use Rattle.std.proofs.lemmas.List.{take_all}
use Rattle.woven_linking.proofs.program.methods_copied.Goals as goal

pub returns : goal.returns
returns c = c.loop-method.invariant ∙ take_all c.loop-method.method-index c.args.methods.now c.loop-method-test.false
