use Rattle.std.proofs.Common.{◌∙◌}
use Rattle.std.proofs.lemmas.List.{take_all}
use Rattle.woven_linking.proofs.program.names_copied.Goals as goal

pub returns : goal.returns
returns c = c.loop-name.invariant ∙ take_all c.loop-name.name-index c.args.names.now c.loop-name-test.false
