use Rattle.inliner_tool.proofs.Planned.{gathers_fail}
use Rattle.inliner_tool.proofs.inline.given_of.Goals as goal

pub returns-in-Ok-clause-sound : goal.returns-in-Ok-clause-sound
returns-in-Ok-clause-sound c = rw (c.given_with.ensures) c.in-Ok.ensures.sound

pub returns-in-Err-clause-gathers : goal.returns-in-Err-clause-gathers
returns-in-Err-clause-gathers c = gathers_fail c.args.weaving c.args.tree c.args.client c.in-Err.ended c.in-Err.ensures.gathers
