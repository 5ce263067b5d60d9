use Rattle.inliner_tool.proofs.Rechecking.{written_is_accepted}
use Rattle.inliner_tool.proofs.inline.written_is_accepted.Goals as goal

pub returns : goal.returns
returns c = written_is_accepted c.linked_programs_are_named.ensures.named
