use Rattle.inliner_tool.proofs.Transparent.{transparent}
use Rattle.inliner_tool.proofs.inline.woven_is_transparent.Goals as goal

pub returns : goal.returns
returns c = transparent c.linked_is_in_order.ensures.ordered c.linked_programs_are_named.ensures.named c.accepted_runs_are_lifted.ensures
