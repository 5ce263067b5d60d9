use Rattle.std.proofs.Common.{length, sym, ◌∙◌}
use Rattle.block_logic.proofs.Lists.{as_many}
use Rattle.block_logic.proofs.terms.length_of.Goals as goal

pub returns-in-After : goal.returns-in-After
returns-in-After c = rw c.in-After.is (c.len.ensures ∙ sym (as_many c.in-After.updates.now 0 (length c.in-After.policy.now.vars)))
