use Rattle.std.proofs.Common.{length, sym, arith}
use Rattle.block_logic.proofs.Lists.{after_first, after_past}
use Rattle.block_logic.proofs.terms.after_at.Goals as goal

pub returns-then-at-len : goal.returns-then-at-len
returns-then-at-len c =
    rw c.variable_after.ensures
    (sym (after_first c.args.updates.now (length c.args.policy.now.vars) c.args.at (omega (arith, c.if-at-len.true, c.len.ensures))))

pub returns-else-at-len : goal.returns-else-at-len
returns-else-at-len c = sym (after_past c.args.updates.now 0 (length c.args.policy.now.vars) c.args.at (omega (arith, c.if-at-len.false, c.len.ensures)))
