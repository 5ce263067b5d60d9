use Rattle.std.proofs.Common.{sym, ◌∙◌}
use Rattle.mon_base.proofs.Lists.{front_is}
use Rattle.code_typing.proofs.StacksOver.{both_fit}
use Rattle.code_typing.proofs.following.all_fit.Goals as goal

pub loop-from-preserved : goal.loop-from-preserved
loop-from-preserved c =
    let from = c.loop-from.from.now in
    let to = c.loop-from.to.now in
    let split = front_is from c.t-item.result c.in-len1-up.len_at_least c.t-item.is in
    let parts = front_is to c.first-item.result c.in-len1-up-to.len_at_least c.first-item.is in
    both_fit c.args.program.now from to c.t-item.result c.first-item.result _ _ split parts (sym c.assignable.ensures ∙ c.if-not-assignable.false)
    ∙ c.loop-from.invariant
