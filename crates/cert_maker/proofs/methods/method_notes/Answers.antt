use Rattle.mon_base.proofs.Lists.{front_is}
use Rattle.cert_maker.proofs.TypedNotes.{parts_step}
use Rattle.cert_maker.proofs.methods.method_notes.Goals as goal

pub loop-refs-preserved : goal.loop-refs-preserved
loop-refs-preserved c =
    let split = front_is c.loop-refs.refs.now c.target-item.result c.in-len1-up.len_at_least c.target-item.is in
    parts_step c.args.items.now.policy c.args.items.now.mode c.args.method.now.max_locals c.loop-refs.refs.now _ c.target-item.result c.loop-refs.notes _ _
    c.loop-refs.left.now _ c.in_ok-count.count split c.loop-refs.invariant c.in_ok-count.ensures.notes c.in_ok-count.ensures.count
    c.following-left.ensures
