use Rattle.std.proofs.Common.{refl}
use Rattle.guest_threads.proofs.Keys.{if_left, if_set}
use Rattle.guest_threads.proofs.monitors.leave_at.Goals as goal

pub returns-then-monitor-eq1-clause-noted : goal.returns-then-monitor-eq1-clause-noted
returns-then-monitor-eq1-clause-noted c =
    if_left c.args.list.now c.remove.new.self c.args.place c.args.places.now c.forget_place.new.places c.requires.noted c.remove.ensures.left c.forget_place.ensures

pub returns-else-monitor-eq1-clause-noted : goal.returns-else-monitor-eq1-clause-noted
returns-else-monitor-eq1-clause-noted c = if_set c.args.list.now c.args.place c.args.monitor _ c.args.places.now c.requires.there refl c.requires.noted
