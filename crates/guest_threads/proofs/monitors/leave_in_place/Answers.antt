use Rattle.std.proofs.Common.{refl}
use Rattle.guest_threads.proofs.Held.{leaves_at, leaves_not, read_at}
use Rattle.guest_threads.proofs.monitors.leave_in_place.Goals as goal

pub returns-then-monitor-thread-clause-is : goal.returns-then-monitor-thread-clause-is
returns-then-monitor-thread-clause-is c =
    (leaves_not c.args.thread c.args.on c.args.list.now c.as_slice.result.now c.args.place _ c.as_slice.ensures c.requires.is c.if-monitor-thread.true, refl)

pub leave_at-requires-clause-there : goal.leave_at-requires-clause-there
leave_at-requires-clause-there c = rw c.as_slice.ensures (read_at c.args.list.now c.args.place _ c.requires.within)

pub returns-clause-is : goal.returns-clause-is
returns-clause-is c =
    leaves_at c.args.thread c.args.on c.args.list.now c.as_slice.result.now c.leave_at.new.list c.args.place _ c.as_slice.ensures c.requires.is c.if-monitor-thread.false c.leave_at.ensures.is
