use Rattle.std.proofs.Common.{◌≡◌, None, rules}
use Rattle.std.specs.Prelude.{slice_get}
use Rattle.guest_threads.proofs.GivenUp.{no_other, then_others}
use Rattle.guest_threads.proofs.going.give_up_all.Goals as goal

pub loop-monitors-preserved : goal.loop-monitors-preserved
loop-monitors-preserved c =
    then_others c.loop-monitors.monitors c.leave_top.new.monitors c.args.number c.loop-monitors.frames c.leave_top.new.frames _ c.leave_top.ensures.left c.leave_top.ensures.given
    c.loop-monitors.invariant

pub returns : goal.returns
returns c =
    let none : slice_get c.loop-monitors.frames 0 ≡ None = grind rules in
    no_other c.loop-monitors.monitors c.args.number c.loop-monitors.frames _ none c.loop-monitors.invariant
