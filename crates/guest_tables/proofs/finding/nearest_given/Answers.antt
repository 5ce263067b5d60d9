use Rattle.std.proofs.Common.{◌+◌, ◌-◌, length, arith, ◌∙◌}
use Rattle.guest_tables.proofs.Nearest.{goes_up}
use Rattle.guest_tables.proofs.finding.nearest_given.Goals as goal

pub loop-preserved : goal.loop-preserved
loop-preserved c =
    let given = length c.args.guest.now.classes in
    rw c.as_slice-at.ensures
    (goes_up c.args.guest.now (given - c.loop.counter) (given - (c.loop.counter + 1)) c.args.name.now c.args.desc.now c.loop.at.now c.in_ok-index.index c.in_ok-of.of.now
    (omega (arith, c.loop-test.true, c.count-end.ensures)) c.in_ok-index.ensures c.in_ok-of.ensures c.in-None.ensures ∙ c.loop.invariant)
