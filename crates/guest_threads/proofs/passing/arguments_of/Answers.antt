use Rattle.std.proofs.Common.{◌-◌, sym, arith}
use Rattle.guest_threads.proofs.Passed.{takes_none, takes_one}
use Rattle.guest_threads.proofs.passing.arguments_of.Goals as goal

pub loop-left-preserved-in-Continue-1 : goal.loop-left-preserved-in-Continue-1
loop-left-preserved-in-Continue-1 c =
    takes_one c.args.stack.now.items c.loop-left.arguments c.push.new.self _ c.loop-left.left (c.loop-left.left - 1) c.in-Some.value
    (omega (arith, c.loop-left-test.true)) (sym c.in-Some.ensures.there) c.in_ok-push.ensures.ok c.loop-left.invariant

pub loop-left-preserved : goal.loop-left-preserved
loop-left-preserved c =
    takes_none c.args.stack.now.items c.loop-left.arguments _ c.loop-left.left (c.loop-left.left - 1) (omega (arith, c.loop-left-test.true)) (sym c.in_default.ensures.there) c.loop-left.invariant
