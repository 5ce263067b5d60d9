use Rattle.std.proofs.Common.{arith}
use Rattle.guest_step.proofs.Initialisers.{goes_on}
use Rattle.guest_step.proofs.starting.initialisers.Goals as goal

pub loop-class-preserved : goal.loop-class-preserved
loop-class-preserved c =
    goes_on c.args.guest.now c.loop-class.class c.loop-class.found c.push_initialiser.new.found
    (omega (arith, c.loop-class-test.true, c.class_count-class-end.ensures)) c.in_ok-push_initialiser.ensures c.loop-class.invariant
