use Rattle.guest_threads.proofs.Unwinding.{same_handler}
use Rattle.guest_threads.proofs.throwing.first_catching.Goals as goal

pub loop-handler-init : goal.loop-handler-init
loop-handler-init c = same_handler c.args.program.now c.args.at c.args.class.now c.near-near.result c.args.handlers.now c.near-near.ensures.covering
