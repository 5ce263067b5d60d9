use Rattle.guest_model.specs.Changes.{World}
use Rattle.guest_model.specs.HeapOperations.{reads_static}
use Rattle.guest_operations.specs.Operates.{at, comes}
use Rattle.guest_operations.proofs.Operates.{operates_same}
use Rattle.guest_operations.proofs.statics.read_static.Goals as goal

pub returns : goal.returns
returns c heap =
    let items = c.args.stack.now.items in
    operates_same c.replace.result (at heap c.args.statics.now c.args.stack.now) (at heap c.args.statics.now c.replace.new.stack)
    (λ (world : World). comes world items c.static_read-came.result) (λ (world : World). reads_static c.args.program.now world c.args.target.now items)
    (λ monitors. c.static_read-came.ensures heap monitors c.args.stack.now) (c.replace.ensures heap c.args.statics.now)
