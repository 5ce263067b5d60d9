use Rattle.std.proofs.Common.{drop}
use Rattle.guest_model.specs.Changes.{World}
use Rattle.guest_model.specs.HeapOperations.{divides}
use Rattle.guest_operations.specs.Operates.{at, comes, with_monitors}
use Rattle.guest_operations.proofs.Operates.{operates_same}
use Rattle.guest_operations.proofs.numbers.divide.Goals as goal

pub returns : goal.returns
returns c heap statics =
    let items = c.args.stack.now.items in
    operates_same c.replace.result (at heap statics c.args.stack.now) (at heap statics c.replace.new.stack)
    (λ (world : World). comes world (drop 2 items) c.divided-came.result) (λ (world : World). divides world c.args.remainder items)
    (λ monitors. c.divided-came.ensures (with_monitors (at heap statics c.args.stack.now) monitors)) (c.replace.ensures heap statics)
