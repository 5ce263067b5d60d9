use Rattle.std.proofs.Common.{drop}
use Rattle.guest_model.specs.Changes.{World}
use Rattle.guest_model.specs.HeapOperations.{length_told}
use Rattle.guest_operations.specs.Operates.{at, comes}
use Rattle.guest_operations.proofs.Operates.{operates_same}
use Rattle.guest_operations.proofs.arrays.tell_length.Goals as goal

pub returns : goal.returns
returns c statics =
    let items = c.args.stack.now.items in
    operates_same c.replace.result (at c.args.heap.now statics c.args.stack.now) (at c.args.heap.now statics c.replace.new.stack)
    (λ (world : World). comes world (drop 1 items) c.in_ok-came.came) (λ (world : World). length_told world items)
    (λ monitors. c.in_ok-came.ensures statics monitors) (c.replace.ensures c.args.heap.now statics)
