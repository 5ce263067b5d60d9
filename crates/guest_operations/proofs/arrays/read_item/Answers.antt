use Rattle.std.proofs.Common.{drop}
use Rattle.guest_model.specs.Changes.{World}
use Rattle.guest_model.specs.HeapOperations.{reads_item}
use Rattle.guest_operations.specs.Operates.{at, comes}
use Rattle.guest_operations.proofs.Operates.{operates_same}
use Rattle.guest_operations.proofs.arrays.read_item.Goals as goal

pub returns : goal.returns
returns c statics =
    let items = c.args.stack.now.items in
    operates_same c.replace.result (at c.args.heap.now statics c.args.stack.now) (at c.args.heap.now statics c.replace.new.stack)
    (λ (world : World). comes world (drop 2 items) c.item_read-came.result) (λ (world : World). reads_item c.args.item world items)
    (λ monitors. c.item_read-came.ensures statics monitors) (c.replace.ensures c.args.heap.now statics)
