use Rattle.std.proofs.Common.{drop}
use Rattle.guest_model.specs.Changes.{World}
use Rattle.guest_model.specs.HeapOperations.{writes_item}
use Rattle.guest_operations.specs.Operates.{at}
use Rattle.guest_operations.proofs.Operates.{operates_same}
use Rattle.guest_step.specs.Writing.{comes_of}
use Rattle.guest_step.proofs.operate.arrays.write_item.Goals as goal

pub returns : goal.returns
returns c statics =
    let items = c.args.stack.now.items in
    operates_same c.write.result (at c.args.heap.now statics c.args.stack.now) (at c.write.new.heap statics c.write.new.stack)
    (λ (world : World). comes_of world (drop 3 items) c.array_written-writes.result) (λ (world : World). writes_item c.args.item c.args.guest.now world items)
    (λ monitors. c.array_written-writes.ensures.comes statics monitors) (c.write.ensures statics)
