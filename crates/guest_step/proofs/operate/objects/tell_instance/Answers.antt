use Rattle.std.proofs.Common.{drop}
use Rattle.std.specs.Option.{option_and_then}
use Rattle.bytecode_model.specs.SearchOrder.{Name}
use Rattle.guest_model.specs.Changes.{World}
use Rattle.guest_model.specs.HeapOperations.{name_named, tells_instance}
use Rattle.guest_operations.specs.Operates.{at, comes}
use Rattle.guest_operations.proofs.Operates.{operates_same}
use Rattle.guest_step.proofs.operate.objects.tell_instance.Goals as goal

pub returns : goal.returns
returns c statics =
    let items = c.args.stack.now.items in
    operates_same c.replace.result (at c.args.heap.now statics c.args.stack.now) (at c.args.heap.now statics c.replace.new.stack)
    (λ (world : World). comes world (drop 1 items) c.instance_told-came.result) (λ (world : World). option_and_then (λ (name : Name). tells_instance c.args.guest.now world name items) (name_named c.args.target.now))
    (λ monitors. c.instance_told-came.ensures statics monitors) (c.replace.ensures c.args.heap.now statics)
