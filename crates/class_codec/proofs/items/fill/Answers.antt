use Rattle.std.proofs.lemmas.Result.{err_from_is_err_and}
use Rattle.mon_base.specs.Reading.{counted}
use Rattle.mon_base.proofs.Loop.{goes_on, ends, is_done}
use Rattle.class_codec.specs.declared.fault.ClassFault.TheVariants.{Memory}
use Rattle.class_codec.proofs.items.fill.Goals as goal

pub returns-in_err-item : goal.returns-in_err-item
returns-in_err-item g c =
    let p = err_from_is_err_and c.from_residual.result c.from_residual.ensures.1 in
    let item = g.T.Item.item_at c.args.pool.now c.args.of_method in
    let total = counted item c.args.count c.args.from.now in
    rw (p.1, p.2) (ends Memory item c.in_err-item.field-0.0 c.loop.items.items c.args.count c.loop.counter c.loop.from total
    c.loop-test.true c.in_err-item.ensures c.loop.invariant)

pub loop-preserved : goal.loop-preserved
loop-preserved g c =
    let item = g.T.Item.item_at c.args.pool.now c.args.of_method in
    let total = counted item c.args.count c.args.from.now in
    rw c.in_ok-push.ensures.items (goes_on item c.loop.items.items c.args.count c.loop.counter c.loop.from c.in_ok-item.item c.read.new.from total
    c.loop-test.true c.in_ok-item.ensures c.loop.invariant)

pub returns : goal.returns
returns g c =
    let item = g.T.Item.item_at c.args.pool.now c.args.of_method in
    let total = counted item c.args.count c.args.from.now in
    is_done item c.loop.items.items c.args.count c.loop.counter c.loop.from total c.loop-test.false c.loop.invariant
