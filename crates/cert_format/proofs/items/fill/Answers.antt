use Rattle.std.proofs.lemmas.Result.{err_from_is_err_and}
use Rattle.cert_format.specs.Reading.{several_at}
use Rattle.cert_format.proofs.Loops.{goes_on, ends, is_done}
use Rattle.cert_format.proofs.items.fill.Goals as goal

pub returns-in_err-item : goal.returns-in_err-item
returns-in_err-item g c =
    let p = err_from_is_err_and c.from_residual.result c.from_residual.ensures.1 in
    let item = g.T.Item.item_at c.args.table.now.vars c.args.table.now.names.now in
    let total = several_at item c.args.count c.args.used.now c.args.from.now in
    rw (p.1, p.2) (ends item c.in_err-item.field-0.0 c.loop.items c.args.count c.loop.counter c.loop.used c.loop.from total
    c.loop-test.true c.in_err-item.ensures c.loop.invariant)

pub loop-preserved : goal.loop-preserved
loop-preserved g c =
    let item = g.T.Item.item_at c.args.table.now.vars c.args.table.now.names.now in
    let total = several_at item c.args.count c.args.used.now c.args.from.now in
    rw c.in_ok-push.ensures.ok (goes_on item c.loop.items c.args.count c.loop.counter c.loop.used c.loop.from c.in_ok-item.item c.read.new.used c.read.new.from total
    c.loop-test.true c.in_ok-item.ensures c.loop.invariant)

pub returns : goal.returns
returns g c =
    let item = g.T.Item.item_at c.args.table.now.vars c.args.table.now.names.now in
    let total = several_at item c.args.count c.args.used.now c.args.from.now in
    is_done item c.loop.items c.args.count c.loop.counter c.loop.used c.loop.from total c.loop-test.false c.loop.invariant
