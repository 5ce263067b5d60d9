use Rattle.std.proofs.Common.{[]}
use Rattle.std.proofs.lemmas.Result.{err_from_is_err_and}
use Rattle.cert_format.specs.Reading.{instruction_at, several_at}
use Rattle.cert_format.proofs.Loops.{with_fronts, both_go_on, both_end, both_done}
use Rattle.cert_format.proofs.decoding.fill.Goals as goal

pub returns-in_err-frame : goal.returns-in_err-frame
returns-in_err-frame c =
    let p = err_from_is_err_and c.from_residual.result c.from_residual.ensures.1 in
    let item = instruction_at c.args.table.now.vars c.args.table.now.names.now in
    let total = with_fronts [] [] (several_at item c.args.count c.args.used.now c.args.from.now) in
    rw (p.1, p.2) (both_end item c.in_err-frame.field-0.0 c.loop.frames c.loop.notes c.args.count c.loop.counter c.loop.used c.loop.from total
    c.loop-test.true c.in_err-frame.ensures c.loop.invariant)

pub loop-preserved : goal.loop-preserved
loop-preserved c =
    let item = instruction_at c.args.table.now.vars c.args.table.now.names.now in
    let total = with_fronts [] [] (several_at item c.args.count c.args.used.now c.args.from.now) in
    rw (c.in_ok-push_frame.ensures, c.in_ok-push.ensures.ok) (both_go_on item c.loop.frames c.loop.notes c.args.count c.loop.counter c.loop.used
    c.loop.from (c.in_ok-frame.frame, c.in_ok-frame.note) c.instruction.new.used c.instruction.new.from total c.loop-test.true c.in_ok-frame.ensures
    c.loop.invariant)

pub returns : goal.returns
returns c =
    let item = instruction_at c.args.table.now.vars c.args.table.now.names.now in
    let total = with_fronts [] [] (several_at item c.args.count c.args.used.now c.args.from.now) in
    both_done item c.loop.frames c.loop.notes c.args.count c.loop.counter c.loop.used c.loop.from total c.loop-test.false c.loop.invariant
