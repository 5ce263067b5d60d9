use Rattle.std.proofs.lemmas.Result.{err_from_is_err_and}
use Rattle.cert_format.specs.Reading.{more_names_at}
use Rattle.cert_format.proofs.Loops.{names_go_on, names_end, names_done}
use Rattle.cert_format.proofs.names.fill.Goals as goal

pub returns-in_err-name : goal.returns-in_err-name
returns-in_err-name c =
    let p = err_from_is_err_and c.from_residual.result c.from_residual.ensures.1 in
    let total = more_names_at c.args.count c.args.names.now c.args.from.now in
    rw (p.1, p.2) (names_end c.in_err-name.field-0.0 c.loop.names c.args.count c.loop.counter c.loop.from total
    c.loop-test.true (c.in_err-name.ensures.reads c.loop.names c.loop.invariant.seen) c.loop.invariant.read)

pub loop-preserved : goal.loop-preserved
loop-preserved c =
    let total = more_names_at c.args.count c.args.names.now c.args.from.now in
    record {
      read = rw (c.in_ok-push.ensures.ok, c.in_ok-from_slice.ensures) (names_go_on c.loop.names c.args.count c.loop.counter c.loop.from c.in_ok-name.name.now c.next_name.new.from total
          c.loop-test.true (c.in_ok-name.ensures.reads c.loop.names c.loop.invariant.seen) c.loop.invariant.read);
      seen = rw (c.in_ok-push.ensures.ok, c.in_ok-from_slice.ensures) (c.in_ok-name.ensures.seen c.loop.names c.loop.invariant.seen);
    }

pub returns : goal.returns
returns c = names_done c.loop.names c.args.count c.loop.counter c.loop.from (more_names_at c.args.count c.args.names.now c.args.from.now) c.loop-test.false c.loop.invariant.read
