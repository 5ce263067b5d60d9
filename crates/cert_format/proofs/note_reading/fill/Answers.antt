use Rattle.std.proofs.lemmas.Result.{err_from_is_err_and}
use Rattle.mon_base.specs.Reading.{counted}
use Rattle.mon_base.proofs.Loop.{goes_on, ends, is_done}
use Rattle.cert_format.specs.declared.fault.CertForm.TheVariants.{Memory}
use Rattle.cert_format.specs.Reading.{term_at}
use Rattle.cert_format.proofs.note_reading.fill.Goals as goal

pub returns-in_err-next : goal.returns-in_err-next
returns-in_err-next c =
    let p = err_from_is_err_and c.from_residual.result c.from_residual.ensures.1 in
    rw (p.1, p.2) (ends Memory term_at c.in_err-next.field-0.0 c.loop.terms c.args.count c.loop.counter c.loop.from (counted term_at c.args.count c.args.from.now) c.loop-test.true c.in_err-next.ensures c.loop.invariant)

pub loop-preserved : goal.loop-preserved
loop-preserved c =
    rw c.in_ok-push.ensures.ok (goes_on term_at c.loop.terms c.args.count c.loop.counter c.loop.from c.in_ok-next.next c.term.new.from (counted term_at c.args.count c.args.from.now) c.loop-test.true c.in_ok-next.ensures c.loop.invariant)

pub returns : goal.returns
returns c = is_done term_at c.loop.terms c.args.count c.loop.counter c.loop.from (counted term_at c.args.count c.args.from.now) c.loop-test.false c.loop.invariant
