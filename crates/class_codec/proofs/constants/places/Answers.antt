use Rattle.std.proofs.Common.{true, arith}
use Rattle.std.proofs.lemmas.Result.{err_from_is_err_and}
use Rattle.class_codec.specs.Reading.{places_at}
use Rattle.class_codec.proofs.Loop.{place_goes_on, place_ends, places_done, constants_push}
use Rattle.class_codec.proofs.constants.places.Goals as goal

pub returns-in_err-next-clause-reads : goal.returns-in_err-next-clause-reads
returns-in_err-next-clause-reads c =
    let p = err_from_is_err_and c.from_residual.result c.from_residual.ensures.1 in
    let l = c.loop-number in
    let total = places_at true c.args.count c.args.from.now in
    rw (p.1, p.2) (place_ends c.in_err-next.field-0.0 l.pool.items l.second c.args.count l.number l.from total
    c.loop-number-test.true c.in_err-next.ensures.reads l.invariant.0)

pub loop-number-preserved : goal.loop-number-preserved
loop-number-preserved c =
    let l = c.loop-number in
    let total = places_at true c.args.count c.args.from.now in
    rw (c.in_ok-push.ensures.items, c.takes_two-second.ensures) (
      place_goes_on l.pool.items l.second c.args.count l.number l.from c.in_ok-next.next c.place.new.from total
          c.loop-number-test.true c.in_ok-next.ensures.reads l.invariant.0,
      omega (arith, c.in_ok-next.ensures.moves, l.invariant.1, constants_push l.pool.items c.in_ok-next.next),
    )

pub returns-clause-reads : goal.returns-clause-reads
returns-clause-reads c =
    let l = c.loop-number in
    let total = places_at true c.args.count c.args.from.now in
    places_done l.pool.items l.second c.args.count l.number l.from total c.loop-number-test.false l.invariant.0
