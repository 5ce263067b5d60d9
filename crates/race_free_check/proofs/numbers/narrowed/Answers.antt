use Rattle.std.proofs.Common.{FitsSigned, w32, pos, [], map, ap, ◌∙◌, arith}
use Rattle.std.proofs.lemmas.Int.{ints}
use Rattle.std.proofs.lemmas.List.{take_all}
use Rattle.api_listing.specs.declared.events.ApiValue.TheVariants as api
use Rattle.race_free_check.proofs.Bounded.{all_at}
use Rattle.race_free_check.proofs.Grown.{mapped_more}
use Rattle.race_free_check.proofs.numbers.narrowed.Goals as goal

pub loop-number-preserved : goal.loop-number-preserved
loop-number-preserved c =
    let fits = all_at (FitsSigned w32) c.args.numbers.now c.loop-number.number-index (pos 0) c.requires c.loop-number-test.true in
    mapped_more api.Int c.args.numbers.now c.loop-number.number-index [] c.loop-number.found c.push.new.self _ c.loop-number-test.true c.loop-number.invariant c.in_ok-push.ensures.ok (ap api.Int (omega (arith, ints)))

pub returns : goal.returns
returns c = c.loop-number.invariant ∙ ap (map api.Int) (take_all c.loop-number.number-index c.args.numbers.now c.loop-number-test.false)
