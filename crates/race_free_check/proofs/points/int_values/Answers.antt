use Rattle.std.proofs.Common.{FitsSigned, w32, pos, get_or, [], map, ap, ◌∙◌, rules}
use Rattle.std.proofs.lemmas.Int.{to_z-of_z}
use Rattle.std.proofs.lemmas.List.{take_all}
use Rattle.api_listing.specs.declared.events.ApiValue.TheVariants as api
use Rattle.race_free_check.proofs.Grown.{mapped_more}
use Rattle.race_free_check.proofs.points.int_values.Goals as goal

pub loop-number-preserved : goal.loop-number-preserved
loop-number-preserved c =
    let fits : FitsSigned w32 (get_or c.args.numbers.now c.loop-number.number-index (pos 0)) = search rules in
    mapped_more api.Int c.args.numbers.now c.loop-number.number-index [] c.loop-number.values c.push.new.self _ c.loop-number-test.true c.loop-number.invariant c.in_ok-push.ensures.ok (ap api.Int (to_z-of_z w32 (get_or c.args.numbers.now c.loop-number.number-index (pos 0)) fits))

pub returns : goal.returns
returns c = c.loop-number.invariant ∙ ap (map api.Int) (take_all c.loop-number.number-index c.args.numbers.now c.loop-number-test.false)
