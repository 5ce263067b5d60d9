use Rattle.std.proofs.Common.{◌≡◌, ℤ, pos, List, map, w32, w64, to_z, of_z, FitsSigned, ap, subst, ◌∙◌, arith}
use Rattle.std.proofs.lemmas.Int.{ints, to_z-of_z}
use Rattle.std.proofs.lemmas.Result.{IfOk-weaker}
use Rattle.race_free_check.specs.Small.{HasSame}
use Rattle.api_listing.specs.declared.events.ApiValue.TheVariants as api
use Rattle.conspec_automaton.specs.Points.{near, variable_numbers, thresholds}
use Rattle.race_free_check.proofs.Pointed.{points_are, points_fit, points_named}
use Rattle.race_free_check.proofs.points.variable_points.Goals as goal

pub narrowed-requires : goal.narrowed-requires
narrowed-requires c =
    let most : to_z w64 (of_z w64 c.from.result) ≡ c.args.maxint = omega (arith, ints) in
    let least : FitsSigned w32 (pos 0) = omega (arith, ints) in
    points_fit (pos 0) c.args.maxint c.as_slice.result.now c.in_ok-near.near.items c.as_slice-2.result.now least c.ranges.maxint
    (c.in_ok-near.ensures ∙ ap (λ (n : ℤ). near (pos 0) n c.as_slice.result.now) most) (c.as_slice-2.ensures.value ∙ c.ascending-points.ensures.is)

pub returns : goal.returns
returns c =
    let cs = c.args.clauses.now in
    let most : to_z w64 (of_z w64 c.from.result) ≡ c.args.maxint = omega (arith, ints) in
    let same = subst (λ (n : ℤ). HasSame c.in_ok-thresholds.thresholds.items (thresholds n c.args.place cs)) (to_z-of_z w32 c.args.maxint c.ranges.maxint) c.in_ok-thresholds.ensures.same in
    let beside = c.in_ok-near.ensures ∙ ap (λ (n : ℤ). near (pos 0) n c.as_slice.result.now) most ∙ ap (λ (ns : List ℤ). near (pos 0) c.args.maxint ns) c.as_slice.ensures.value in
    IfOk-weaker c.narrowed.result (λ points. points ≡ map api.Int c.as_slice-2.result.now) (λ points. points ≡ map api.Int (variable_numbers c.args.maxint cs c.args.place c.args.var.now))
    (λ points is. is ∙ ap (map api.Int) (points_named c.args.maxint c.args.place cs c.args.var.now c.as_slice-2.result.now c.if-not-is_named.ensures c.if-var.false
    (points_are c.args.place cs c.args.maxint c.in_ok-thresholds.thresholds.items c.in_ok-near.near.items c.as_slice-2.result.now same beside (c.as_slice-2.ensures.value ∙ c.ascending-points.ensures.is))))
    c.narrowed.ensures
