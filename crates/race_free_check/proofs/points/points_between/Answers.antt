use Rattle.std.proofs.Common.{◌≡◌, ◌^◌, ◌++◌, ◌∷◌, [], ℤ, List, length, map, w64, to_z, of_z, sym, ap, subst, ◌∙◌}
use Rattle.std.specs.Prelude.{◌==◌}
use Rattle.std.proofs.lemmas.Int.{to_z-of_z}
use Rattle.std.proofs.lemmas.Result.{IfOk-weaker}
use Rattle.api_listing.specs.declared.events.ApiValue.TheVariants as api
use Rattle.conspec_automaton.specs.Points.{near, points_between}
use Rattle.race_free_check.specs.Small.{AreSmall}
use Rattle.race_free_check.proofs.Bounded.{all_wider}
use Rattle.race_free_check.proofs.Pointed.{between_fits, between_is}
use Rattle.race_free_check.proofs.points.points_between.Goals as goal

pub near-requires : goal.near-requires
near-requires c = subst (λ (ns : List ℤ). AreSmall (2 ^ 34) ns) (sym c.as_slice-named.ensures.value) (all_wider c.args.constants.items c.requires.small)

pub narrowed-requires : goal.narrowed-requires
narrowed-requires c =
    let least = to_z-of_z w64 c.args.low c.ranges.low in
    let most = to_z-of_z w64 c.args.high c.ranges.high in
    let beside =
    c.in_ok-near.ensures ∙ ap (λ (n : ℤ). near n (to_z w64 (of_z w64 c.args.high)) c.as_slice-named.result.now) least ∙ ap (λ (n : ℤ). near c.args.low n c.as_slice-named.result.now) most ∙ ap (λ (ns : List ℤ). near c.args.low c.args.high ns) c.as_slice-named.ensures.value in
    between_fits c.args.low c.args.high c.args.constants.items c.in_ok-near.near.items c.push.new.self.items c.push-2.new.self.items c.as_slice.result.now beside
    (c.in_ok-push.ensures.items ∙ ap (λ (n : ℤ). c.in_ok-near.near.items ++ n ∷ []) least) (c.in_ok-push-2.ensures.items ∙ ap (λ (n : ℤ). c.push.new.self.items ++ n ∷ []) most)
    (c.as_slice.ensures.value ∙ c.ascending-points.ensures.is) c.requires.low c.requires.high

pub returns : goal.returns
returns c =
    let least = to_z-of_z w64 c.args.low c.ranges.low in
    let most = to_z-of_z w64 c.args.high c.ranges.high in
    let beside =
    c.in_ok-near.ensures ∙ ap (λ (n : ℤ). near n (to_z w64 (of_z w64 c.args.high)) c.as_slice-named.result.now) least ∙ ap (λ (n : ℤ). near c.args.low n c.as_slice-named.result.now) most ∙ ap (λ (ns : List ℤ). near c.args.low c.args.high ns) c.as_slice-named.ensures.value in
    let some = ap (λ (ns : List ℤ). length ns == 0) (sym c.as_slice-named.ensures.value) ∙ sym c.if-is_empty.ensures in
    IfOk-weaker c.narrowed.result (λ points. points ≡ map api.Int c.as_slice.result.now) (λ points. points ≡ map api.Int (points_between c.args.low c.args.high c.args.constants.items))
    (λ points is. is ∙ ap (map api.Int) (between_is c.args.low c.args.high c.args.constants.items c.in_ok-near.near.items c.push.new.self.items c.push-2.new.self.items c.as_slice.result.now beside
    (c.in_ok-push.ensures.items ∙ ap (λ (n : ℤ). c.in_ok-near.near.items ++ n ∷ []) least) (c.in_ok-push-2.ensures.items ∙ ap (λ (n : ℤ). c.push.new.self.items ++ n ∷ []) most)
    (c.as_slice.ensures.value ∙ c.ascending-points.ensures.is) some))
    c.narrowed.ensures
