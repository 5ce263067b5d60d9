use Rattle.std.proofs.Common.{◌^◌, ℤ, pos, List, ap, ◌∙◌, take, to_z, of_z, w64, arith}
use Rattle.std.proofs.lemmas.Int.{ints, to_z-of_z}
use Rattle.std.proofs.lemmas.List.{take_all}
use Rattle.conspec_automaton.specs.Points.{near}
use Rattle.race_free_check.proofs.Bounded.{small_at}
use Rattle.race_free_check.proofs.Grown.{near_more}
use Rattle.race_free_check.proofs.numbers.near.Goals as goal

pub overflow_add-number : goal.overflow_add-number
overflow_add-number c =
    let small = small_at (2 ^ 34) c.args.numbers.now c.loop-number.number-index (pos 0) c.requires c.loop-number-test.true in
    omega (arith, ints)

pub overflow_sub-number : goal.overflow_sub-number
overflow_sub-number c =
    let small = small_at (2 ^ 34) c.args.numbers.now c.loop-number.number-index (pos 0) c.requires c.loop-number-test.true in
    omega (arith, ints)

pub loop-number-preserved : goal.loop-number-preserved
loop-number-preserved c =
    let small = small_at (2 ^ 34) c.args.numbers.now c.loop-number.number-index (pos 0) c.requires c.loop-number-test.true in
    near_more (to_z w64 (of_z w64 c.args.low)) (to_z w64 (of_z w64 c.args.high)) c.args.numbers.now c.loop-number.number-index c.loop-number.found.items c.add_between.new.found.items c.add_between-in-loop-number.new.found.items c.add_between-in-loop-number-2.new.found.items
    _ _ _ c.loop-number-test.true (omega (arith, ints)) (omega (arith, ints)) (omega (arith, ints)) c.loop-number.invariant c.in_ok-add_between.ensures c.in_ok-add_between-2.ensures c.in_ok-add_between-3.ensures

pub returns : goal.returns
returns c =
    let least = to_z-of_z w64 c.args.low c.ranges.low in
    let most = to_z-of_z w64 c.args.high c.ranges.high in
    c.loop-number.invariant
    ∙ ap (λ (low : ℤ). near low (to_z w64 (of_z w64 c.args.high)) (take c.loop-number.number-index c.args.numbers.now)) least
    ∙ ap (λ (high : ℤ). near c.args.low high (take c.loop-number.number-index c.args.numbers.now)) most
    ∙ ap (λ (ns : List ℤ). near c.args.low c.args.high ns) (take_all c.loop-number.number-index c.args.numbers.now c.loop-number-test.false)
