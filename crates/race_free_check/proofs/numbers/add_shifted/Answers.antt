use Rattle.std.proofs.Common.{◌^◌, ◌++◌, ℤ, pos, ◌+ℤ◌, List, map, ap, ◌∙◌, take, to_z, of_z, w64, arith}
use Rattle.std.proofs.lemmas.Int.{ints, to_z-of_z}
use Rattle.std.proofs.lemmas.List.{take_all}
use Rattle.race_free_check.proofs.Bounded.{small_at}
use Rattle.race_free_check.proofs.Grown.{mapped_more, small_more}
use Rattle.race_free_check.proofs.numbers.add_shifted.Goals as goal

pub overflow_add-by : goal.overflow_add-by
overflow_add-by c =
    let small = small_at (2 ^ 31) c.args.numbers.now c.loop-number.number-index (pos 0) c.requires.numbers c.loop-number-test.true in
    grind (arith, ints)

pub loop-number-preserved : goal.loop-number-preserved
loop-number-preserved c =
    let small = small_at (2 ^ 31) c.args.numbers.now c.loop-number.number-index (pos 0) c.requires.numbers c.loop-number-test.true in
    record {
      adds = mapped_more (λ n. to_z w64 (of_z w64 c.args.by) +ℤ n) c.args.numbers.now c.loop-number.number-index c.args.found.now.items c.loop-number.found.items c.push.new.self.items _ c.loop-number-test.true c.loop-number.invariant.adds c.in_ok-push.ensures.items (omega (arith, ints));
      small = small_more (2 ^ 32) c.loop-number.found.items c.push.new.self.items _ c.loop-number.invariant.small c.in_ok-push.ensures.items (record { low = omega (arith, ints); high = omega (arith, ints) });
    }

pub returns-clause-adds : goal.returns-clause-adds
returns-clause-adds c =
    let same = to_z-of_z w64 c.args.by c.ranges.by in
    c.loop-number.invariant.adds
    ∙ ap (λ (m : ℤ). c.args.found.now.items ++ map (λ n. m +ℤ n) (take c.loop-number.number-index c.args.numbers.now)) same
    ∙ ap (λ (ns : List ℤ). c.args.found.now.items ++ map (λ n. c.args.by +ℤ n) ns) (take_all c.loop-number.number-index c.args.numbers.now c.loop-number-test.false)

pub returns-clause-small : goal.returns-clause-small
returns-clause-small c = c.loop-number.invariant.small
