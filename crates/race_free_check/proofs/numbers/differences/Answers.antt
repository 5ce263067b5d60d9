use Rattle.std.proofs.Common.{◌^◌, [], ℤ, pos, List, map, ap, ◌∙◌, arith}
use Rattle.std.specs.Prelude.{◌-ℤ◌, flat_map}
use Rattle.std.proofs.lemmas.Int.{ints}
use Rattle.std.proofs.lemmas.List.{take_all}
use Rattle.race_free_check.proofs.Bounded.{small_at}
use Rattle.race_free_check.proofs.Grown.{listed_more}
use Rattle.race_free_check.proofs.numbers.differences.Goals as goal

pub loop-mark-preserved : goal.loop-mark-preserved
loop-mark-preserved c = record {
  is = listed_more (λ n. map (λ k. n -ℤ k) c.args.shifts.now) c.args.marks.now c.loop-mark.mark-index (pos 0) [] c.loop-mark.found.items c.add_lessened.new.found.items _ c.loop-mark-test.true c.loop-mark.invariant.is c.in_ok-add_lessened.ensures.adds
      (ap (λ (n : ℤ). map (λ k. n -ℤ k) c.args.shifts.now) (omega (arith, ints)));
  small = c.in_ok-add_lessened.ensures.small;
}

pub returns-clause-is : goal.returns-clause-is
returns-clause-is c = c.loop-mark.invariant.is ∙ ap (λ (ns : List ℤ). flat_map (λ n. map (λ k. n -ℤ k) c.args.shifts.now) ns) (take_all c.loop-mark.mark-index c.args.marks.now c.loop-mark-test.false)

pub add_lessened-requires-clause-mark : goal.add_lessened-requires-clause-mark
add_lessened-requires-clause-mark c =
    let small = small_at (2 ^ 31) c.args.marks.now c.loop-mark.mark-index (pos 0) c.requires.marks c.loop-mark-test.true in
    record { low = omega (arith, ints, small.low); high = omega (arith, ints, small.high) }

pub returns-clause-small : goal.returns-clause-small
returns-clause-small c = c.loop-mark.invariant.small
