use Rattle.std.proofs.Common.{◌^◌, ◌++◌, ℤ, pos, List, map, ap, ◌∙◌, take, to_z, of_z, w64, arith}
use Rattle.std.specs.Prelude.{◌-ℤ◌}
use Rattle.std.proofs.lemmas.Int.{ints, to_z-of_z}
use Rattle.std.proofs.lemmas.List.{take_all}
use Rattle.race_free_check.proofs.Bounded.{small_at}
use Rattle.race_free_check.proofs.Grown.{mapped_more, small_more}
use Rattle.race_free_check.proofs.numbers.add_lessened.Goals as goal

pub overflow_sub-mark : goal.overflow_sub-mark
overflow_sub-mark c =
    let small = small_at (2 ^ 32) c.args.shifts.now c.loop-shift.shift-index (pos 0) c.requires.shifts c.loop-shift-test.true in
    grind (arith, ints)

pub loop-shift-preserved : goal.loop-shift-preserved
loop-shift-preserved c =
    let small = small_at (2 ^ 32) c.args.shifts.now c.loop-shift.shift-index (pos 0) c.requires.shifts c.loop-shift-test.true in
    record {
      adds = mapped_more (λ k. to_z w64 (of_z w64 c.args.mark) -ℤ k) c.args.shifts.now c.loop-shift.shift-index c.args.found.now.items c.loop-shift.found.items c.push.new.self.items _ c.loop-shift-test.true c.loop-shift.invariant.adds c.in_ok-push.ensures.items (omega (arith, ints));
      small = small_more (2 ^ 34) c.loop-shift.found.items c.push.new.self.items _ c.loop-shift.invariant.small c.in_ok-push.ensures.items (record { low = omega (arith, ints); high = omega (arith, ints) });
    }

pub returns-clause-adds : goal.returns-clause-adds
returns-clause-adds c =
    let same = to_z-of_z w64 c.args.mark c.ranges.mark in
    c.loop-shift.invariant.adds
    ∙ ap (λ (m : ℤ). c.args.found.now.items ++ map (λ k. m -ℤ k) (take c.loop-shift.shift-index c.args.shifts.now)) same
    ∙ ap (λ (ns : List ℤ). c.args.found.now.items ++ map (λ k. c.args.mark -ℤ k) ns) (take_all c.loop-shift.shift-index c.args.shifts.now c.loop-shift-test.false)

pub returns-clause-small : goal.returns-clause-small
returns-clause-small c = c.loop-shift.invariant.small
