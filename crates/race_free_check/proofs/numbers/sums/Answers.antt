use Rattle.std.proofs.Common.{◌^◌, ◌++◌, ◌∷◌, ℤ, pos, ◌+ℤ◌, List, map, ap, ◌∙◌, arith}
use Rattle.std.specs.Prelude.{flat_map}
use Rattle.std.proofs.lemmas.Int.{ints}
use Rattle.std.proofs.lemmas.List.{take_all}
use Rattle.std.proofs.lemmas.Grind.{common_steps}
use Rattle.race_free_check.proofs.Bounded.{small_at}
use Rattle.race_free_check.proofs.Grown.{listed_more, small_more}
use Rattle.race_free_check.proofs.numbers.sums.Goals as goal

pub loop-addend-preserved : goal.loop-addend-preserved
loop-addend-preserved c =
    let small = small_at (2 ^ 31) c.args.addends.now c.loop-addend.addend-index (pos 0) c.requires c.loop-addend-test.true in
    record {
      is = grind (arith, common_steps);
      small = small_more (2 ^ 32) c.loop-addend.found.items c.push-in-loop-addend.new.self.items _ c.loop-addend.invariant.small c.in_ok-push-2.ensures.items (record { low = omega (arith, ints); high = omega (arith, ints) });
    }

pub loop-by-init : goal.loop-by-init
loop-by-init c = record { is = grind (arith, common_steps); small = c.loop-addend.invariant.small }

pub loop-by-preserved : goal.loop-by-preserved
loop-by-preserved c = record {
  is = listed_more (λ a. map (λ b. a +ℤ b) c.args.addends.now) c.args.addends.now c.loop-by.by-index (pos 0) (pos 0 ∷ c.args.addends.now) c.loop-by.found.items c.add_shifted.new.found.items _ c.loop-by-test.true c.loop-by.invariant.is c.in_ok-add_shifted.ensures.adds
      (ap (λ (a : ℤ). map (λ b. a +ℤ b) c.args.addends.now) (omega (arith, ints)));
  small = c.in_ok-add_shifted.ensures.small;
}

pub returns-clause-is : goal.returns-clause-is
returns-clause-is c =
    c.loop-by.invariant.is ∙ ap (λ (ns : List ℤ). (pos 0 ∷ c.args.addends.now) ++ flat_map (λ a. map (λ b. a +ℤ b) c.args.addends.now) ns) (take_all c.loop-by.by-index c.args.addends.now c.loop-by-test.false)

pub add_shifted-requires-clause-by : goal.add_shifted-requires-clause-by
add_shifted-requires-clause-by c =
    let small = small_at (2 ^ 31) c.args.addends.now c.loop-by.by-index (pos 0) c.requires c.loop-by-test.true in
    record { low = omega (arith, ints); high = omega (arith, ints) }
