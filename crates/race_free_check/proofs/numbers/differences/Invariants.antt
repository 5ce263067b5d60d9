use Rattle.std.proofs.Common.{◌≡◌, ◌^◌, take, map}
use Rattle.std.specs.Prelude.{◌-ℤ◌, flat_map}
use Rattle.race_free_check.specs.Small.{AreSmall}
use Rattle.race_free_check.proofs.numbers.differences.Given as goal

abbrev pub invariant-loop-mark : goal.invariant-loop-mark
invariant-loop-mark l = record {
  is : l.found.items ≡ flat_map (λ c. map (λ k. c -ℤ k) l.shifts) (take l.mark-index l.marks);
  small : AreSmall (2 ^ 34) l.found.items;
}
