use Rattle.std.proofs.Common.{◌≡◌, ◌^◌, ◌++◌, take, map}
use Rattle.std.specs.Prelude.{◌-ℤ◌}
use Rattle.race_free_check.specs.Small.{AreSmall}
use Rattle.race_free_check.proofs.numbers.add_lessened.Given as goal

abbrev pub invariant-loop-shift : goal.invariant-loop-shift
invariant-loop-shift l = record {
  adds : l.found.items ≡ l.fn.found.items ++ map (λ k. l.fn.mark -ℤ k) (take l.shift-index l.shifts);
  small : AreSmall (2 ^ 34) l.found.items;
}
