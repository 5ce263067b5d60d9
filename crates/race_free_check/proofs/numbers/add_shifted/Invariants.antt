use Rattle.std.proofs.Common.{◌≡◌, ◌^◌, ◌++◌, ◌+ℤ◌, take, map}
use Rattle.race_free_check.specs.Small.{AreSmall}
use Rattle.race_free_check.proofs.numbers.add_shifted.Given as goal

abbrev pub invariant-loop-number : goal.invariant-loop-number
invariant-loop-number l = record {
  adds : l.found.items ≡ l.fn.found.items ++ map (λ n. l.fn.by +ℤ n) (take l.number-index l.numbers);
  small : AreSmall (2 ^ 32) l.found.items;
}
