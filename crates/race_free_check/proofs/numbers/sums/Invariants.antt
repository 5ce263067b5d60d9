use Rattle.std.proofs.Common.{◌≡◌, ◌^◌, ◌∷◌, ◌++◌, ◌+ℤ◌, pos, take, map}
use Rattle.std.specs.Prelude.{flat_map}
use Rattle.race_free_check.specs.Small.{AreSmall}
use Rattle.race_free_check.proofs.numbers.sums.Given as goal

abbrev pub invariant-loop-addend : goal.invariant-loop-addend
invariant-loop-addend l = record {
  is : l.found.items ≡ pos 0 ∷ take l.addend-index l.addends;
  small : AreSmall (2 ^ 32) l.found.items;
}

abbrev pub invariant-loop-by : goal.invariant-loop-by
invariant-loop-by l = record {
  is : l.found.items ≡ (pos 0 ∷ l.addends) ++ flat_map (λ a. map (λ b. a +ℤ b) l.addends) (take l.by-index l.addends);
  small : AreSmall (2 ^ 32) l.found.items;
}
