use Rattle.std.proofs.Common.{◌≡◌, ◌^◌, ◌++◌, take}
use Rattle.std.specs.List.{filter_map}
use Rattle.conspec_automaton.specs.Points.{compared_with}
use Rattle.race_free_check.specs.Small.{AreSmall}
use Rattle.race_free_check.proofs.naming.add_compared.Given as goal

abbrev pub invariant-loop-atom : goal.invariant-loop-atom
invariant-loop-atom l = record {
  adds : l.numbers.items ≡ l.fn.numbers.items ++ filter_map (compared_with l.base) (take l.atom-index l.atoms);
  small : AreSmall (2 ^ 31) l.numbers.items;
}
