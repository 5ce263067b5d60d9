use Rattle.std.proofs.Common.{◌≡◌, ◌^◌, ◌++◌, take}
use Rattle.std.specs.List.{filter_map}
use Rattle.conspec_automaton.specs.Points.{assigned_to}
use Rattle.race_free_check.specs.Small.{AreSmall}
use Rattle.race_free_check.proofs.naming.add_each_assigned.Given as goal

abbrev pub invariant-loop-update : goal.invariant-loop-update
invariant-loop-update l = record {
  adds : l.numbers.items ≡ l.fn.numbers.items ++ filter_map (assigned_to l.var) (take l.update-index l.updates);
  small : AreSmall (2 ^ 31) l.numbers.items;
}
