use Rattle.std.proofs.Common.{◌≡◌, ◌^◌, ◌++◌, take}
use Rattle.std.specs.Prelude.{flat_map}
use Rattle.std.specs.List.{filter_map}
use Rattle.conspec_automaton.specs.declared.policy.Branch.{Branch}
use Rattle.conspec_automaton.specs.Points.{compared_with}
use Rattle.race_free_check.specs.Small.{AreSmall}
use Rattle.race_free_check.proofs.naming.add_constants.Given as goal

abbrev pub invariant-loop-branch : goal.invariant-loop-branch
invariant-loop-branch l = record {
  adds : l.numbers.items ≡ l.fn.numbers.items ++ filter_map (compared_with l.base) (flat_map (λ (b : Branch). b.atoms) (take l.branch-index l.clause.branches));
  small : AreSmall (2 ^ 31) l.numbers.items;
}
