use Rattle.std.proofs.Common.{◌≡◌, length, map, take}
use Rattle.conspec_tree.specs.declared.types.Var.{Var}
use Rattle.conspec_automaton.proofs.running.initial.Given as goal

abbrev pub invariant-loop-var : goal.invariant-loop-var
invariant-loop-var l = record {
  values : l.state ≡ map (λ (v : Var). v.first) (take l.var-index l.policy.vars);
  count : length l.state ≡ l.var-index;
}
