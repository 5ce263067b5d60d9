use Rattle.std.proofs.Common.{◌≡◌, ◌+◌, ◌++◌, length}
use Rattle.std.specs.List.{AllByRecursion}
use Rattle.conspec_tree.specs.declared.types.Atom.{Atom}
use Rattle.block_template.specs.Parts.{asks}
use Rattle.block_template.specs.Pushing.{bools_in}
use Rattle.block_template.specs.Room.{HasLocal}
use Rattle.block_template.proofs.checks.put_asks.Given as goal

abbrev pub invariant-loop-left : goal.invariant-loop-left
invariant-loop-left l = record {
  so_far : l.items ++ asks (bools_in l.vars) l.base l.phase l.branch l.n l.next l.left
      ≡ l.fn.items ++ asks (bools_in l.vars) l.base l.phase l.branch 0 l.next l.atoms;
  count : l.n + length l.left ≡ length l.atoms;
  locals : AllByRecursion (λ (a : Atom). HasLocal l.base a.base) l.left;
}

abbrev pub decreases-loop-left : goal.decreases-loop-left
decreases-loop-left l = length l.left
