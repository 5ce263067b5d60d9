use Rattle.std.proofs.Common.{length, FitsSigned}
use Rattle.std.specs.Int.{w32}
use Rattle.std.specs.List.{AllByRecursion}
use Rattle.conspec_tree.specs.declared.types.Atom.{Atom}
use Rattle.block_template.proofs.numbers.atoms_fit.Given as goal

abbrev pub invariant-loop-left : goal.invariant-loop-left
invariant-loop-left l = AllByRecursion (λ (a : Atom). FitsSigned w32 a.value) l.left → AllByRecursion (λ (a : Atom). FitsSigned w32 a.value) l.atoms

abbrev pub decreases-loop-left : goal.decreases-loop-left
decreases-loop-left l = length l.left
