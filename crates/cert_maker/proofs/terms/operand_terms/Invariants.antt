-- The terms so far, and after them those of the operands that are left.
use Rattle.std.proofs.Common.{◌≡◌, ◌++◌, length, map}
use Rattle.std.specs.List.{AllByRecursion}
use Rattle.cert_maker.specs.Noting.{operand_term}
use Rattle.cert_maker.specs.Small.{IsSmallOperand}
use Rattle.cert_maker.proofs.terms.operand_terms.Given as goal

abbrev pub invariant-loop-left : goal.invariant-loop-left
invariant-loop-left l = record {
  so_far : l.terms ++ map operand_term l.left ≡ map operand_term l.operands;
  small : AllByRecursion IsSmallOperand l.left;
}

abbrev pub decreases-loop-left : goal.decreases-loop-left
decreases-loop-left l = length l.left
