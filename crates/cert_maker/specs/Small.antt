-- What a policy names is told by a byte. (docs/CERTIFICATES.md)
use Rattle.std.specs.Prelude.{◌<◌, ◌^◌, ⊤}
use Rattle.std.specs.List.{AllByRecursion}
use Rattle.conspec_tree.specs.declared.types.Atom.{Atom}
use Rattle.conspec_tree.specs.declared.types.Base.{Base}
use Rattle.conspec_tree.specs.declared.types.Base.TheVariants as bases
use Rattle.conspec_tree.specs.declared.types.Update.{Update}
use Rattle.conspec_tree.specs.Updates.{target}
use Rattle.conspec_automaton.specs.declared.policy.Branch.{Branch}
use Rattle.block_template.specs.declared.steps.Operand.{Operand}
use Rattle.block_template.specs.declared.steps.Operand.TheVariants as operands

abbrev pub IsSmallBase : Base → Type 0
IsSmallBase (bases.Var var) = var < 2 ^ 8
IsSmallBase (bases.Arg i) = i < 2 ^ 8
IsSmallBase bases.Result = ⊤

abbrev pub IsSmallUpdate : Update → Type 0
IsSmallUpdate update = target update < 2 ^ 8

-- The variable or argument that stands on the stack.
abbrev pub IsSmallOperand : Operand → Type 0
IsSmallOperand (operands.Base asked) = IsSmallBase asked
IsSmallOperand (operands.Number n) = ⊤
IsSmallOperand (operands.Sum var by) = var < 2 ^ 8

-- The variables and arguments that a branch asks, and the variables that it updates.
pub record IsSmall (branch : Branch) : Type 0 where
  pub atoms : AllByRecursion (λ (a : Atom). IsSmallBase a.base) branch.atoms
  pub updates : AllByRecursion IsSmallUpdate branch.updates
