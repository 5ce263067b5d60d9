-- The plan of a policy can be spliced. (docs/BLOCKS.md)
use Rattle.std.specs.Prelude.{FitsSigned}
use Rattle.std.specs.Int.{w32}
use Rattle.std.specs.List.{AllByRecursion}
use Rattle.cert_format.specs.declared.certificate.Mode.{Mode}
use Rattle.conspec_tree.specs.declared.types.Atom.{Atom}
use Rattle.conspec_automaton.specs.declared.policy.Branch.{Branch}
use Rattle.conspec_automaton.specs.declared.policy.Clause.{Clause}
use Rattle.conspec_automaton.specs.declared.policy.Policy.{Policy}
use Rattle.conspec_automaton.specs.Sound.{IsPolicy}
use Rattle.offset_patch.specs.Plan.{IsGood}
use Rattle.block_template.specs.Blocks.{bools_of, plan_of}

-- The constants of its atoms have 32 bits.
abbrev pub AreNumbers : Branch → Type 0
AreNumbers branch = AllByRecursion (λ (a : Atom). FitsSigned w32 a.value) branch.atoms

abbrev pub HasNumbers : Policy → Type 0
HasNumbers policy = AllByRecursion (λ (c : Clause). AllByRecursion AreNumbers c.branches) policy.clauses

-- So it is of each policy that was read, in both modes.
abbrev pub PlansAreGood : Type 0
PlansAreGood = (policy : Policy) (mode : Mode) → IsPolicy policy → HasNumbers policy → IsGood (bools_of policy) (plan_of policy mode)
