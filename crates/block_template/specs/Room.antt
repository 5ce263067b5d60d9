-- What keeps the numbers in a block small: its places have 32 bits, and its locals 16. (docs/BLOCKS.md)
use Rattle.std.specs.Prelude.{ℕ, ◌+◌, ◌<◌, ◌^◌, length, IfSome, ⊤}
use Rattle.std.specs.List.{AllByRecursion}
use Rattle.conspec_tree.specs.declared.types.Atom.{Atom}
use Rattle.conspec_tree.specs.declared.types.Base.{Base}
use Rattle.conspec_tree.specs.declared.types.Base.TheVariants as bases
use Rattle.conspec_automaton.specs.declared.policy.Branch.{Branch}
use Rattle.conspec_automaton.specs.declared.policy.Clause.{Clause}
use Rattle.block_template.specs.declared.steps.Act.{Act}
use Rattle.block_template.specs.declared.steps.Act.TheVariants.{PushBase, PushNumber, JumpUnless, AddNumbers, WriteVar}
use Rattle.block_template.specs.Blocks.{Clauses, kept}
use Rattle.block_template.specs.Parts.{branches_size}

-- An argument that is asked stands in a local.
abbrev pub HasLocal : ℕ → Base → Type 0
HasLocal base (bases.Var var) = ⊤
HasLocal base (bases.Arg i) = base + i < 2 ^ 16
HasLocal base bases.Result = base < 2 ^ 16

abbrev pub ActHasLocal : ℕ → Act → Type 0
ActHasLocal base (PushBase asked) = HasLocal base asked
ActHasLocal base (PushNumber n) = ⊤
ActHasLocal base (JumpUnless rel) = ⊤
ActHasLocal base AddNumbers = ⊤
ActHasLocal base (WriteVar var) = ⊤

abbrev pub HasLocals : ℕ → Branch → Type 0
HasLocals base branch = AllByRecursion (λ (a : Atom). HasLocal base a.base) branch.atoms

-- A check is short, and what it asks stands in locals.
pub record IsShort (base : ℕ) (clause : Clause) : Type 0 where
  pub size : branches_size clause.branches < 2 ^ 13
  pub locals : AllByRecursion (HasLocals base) clause.branches

-- So it is of each clause of a method. The arguments that are kept stand in locals, and so does the result.
pub record IsRoomy (base : ℕ) (clauses : Clauses) : Type 0 where
  pub arguments : IfSome clauses.before (λ clause. base + length clause.args < 2 ^ 16)
  pub result : IfSome clauses.after (λ clause. base + kept clause.result < 2 ^ 16)
  pub before : IfSome clauses.before (IsShort base)
  pub after : IfSome clauses.after (IsShort base)
  pub exceptional : IfSome clauses.exceptional (IsShort base)
