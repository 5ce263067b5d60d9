-- What is true of every policy that is read: its limits and ranges, and that what its parts name is there, and can be asked.
-- (docs/POLICIES.md)
use Rattle.std.specs.Prelude.{◌≡◌, ◌≢◌, ℕ, ◌+◌, ◌<◌, ◌≤◌, ℤ, pos, neg_ℤ, ◌≤ℤ◌, Bool, true, false, List, [], length, slice_get, Option, Some, None, AllPairs}
use Rattle.std.specs.List.{AllByRecursion}
use Rattle.api_listing.specs.declared.types.Listing.{Listing}
use Rattle.conspec_tree.specs.declared.types.Atom.{Atom}
use Rattle.conspec_tree.specs.declared.types.Base.{Base}
use Rattle.conspec_tree.specs.declared.types.Base.TheVariants as bases
use Rattle.conspec_tree.specs.declared.types.Kind.{Kind}
use Rattle.conspec_tree.specs.declared.types.Phase.{Phase}
use Rattle.conspec_tree.specs.declared.types.Phase.TheVariants as phases
use Rattle.conspec_tree.specs.declared.types.Update.{Update}
use Rattle.conspec_tree.specs.declared.types.Update.TheVariants.{Set, Add}
use Rattle.conspec_tree.specs.declared.types.Var.{Var}
use Rattle.conspec_tree.specs.declared.types.Guard.{Guard}
use Rattle.conspec_tree.specs.declared.types.TreeClause.{TreeClause}
use Rattle.conspec_tree.specs.declared.types.PolicyTree.{PolicyTree}
use Rattle.conspec_tree.specs.Updates.{target, all_range_atoms}
use Rattle.conspec_tree.specs.Guards.{branches}
use Rattle.conspec_tree.specs.Kinds.{is_number}

-- the greatest value of a variable: of a bool 1
abbrev pub greatest : ℤ → Bool → ℤ
greatest maxint true = pos 1
greatest maxint false = maxint

pub record IsInRange (maxint : ℤ) (is_bool : Bool) (value : ℤ) : Type 0 where
  pub low : pos 0 ≤ℤ value
  pub high : value ≤ℤ greatest maxint is_bool

-- what may be asked at an event beside the variables: the kinds of the arguments, and that of the result
pub record Askable : Type 0 where
  pub args : List Kind
  pub result : Option Kind

-- At a call these are the arguments, and at a return the result, where the method gives one.
abbrev pub asked : Phase → List Kind → Option Kind → Askable
asked phases.Before args result = record { args = args; result = None }
asked phases.After args result = record { args = []; result = result }
asked phases.Exceptional args result = record { args = []; result = None }

-- There is such a value, and it is a number or a truth value, which is one of two numbers.
abbrev pub IsNumber : Option Kind → Type 0
IsNumber None = ⊥
IsNumber (Some kind) = is_number kind ≡ true

-- The base is one of so many variables, or a number or truth value that may be asked.
abbrev pub IsBase : ℕ → Askable → Base → Type 0
IsBase vars askable (bases.Var i) = i < vars
IsBase vars askable (bases.Arg i) = IsNumber (slice_get askable.args i)
IsBase vars askable bases.Result = IsNumber askable.result

abbrev pub AreAtoms : ℕ → Askable → List Atom → Type 0
AreAtoms vars askable atoms = AllByRecursion (λ a. IsBase vars askable a.base) atoms

-- A variable is set to a value of its range, or an int variable is changed by at most 1,000,000,000.
abbrev pub IsUpdateOf : ℤ → Var → Update → Type 0
IsUpdateOf maxint v (Set var value) = IsInRange maxint v.is_bool value
IsUpdateOf maxint v (Add var by) = (v.is_bool ≡ false) × ((neg_ℤ (pos 1000000000) ≤ℤ by) × (by ≤ℤ pos 1000000000))

-- The variable is there.
pub record IsUpdateIn (vars : List Var) (maxint : ℤ) (update : Update) : Type 0 where
  pub variable : Var
  pub there : slice_get vars (target update) ≡ Some variable
  pub fits : IsUpdateOf maxint variable update

-- Each variable is updated once, and no branch has more than 16 atoms with the range atoms of the updates.
pub record IsGuardIn (vars : List Var) (maxint : ℤ) (askable : Askable) (guard : Guard) : Type 0 where
  pub atoms : AllByRecursion (AreAtoms (length vars) askable) guard.conjs
  pub updates : AllByRecursion (IsUpdateIn vars maxint) guard.updates
  pub once : AllPairs (λ u w. target u ≢ target w) guard.updates
  pub short : AllByRecursion (λ conj. length conj + all_range_atoms guard.updates ≤ 16) guard.conjs

-- The method is one of those listed, of which there are so many, and the guards have at most 64 branches.
pub record IsClauseIn (methods : ℕ) (vars : List Var) (maxint : ℤ) (clause : TreeClause) : Type 0 where
  pub method : clause.method < methods
  pub few_args : length clause.args ≤ 255
  pub few_branches : branches clause.guards ≤ 64
  pub guards : AllByRecursion (IsGuardIn vars maxint (asked clause.phase clause.args clause.result)) clause.guards

-- Two clauses are for different events.
abbrev pub Differ : TreeClause → TreeClause → Type 0
Differ c d = c.method ≡ d.method → c.phase ≡ d.phase → ⊥

pub record IsPolicyTree (listing : Listing) (tree : PolicyTree) : Type 0 where
  pub maxint_low : pos 1 ≤ℤ tree.maxint
  pub maxint_high : tree.maxint ≤ℤ pos 1000000000
  pub few_vars : length tree.vars ≤ 16
  pub vars : AllByRecursion (λ v. IsInRange tree.maxint v.is_bool v.first) tree.vars
  pub var_names : AllPairs (λ v w. v.name ≢ w.name) tree.vars
  pub few_clauses : length tree.clauses ≤ 64
  pub clauses : AllByRecursion (IsClauseIn (length listing.methods) tree.vars tree.maxint) tree.clauses
  pub once : AllPairs Differ tree.clauses
