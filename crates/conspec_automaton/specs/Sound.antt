-- What is true of every automaton that is built: its limits and ranges, and that what its parts name is there, and is a number.
-- (docs/POLICIES.md)
use Rattle.std.specs.Prelude.{◌≡◌, ◌≢◌, ℕ, ◌<◌, ◌≤◌, ℤ, pos, ◌≤ℤ◌, List, length, AllPairs}
use Rattle.std.specs.List.{AllByRecursion}
use Rattle.conspec_tree.specs.declared.types.Atom.{Atom}
use Rattle.conspec_tree.specs.declared.types.Var.{Var}
use Rattle.conspec_tree.specs.Tree.{Askable, IsInRange, AreAtoms, IsUpdateIn, asked}
use Rattle.conspec_tree.specs.Updates.{target}
use Rattle.conspec_automaton.specs.declared.policy.Branch.{Branch}
use Rattle.conspec_automaton.specs.declared.policy.Clause.{Clause}
use Rattle.conspec_automaton.specs.declared.policy.Policy.{Policy}
use Rattle.conspec_automaton.specs.Building.{atoms_of}

-- After the atoms that were written stand those that keep the updates in range. Each variable is updated once.
pub record IsBranchIn (vars : List Var) (maxint : ℤ) (askable : Askable) (branch : Branch) : Type 0 where
  pub own : List Atom
  pub kept : branch.atoms ≡ atoms_of maxint branch.updates own
  pub atoms : AreAtoms (length vars) askable branch.atoms
  pub few_atoms : length branch.atoms ≤ 16
  pub updates : AllByRecursion (IsUpdateIn vars maxint) branch.updates
  pub once : AllPairs (λ u w. target u ≢ target w) branch.updates

pub record IsClauseIn (vars : List Var) (maxint : ℤ) (clause : Clause) : Type 0 where
  pub few_args : length clause.args ≤ 255
  pub few_branches : length clause.branches ≤ 64
  pub branches : AllByRecursion (IsBranchIn vars maxint (asked clause.phase clause.args clause.result)) clause.branches

-- Two clauses are for different events.
abbrev pub Differ : Clause → Clause → Type 0
Differ c d = c.method ≡ d.method → c.phase ≡ d.phase → ⊥

pub record IsPolicy (policy : Policy) : Type 0 where
  pub maxint_low : pos 1 ≤ℤ policy.maxint
  pub maxint_high : policy.maxint ≤ℤ pos 1000000000
  pub few_vars : length policy.vars ≤ 16
  pub vars : AllByRecursion (λ v. IsInRange policy.maxint v.is_bool v.first) policy.vars
  pub var_names : AllPairs (λ v w. v.name ≢ w.name) policy.vars
  pub few_clauses : length policy.clauses ≤ 64
  pub clauses : AllByRecursion (IsClauseIn policy.vars policy.maxint) policy.clauses
  pub once : AllPairs Differ policy.clauses

-- The clauses are for methods of a listing that has so many.
abbrev pub NamesMethods : ℕ → Policy → Type 0
NamesMethods methods policy = AllByRecursion (λ (c : Clause). c.method < methods) policy.clauses
