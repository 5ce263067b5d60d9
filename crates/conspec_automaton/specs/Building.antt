-- The automaton of a policy: each list of atoms of a guard becomes a branch, with the guard's updates. (docs/POLICIES.md)
use Rattle.std.specs.Prelude.{ℕ, ℤ, pos, ◌++◌, int_lt, if◌then◌else◌, List, [], ◌∷◌, map}
use Rattle.std.specs.Int.{w32, int_wrapping_sub, int_wrapping_neg}
use Rattle.std.specs.List.{flat_map}
use Rattle.conspec_tree.specs.declared.types.Atom.{Atom}
use Rattle.conspec_tree.specs.declared.types.Base.TheVariants as bases
use Rattle.conspec_tree.specs.declared.types.Guard.{Guard}
use Rattle.conspec_tree.specs.declared.types.PolicyTree.{PolicyTree}
use Rattle.conspec_tree.specs.declared.types.Rel.{Rel}
use Rattle.conspec_tree.specs.declared.types.Rel.TheVariants.{Le, Ge}
use Rattle.conspec_tree.specs.declared.types.TreeClause.{TreeClause}
use Rattle.conspec_tree.specs.declared.types.Update.{Update}
use Rattle.conspec_tree.specs.declared.types.Update.TheVariants.{Set, Add}
use Rattle.conspec_automaton.specs.declared.policy.Branch.{Branch}
use Rattle.conspec_automaton.specs.declared.policy.Clause.{Clause}
use Rattle.conspec_automaton.specs.declared.policy.Policy.{Policy}

abbrev pub compared : ℕ → Rel → ℤ → Atom
compared var rel value = record { base = bases.Var var; rel = rel; value = value }

-- `v <= MAXINT - c` keeps `v = v + c` in range, and `v >= c` keeps `v = v - c`
abbrev pub range_atoms : ℤ → Update → List Atom
range_atoms maxint (Set var value) = []
range_atoms maxint (Add var by) =
    if int_lt (pos 0) by then compared var Le (int_wrapping_sub w32 maxint by) ∷ []
    else if int_lt by (pos 0) then compared var Ge (int_wrapping_neg w32 by) ∷ []
    else []

-- the atoms, and after them those that keep the updates in range
abbrev pub atoms_of : ℤ → List Update → List Atom → List Atom
atoms_of maxint updates atoms = atoms ++ flat_map (range_atoms maxint) updates

abbrev pub branch_of : ℤ → List Update → List Atom → Branch
branch_of maxint updates atoms = record { atoms = atoms_of maxint updates atoms; updates = updates }

abbrev pub guard_branches : ℤ → Guard → List Branch
guard_branches maxint guard = map (branch_of maxint guard.updates) guard.conjs

abbrev pub branches_of : ℤ → List Guard → List Branch
branches_of maxint guards = flat_map (guard_branches maxint) guards

abbrev pub clause_built : ℤ → TreeClause → Clause
clause_built maxint clause = record {
  method = clause.method;
  phase = clause.phase;
  args = clause.args;
  result = clause.result;
  branches = branches_of maxint clause.guards;
}

abbrev pub built : PolicyTree → Policy
built tree = record { maxint = tree.maxint; vars = tree.vars; clauses = map (clause_built tree.maxint) tree.clauses }
