-- Which events clauses are for. (docs/POLICIES.md)
use Rattle.std.specs.Prelude.{◌||◌, ◌&&◌, ◌==◌, ℕ, Bool, true, false, List, [], ◌∷◌}
use Rattle.conspec_tree.specs.declared.types.Phase.{Phase}
use Rattle.conspec_tree.specs.declared.types.Phase.TheVariants.{Before, After, Exceptional}
use Rattle.conspec_tree.specs.declared.types.TreeClause.{TreeClause}

abbrev pub phase_number : Phase → ℕ
phase_number Before = 0
phase_number After = 1
phase_number Exceptional = 2

abbrev pub is_after : Phase → Bool
is_after After = true
is_after other = false

-- whether one of the clauses is for the same events of the method
abbrev pub has_clause : List TreeClause → Phase → ℕ → Bool
has_clause [] phase method = false
has_clause (c ∷ clauses) phase method = (c.method == method && phase_number c.phase == phase_number phase) || has_clause clauses phase method
