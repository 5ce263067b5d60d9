-- Variables by their names. (docs/POLICIES.md)
use Rattle.std.specs.Prelude.{ℕ, ◌+◌, ◌||◌, Bool, false, List, [], ◌∷◌, bytes_eq, Option, Some, None, if◌then◌else◌}
use Rattle.conspec_tree.specs.declared.types.Var.{Var}

-- the index of the variable with the name, counted on from i, and whether it is a bool
abbrev pub variable_from : ℕ → List Var → List ℕ → Option (ℕ × Bool)
variable_from i [] name = None
variable_from i (v ∷ vars) name = if bytes_eq v.name name then Some (i, v.is_bool) else variable_from (i + 1) vars name

abbrev pub is_variable : List Var → List ℕ → Bool
is_variable [] name = false
is_variable (v ∷ vars) name = bytes_eq v.name name || is_variable vars name
