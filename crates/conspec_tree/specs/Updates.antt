-- Which variables updates are of, and how many range atoms they ask for. (docs/POLICIES.md)
use Rattle.std.specs.Prelude.{◌||◌, ◌==◌, ℕ, ◌+◌, pos, Bool, false, List, [], ◌∷◌, if◌then◌else◌}
use Rattle.std.specs.Ordering.{int_eq}
use Rattle.conspec_tree.specs.declared.types.Update.{Update}
use Rattle.conspec_tree.specs.declared.types.Update.TheVariants.{Set, Add}

abbrev pub target : Update → ℕ
target (Set var value) = var
target (Add var by) = var

abbrev pub is_updated : List Update → ℕ → Bool
is_updated [] var = false
is_updated (u ∷ updates) var = target u == var || is_updated updates var

-- how many range atoms the update asks for
abbrev pub range_atoms : Update → ℕ
range_atoms (Set var value) = 0
range_atoms (Add var by) = if int_eq by (pos 0) then 0 else 1

abbrev pub all_range_atoms : List Update → ℕ
all_range_atoms [] = 0
all_range_atoms (u ∷ updates) = range_atoms u + all_range_atoms updates
