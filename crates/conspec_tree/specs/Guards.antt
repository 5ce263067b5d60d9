-- How many branches guards have, and how long these are. (docs/POLICIES.md)
use Rattle.std.specs.Prelude.{max, ℕ, ◌+◌, List, [], ◌∷◌, length}
use Rattle.conspec_tree.specs.declared.types.Atom.{Atom}
use Rattle.conspec_tree.specs.declared.types.Guard.{Guard}

-- how many branches the guards have
abbrev pub branches : List Guard → ℕ
branches [] = 0
branches (g ∷ guards) = length g.conjs + branches guards

-- how many atoms the longest of the branches has
abbrev pub longest_from : ℕ → List (List Atom) → ℕ
longest_from most [] = most
longest_from most (c ∷ conjs) = longest_from (max most (length c)) conjs

abbrev pub longest : List (List Atom) → ℕ
longest conjs = longest_from 0 conjs
