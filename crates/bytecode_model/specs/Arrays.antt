-- Arrays, which are named by their descriptors. (The Java Virtual Machine Specification, sections 4.3.2 and 4.4.1.)
use Rattle.std.specs.Prelude.{ℕ, Bool, false, ◌==◌, List, [], ◌∷◌, ◌++◌, if◌then◌else◌}

-- whether a name is the descriptor of an array
abbrev pub is_array : List ℕ → Bool
is_array [] = false
is_array (b ∷ text) = b == 91

-- the descriptor of a class or an array
abbrev pub described : List ℕ → List ℕ
described name = if is_array name then name else 76 ∷ (name ++ 59 ∷ [])

-- the array of these items
abbrev pub array_of : List ℕ → List ℕ
array_of item = 91 ∷ described item
