-- What linking gives, and lists that are linked item by item. (docs/LINKING.md)
use Rattle.std.specs.Prelude.{ℕ, ◌+◌, List, [], ◌∷◌, Result, Ok}
use Rattle.mon_base.specs.Reading.{◌>>=◌}
use Rattle.class_linking.specs.declared.fault.LinkFault.{LinkFault}

-- what linking gives: a value, or the first condition that fails
abbrev pub Linked : Type 0 → Type 0
Linked X = Result X LinkFault

-- what each item links to, of which the first has this index
abbrev pub linked_from : {X Y : Type 0} → (ℕ → X → Linked Y) → ℕ → List X → Linked (List Y)
linked_from one at [] = Ok []
linked_from one at (x ∷ xs) = do
  first ← one at x
  others ← linked_from one (at + 1) xs
  Ok (first ∷ others)
