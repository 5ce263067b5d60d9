-- What is left of a list once its last item is taken.
use Rattle.std.specs.Prelude.{◌≡◌, List, [], ◌∷◌, ◌++◌, Option, Some, None}

-- There was none, and the list is empty; or the list was what is left, and the item after it.
abbrev pub IsPopped : {T : Type 0} → Option T → List T → List T → Type 0
IsPopped None old left = (old ≡ []) × (left ≡ [])
IsPopped (Some item) old left = old ≡ left ++ item ∷ []
