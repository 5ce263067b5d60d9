-- How far below a class that is not given each given one stands. (docs/LINKING.md)
use Rattle.std.specs.Prelude.{◌≡◌, ℕ, ◌+◌, true, false, List, Some, Vec}
use Rattle.std.specs.BTreeMap.{BTreeMap}
use Rattle.std.specs.Global.{Global}
use Rattle.api_listing.specs.declared.types.ListedClass.{ListedClass}
use Rattle.bytecode_model.specs.Conditions.{stays_within}
use Rattle.bytecode_model.specs.ByName.{noted}

-- The way up from the class leaves the given classes after just so many of them.
abbrev pub LeavesAfter : List ListedClass → List ℕ → ℕ → Type 0
LeavesAfter heads name n = (stays_within n heads name ≡ true) × (stays_within (n + 1) heads name ≡ false)

-- The map has heights of classes.
abbrev pub AreHeights : BTreeMap (Vec ℕ Global) ℕ → List ListedClass → Type 0
AreHeights heights heads = (q : List ℕ) (n : ℕ) → noted heights q ≡ Some n → LeavesAfter heads q n
