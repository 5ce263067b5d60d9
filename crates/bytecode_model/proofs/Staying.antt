-- The way up from a class, while it stays among some classes.
use Rattle.std.proofs.Common.{◌≡◌, ℕ, suc, ◌+◌, ◌-◌, ◌<◌, Bool, List, Some, refl, sym, ◌∙◌, arith}
use Rattle.api_listing.specs.declared.types.ListedClass.{ListedClass}
use Rattle.api_listing.specs.Nearest.{class_named}
use Rattle.bytecode_model.specs.Conditions.{stays_within}

-- one class further up
pub stays_some : (n i : ℕ) (heads : List ListedClass) (name : List ℕ) (c : ListedClass) (total : Bool) → i < n → class_named heads name ≡ Some c → stays_within (n - i) heads name ≡ total → stays_within (n - (i + 1)) heads c.parent ≡ total
stays_some n i heads name c total lt some so_far =
    let k : n - i ≡ suc (n - (i + 1)) = omega arith in
    let step : stays_within (n - i) heads name ≡ stays_within (n - (i + 1)) heads c.parent = rw (k, some) refl in
    sym step ∙ so_far
