-- Which groups of marks are told to have none. (docs/TYPING.md)
use Rattle.std.specs.Prelude.{◌≡◌, ℕ, ◌+◌, ◌*◌, ◌<◌, Bool, false, List}
use Rattle.type_infer.specs.Solving.{is_marked}

-- Where a group of 64 is not marked, none of its marks is.
abbrev pub AreGrouped : List Bool → List Bool → Type 0
AreGrouped marks groups = (group offset : ℕ) → offset < 64 → is_marked groups group ≡ false → is_marked marks (64 * group + offset) ≡ false
