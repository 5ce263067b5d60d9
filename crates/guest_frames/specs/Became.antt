-- How a call tells whether it did what a definition says. (docs/MACHINE.md)
use Rattle.std.specs.Prelude.{◌≡◌, Bool, true, false, Option, Some, None}

-- It did, and this is what it left; or the definition gives nothing, and all is as it was.
abbrev pub Became : {A : Type 0} → Bool → A → A → Option A → Type 0
Became true old new made = made ≡ Some new
Became false old new made = (made ≡ None) × (new ≡ old)
