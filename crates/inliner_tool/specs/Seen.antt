-- What is seen of a store in a call. (docs/COMMANDS.md)
use Rattle.std.specs.Prelude.{ℕ, List}
use Rattle.command_inputs.specs.Forms.{Count, since}
use Rattle.mon_store.specs.Store.{Files}

-- its files before the call and after it, and what it counted
pub record Seen : Type 0 where
  pub old : Files
  pub new : Files
  pub count : Count

-- what a store shows of its files, its faults and the last of them, at the one time and at the other
abbrev pub seen : {S : Type 0} → (S → Files) → (S → ℕ) → (S → List ℕ) → S → S → Seen
seen files faults last before after = record { old = files before; new = files after; count = since (faults before) (faults after) (last after) }
