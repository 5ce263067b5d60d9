-- That what is read of told files, without a fault of the store, is what these are, want of memory aside. (docs/COMMANDS.md)
use Rattle.std.specs.Prelude.{◌≡◌, Some, Result, Ok, Err}
use Rattle.mon_store.specs.Store.{Files, Rose}
use Rattle.command_inputs.specs.declared.files.Stop.{Stop}
use Rattle.command_inputs.specs.declared.files.Stop.TheVariants as stops
use Rattle.command_inputs.specs.CheckInputs.{ReadsCheck}
use Rattle.command_inputs.specs.Contents.{Contents, check_read, inline_read, lift_read, policy_read, race_read, replay_read, show_read}
use Rattle.command_inputs.specs.Forms.{Count}
use Rattle.command_inputs.specs.InlineInputs.{ReadsInline}
use Rattle.command_inputs.specs.LiftInputs.{ReadsLift}
use Rattle.command_inputs.specs.PolicyInputs.{ReadsPolicy}
use Rattle.command_inputs.specs.RaceInputs.{ReadsRace}
use Rattle.command_inputs.specs.ReplayInputs.{ReadsReplay}
use Rattle.command_inputs.specs.ShowInputs.{ReadsShow}

-- It is what it stands for; but want of memory is free.
abbrev pub IsSo : {A : Type 0} → Result A Stop → Result A Stop → Type 0
IsSo given (Ok inputs) = given ≡ Ok inputs
IsSo given (Err stops.Memory) = Unit {0}
IsSo given (Err stop) = given ≡ Err stop

-- What is read of told files, without a fault of the store, is what they are.
abbrev pub ReadsTold : {N A : Type 0} → (Files → Count → N → Result A Stop → Type 0) → (Contents → N → Result A Stop) → Type 0
ReadsTold {N = N} {A = A} Reads read =
    (contents : Contents) (count : Count) (named : N) (result : Result A Stop) → (Rose count.before count.now → ⊥)
    → Reads (Some contents) count named result → IsSo (read contents named) result

-- So it is of each command.
pub record ToldAreRead : Type 0 where
  pub check : ReadsTold ReadsCheck check_read
  pub show : ReadsTold ReadsShow show_read
  pub policy : ReadsTold ReadsPolicy policy_read
  pub race : ReadsTold ReadsRace race_read
  pub inline : ReadsTold ReadsInline inline_read
  pub replay : ReadsTold ReadsReplay replay_read
  pub lift : ReadsTold ReadsLift lift_read
