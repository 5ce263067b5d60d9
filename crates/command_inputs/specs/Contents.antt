-- What the named files are, where the store tells its files: a function of these, or the first file that is wrong or missing.
-- (docs/COMMANDS.md)
use Rattle.std.specs.Prelude.{ℕ, nat_lt, if◌then◌else◌, List, [], ◌∷◌, length, Option, Some, None, Result, Ok, Err}
use Rattle.command_inputs.specs.InlineWords.{NamedInline}
use Rattle.command_inputs.specs.LiftWords.{NamedLift}
use Rattle.command_inputs.specs.ReplayWords.{NamedReplay}
use Rattle.command_inputs.specs.Words.{NamedCheck, NamedPolicy, NamedRace, NamedShow}
use Rattle.mon_base.specs.Reading.{◌>>=◌}
use Rattle.command_inputs.specs.declared.check_inputs.CheckInputs.{CheckInputs}
use Rattle.command_inputs.specs.declared.fault.InputFault.{InputFault}
use Rattle.command_inputs.specs.declared.fault.InputFault.TheVariants as faults
use Rattle.command_inputs.specs.declared.files.Stop.{Stop}
use Rattle.command_inputs.specs.declared.files.Stop.TheVariants as stops
use Rattle.command_inputs.specs.declared.inline_inputs.InlineInputs.{InlineInputs}
use Rattle.command_inputs.specs.declared.lift_inputs.LiftInputs.{LiftInputs}
use Rattle.command_inputs.specs.declared.named.ReadClasses.{ReadClasses as Classes}
use Rattle.command_inputs.specs.declared.policy_inputs.PolicyInputs.{PolicyInputs}
use Rattle.command_inputs.specs.declared.race_inputs.RaceInputs.{RaceInputs}
use Rattle.command_inputs.specs.declared.replay_inputs.ReplayInputs.{ReplayInputs}
use Rattle.command_inputs.specs.declared.show_inputs.ShowInputs.{ShowInputs}
use Rattle.command_inputs.specs.Forms.{Form}
use Rattle.command_inputs.specs.Named.{told_sum}
use Rattle.command_inputs.specs.Kinds.{certificate_form, class_form, listing_form, policy_form, record_form}

-- the bytes of the file of each name, None where there is no such file
abbrev pub Contents : Type 0
Contents = List ℕ → Option (List ℕ)

-- ---- one file

-- the fault of the file of this name
abbrev pub stop_at : List ℕ → InputFault → Stop
stop_at name faults.Memory = stops.Memory
stop_at name fault = stops.Input name fault

abbrev pub named : {A : Type 0} → List ℕ → Result A InputFault → Result A Stop
named name (Ok tree) = Ok tree
named name (Err fault) = Err (stop_at name fault)

-- The file is there and not too long, and its text is read.
abbrev pub bytes_read : {A : Type 0} → List ℕ → Form A → Option (List ℕ) → Result A Stop
bytes_read name form None = Err (stops.Unread name)
bytes_read name form (Some text) = if nat_lt form.limit (length text) then Err (stops.Input name (faults.TooLong (length text))) else named name (form.reads text)

abbrev pub file_read : {A : Type 0} → Contents → List ℕ → Form A → Result A Stop
file_read contents name form = bytes_read name form (contents name)

-- ---- class files

abbrev pub classes_read : Contents → List (List ℕ) → Result Classes Stop
classes_read contents [] = Ok (record { files = []; total = 0 })
classes_read contents (name ∷ names) = do
  class ← file_read contents name class_form
  others ← classes_read contents names
  Ok (record { files = class.file ∷ others.files; total = told_sum class.len others.total })

-- ---- the files of each command, in the order in which they are read

abbrev pub check_read : Contents → NamedCheck → Result CheckInputs Stop
check_read contents named = do
  listing ← file_read contents named.listing listing_form
  policy ← file_read contents named.policy (policy_form listing)
  certificate ← file_read contents named.certificate (certificate_form (length policy.vars))
  classes ← classes_read contents named.classes
  Ok (record { listing = listing; policy = policy; certificate = certificate; classes = classes })

abbrev pub show_read : Contents → NamedShow → Result ShowInputs Stop
show_read contents named = do
  listing ← file_read contents named.listing listing_form
  classes ← classes_read contents named.classes
  Ok (record { listing = listing; classes = classes })

abbrev pub policy_read : Contents → NamedPolicy → Result PolicyInputs Stop
policy_read contents named = do
  listing ← file_read contents named.listing listing_form
  policy ← file_read contents named.policy (policy_form listing)
  recorded ← file_read contents named.recorded (record_form listing)
  Ok (record { policy = policy; recorded = recorded })

abbrev pub race_read : Contents → NamedRace → Result RaceInputs Stop
race_read contents named = do
  listing ← file_read contents named.listing listing_form
  policy ← file_read contents named.policy (policy_form listing)
  Ok (record { listing = listing; policy = policy })

abbrev pub inline_read : Contents → NamedInline → Result InlineInputs Stop
inline_read contents named = do
  listing ← file_read contents named.listing listing_form
  policy ← file_read contents named.policy (policy_form listing)
  classes ← classes_read contents named.classes
  Ok (record { listing = listing; policy = policy; classes = classes })

abbrev pub replay_read : Contents → NamedReplay → Result ReplayInputs Stop
replay_read contents named = do
  listing ← file_read contents named.listing listing_form
  recorded ← file_read contents named.recorded (record_form listing)
  classes ← classes_read contents named.classes
  Ok (record { listing = listing; recorded = recorded; classes = classes })

abbrev pub lift_read : Contents → NamedLift → Result LiftInputs Stop
lift_read contents named = do
  listing ← file_read contents named.listing listing_form
  policy ← file_read contents named.policy (policy_form listing)
  recorded ← file_read contents named.recorded (record_form listing)
  classes ← classes_read contents named.classes
  Ok (record { listing = listing; policy = policy; recorded = recorded; classes = classes })
