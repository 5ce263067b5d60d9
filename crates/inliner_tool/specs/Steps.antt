-- The steps of a command: each gives a value, or ends the command. (docs/COMMANDS.md)
use Rattle.std.specs.Prelude.{◌≡◌, ◌⊎◌, [], Result, Ok, Err}
use Rattle.command_inputs.specs.declared.files.Stop.{Stop}
use Rattle.command_inputs.specs.declared.files.Stop.TheVariants as stops
use Rattle.command_inputs.specs.Forms.{Yields}
use Rattle.inliner_tool.specs.declared.answer.Answer.{Answer}
use Rattle.inliner_tool.specs.declared.answer.Made.{Made}
use Rattle.inliner_tool.specs.declared.refusal.Ended.{Ended}
use Rattle.inliner_tool.specs.declared.refusal.Ended.TheVariants as ends
use Rattle.inliner_tool.specs.declared.refusal.Refusal.{Refusal}
use Rattle.inliner_tool.specs.declared.refusal.Refusal.TheVariants as refusals

-- a step's value, or why the command ends there
abbrev pub Step : Type 0 → Type 0
Step A = Result A Ended

-- It is what this definition gives.
abbrev pub Equals : {A : Type 0} → Step A → Step A → Type 0
Equals wanted result = result ≡ wanted

-- It is so, or memory ran out.
abbrev pub UnlessMemory : {A : Type 0} → (Step A → Type 0) → Step A → Type 0
UnlessMemory Says (Ok value) = Says (Ok value)
UnlessMemory Says (Err ended) = Says (Err ended) ⊎ (ended ≡ ends.Memory)

-- ---- the first step

-- why a command ends where the reading of its files stopped
abbrev pub stopped : Stop → Ended
stopped (stops.Input name fault) = ends.Refused (refusals.Input name fault)
stopped (stops.Unread name) = ends.Refused (refusals.Unread name)
stopped stops.Memory = ends.Memory

-- The files are read, or the command ends where this stops.
abbrev pub Reading : {A : Type 0} → (Result A Stop → Type 0) → Step A → Type 0
Reading Reads (Ok inputs) = Reads (Ok inputs)
Reading Reads (Err ended) = (stop : Stop) × Reads (Err stop) × (ended ≡ stopped stop)

-- ---- the last step

-- an answer for which no file is written
abbrev pub just : Answer → Made
just answer = record { answer = answer; outputs = [] }

-- This is answered, and nothing is written.
abbrev pub Just : Answer → Step Made → Type 0
Just answer = Yields (just answer)

-- ---- what is told

-- the answer to a command, or why it ended before
abbrev pub Outcome : Type 0
Outcome = Result Answer Refusal

-- a last step that has this outcome
abbrev pub outcome_step : Outcome → Step Answer
outcome_step (Ok answer) = Ok answer
outcome_step (Err refusal) = Err (ends.Refused refusal)
