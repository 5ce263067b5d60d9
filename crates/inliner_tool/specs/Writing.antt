-- What a command writes, and what stands in the store then. (docs/COMMANDS.md)
use Rattle.std.specs.Prelude.{◌≡◌, ◌⊎◌, ℕ, List, Ok, Err}
use Rattle.command_inputs.specs.Words.{IsCommand, NamedCommand}
use Rattle.command_inputs.specs.Forms.{Then}
use Rattle.mon_store.specs.declared.outputs.Output.{Output}
use Rattle.mon_store.specs.Outputs.{StopsAt, all_written}
use Rattle.mon_store.specs.Store.{Caused}
use Rattle.inliner_tool.specs.declared.answer.Answer.{Answer}
use Rattle.inliner_tool.specs.declared.answer.Made.{Made}
use Rattle.inliner_tool.specs.declared.refusal.Ended.TheVariants as ends
use Rattle.inliner_tool.specs.declared.refusal.Refusal.TheVariants as refusals
use Rattle.inliner_tool.specs.Commands.{Makes, readings_of}
use Rattle.inliner_tool.specs.Seen.{Seen}
use Rattle.inliner_tool.specs.Steps.{Step}

-- ---- a command

-- It is so; and where it ends the command, the files are as they were.
abbrev pub Untouched : {A : Type 0} → Seen → (Step A → Type 0) → Step A → Type 0
Untouched seen Says (Ok value) = Says (Ok value)
Untouched seen Says (Err ended) = Says (Err ended) × (seen.new ≡ seen.old)

-- All outputs are written, and the answer is given; or the store failed at one of them.
abbrev pub Writes : Seen → Made → Step Answer → Type 0
Writes seen made (Ok answer) = (answer ≡ made.answer) × (seen.new ≡ all_written seen.old made.outputs)
Writes seen made (Err ended) =
    (name : List ℕ) × (ended ≡ ends.Refused (refusals.Unwritten name)) × StopsAt seen.old made.outputs name seen.new
    × Caused seen.count.before seen.count.now seen.count.last name

-- What a command comes to: it makes an answer and outputs, and these are written.
abbrev pub CarriesOut : Seen → NamedCommand → Step Answer → Type 0
CarriesOut seen named =
    Then (Untouched seen (Makes (readings_of seen) named)) (λ made.
    Writes seen made)

-- ---- what stands

-- All outputs are written, or those before one of them, which is as it was or has a front of its bytes.
abbrev pub HaveBegun : Seen → List Output → Type 0
HaveBegun seen outputs = (seen.new ≡ all_written seen.old outputs) ⊎ ((name : List ℕ) × StopsAt seen.old outputs name seen.new)

-- The files are as they were; or the writing of the outputs that the command makes has begun.
abbrev pub Begins : Seen → NamedCommand → Type 0
Begins seen named = (seen.new ≡ seen.old) ⊎ ((made : Made) × Makes (readings_of seen) named (Ok made) × HaveBegun seen made.outputs)

-- So it is of the command of the words, if they are those of one.
abbrev pub Leaves : Seen → List (List ℕ) → Type 0
Leaves seen words = (seen.new ≡ seen.old) ⊎ ((named : NamedCommand) × IsCommand words named × Begins seen named)
