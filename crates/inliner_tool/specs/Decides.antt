-- What a command comes to where the store tells its files, and neither it nor the sink has a fault. (docs/COMMANDS.md)
use Rattle.std.specs.Prelude.{◌≡◌, ℕ, List, Option}
use Rattle.command_inputs.specs.Words.{Check, Gen, Inline, IsCommand, Lift, Load, NamedCommand, Policy, Race, Replay, Run, Show}
use Rattle.command_inputs.specs.Contents.{Contents}
use Rattle.command_inputs.specs.Forms.{Then, Yields}
use Rattle.mon_store.specs.Sink.{Appends}
use Rattle.inliner_tool.specs.declared.tool.Status.{Status}
use Rattle.inliner_tool.specs.declared.tool.Status.TheVariants as statuses
use Rattle.inliner_tool.specs.Commands.{Makes, readings_in}
use Rattle.inliner_tool.specs.Replies.{outcome_encoded, usage_encoded}
use Rattle.inliner_tool.specs.Steps.{Outcome, outcome_step}
use Rattle.inliner_tool.specs.Tool.{NamesNone, status_of}

-- ---- the outcome

-- What a command comes to over files of these contents: the answer of what it makes of them, or why it ends before.
abbrev pub Gives : Contents → NamedCommand → Outcome → Type 0
Gives contents named outcome = Then (Makes (readings_in contents) named) (λ made. Yields made.answer) (outcome_step outcome)

-- The command comes to an outcome with this status and output.
pub record ComesTo (contents : Contents) (named : NamedCommand) (status : Status) (printed : List ℕ) : Type 0 where
  pub outcome : Outcome
  pub gives : Gives contents named outcome
  pub status_is : status ≡ status_of outcome
  pub encoded : printed ≡ outcome_encoded outcome

-- This is printed, with this status: what the command of the words comes to, or, where they are no command's, the usage line.
pub record Decides (contents : Contents) (words : List (List ℕ)) (text after : Option (List ℕ)) (status : Status) : Type 0 where
  pub printed : List ℕ
  pub appends : Appends text after printed
  pub command : (named : NamedCommand) → IsCommand words named → ComesTo contents named status printed
  pub usage : NamesNone words → (status ≡ statuses.Usage) × (printed ≡ usage_encoded)

-- ---- one outcome

-- The definition of the command leaves nothing open.
abbrev pub IsDetermined : NamedCommand → Type 0
IsDetermined (Check named) = Unit {0}
IsDetermined (Show named) = Unit {0}
IsDetermined (Policy named) = Unit {0}
IsDetermined (Race named) = Unit {0}
IsDetermined (Inline named) = ⊥
IsDetermined (Replay named) = Unit {0}
IsDetermined (Lift named) = Unit {0}
IsDetermined (Gen named) = Unit {0}
IsDetermined (Load named) = ⊥
IsDetermined (Run named) = ⊥

-- A command comes to one outcome over the same files; but of `inline` and `load` it is left open which of the least typings a certificate tells,
-- and of `run` which thread makes which step.
abbrev pub GivesOnce : Type 0
GivesOnce = (contents : Contents) (named : NamedCommand) (a b : Outcome) → IsDetermined named → Gives contents named a → Gives contents named b → a ≡ b
