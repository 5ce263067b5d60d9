-- What the top call answers, and what it prints. (docs/COMMANDS.md)
use Rattle.std.specs.Prelude.{◌≡◌, ◌⊎◌, ℕ, List, Option, Ok, Err}
use Rattle.bytecode_model.specs.declared.program.Program.{Program}
use Rattle.command_inputs.specs.Words.{IsCommand, NamedCheck, NamedCommand}
use Rattle.conspec_automaton.specs.declared.running.Verdict.{Verdict}
use Rattle.conspec_automaton.specs.declared.running.Verdict.TheVariants as verdicts
use Rattle.command_inputs.specs.declared.check_inputs.CheckInputs.{CheckInputs}
use Rattle.command_inputs.specs.CheckInputs.{ReadsCheck}
use Rattle.command_inputs.specs.Named.{IsPolicyOf}
use Rattle.command_inputs.specs.Encoded.{CheckEncoded}
use Rattle.mon_store.specs.Sink.{Appends, AppendsFront}
use Rattle.inliner_tool.specs.declared.answer.Answer.{Answer}
use Rattle.inliner_tool.specs.declared.answer.Answer.TheVariants as answers
use Rattle.inliner_tool.specs.declared.refusal.Refusal.{Refusal}
use Rattle.inliner_tool.specs.declared.refusal.Refusal.TheVariants as refusals
use Rattle.inliner_tool.specs.declared.tool.Status.{Status}
use Rattle.inliner_tool.specs.declared.tool.Status.TheVariants as statuses
use Rattle.inliner_tool.specs.Check.{IsChecked, link_inputs}
use Rattle.inliner_tool.specs.Replies.{outcome_encoded, usage_encoded}
use Rattle.inliner_tool.specs.Run.{run_status}
use Rattle.inliner_tool.specs.Running.{RunsTyped}
use Rattle.inliner_tool.specs.Seen.{Seen}
use Rattle.inliner_tool.specs.Steps.{Outcome, outcome_step}
use Rattle.inliner_tool.specs.Writing.{CarriesOut}

-- ---- what is accepted

-- The words name files that are texts of a listing, a policy, a certificate and class files, and encode them; these link to a program
-- that is accepted, and obeys the policy for every list of guest steps.
pub record Holds (seen : Seen) (named : NamedCheck) : Type 0 where
  pub inputs : CheckInputs
  pub read : ReadsCheck seen.old seen.count named (Ok inputs)
  pub encodes : CheckEncoded seen.old named inputs
  pub checked : IsChecked named.main inputs

-- The named files link to a program that runs as their certificate types it, and have a policy that was read over its listing.
pub record CheckedRuns (seen : Seen) (named : NamedCheck) : Type 0 where
  pub inputs : CheckInputs
  pub read : ReadsCheck seen.old seen.count named (Ok inputs)
  pub program : Program
  pub links : link_inputs named.main inputs ≡ Ok program
  pub policy : IsPolicyOf program.listing inputs.policy
  pub runs : RunsTyped program inputs.certificate.typing

-- ---- status

abbrev pub judged_status : Verdict → Status
judged_status verdicts.Accepted = statuses.Done
judged_status (verdicts.StoppedAt index) = statuses.Done
judged_status (verdicts.Refused index) = statuses.Denied

abbrev pub answer_status : Answer → Status
answer_status (answers.Accepted accepted) = statuses.Done
answer_status (answers.Shown text) = statuses.Done
answer_status (answers.Judged verdict) = judged_status verdict
answer_status answers.RaceFree = statuses.Done
answer_status (answers.Inlined accepted classes) = statuses.Done
answer_status (answers.Generated classes sites bytes) = statuses.Done
answer_status (answers.Loaded accepted classes sites) = statuses.Done
answer_status (answers.Replayed text) = statuses.Done
answer_status (answers.Ran end text) = run_status end
answer_status (answers.Lifted text) = statuses.Done

abbrev pub refusal_status : Refusal → Status
refusal_status (refusals.Input name fault) = statuses.Input
refusal_status (refusals.Unread name) = statuses.StoreFault
refusal_status (refusals.TotalLong len) = statuses.Input
refusal_status (refusals.Link fault) = statuses.Input
refusal_status (refusals.Untyped class method at) = statuses.Input
refusal_status (refusals.Denied fault label) = statuses.Denied
refusal_status (refusals.Racy condition example) = statuses.Denied
refusal_status (refusals.CellLimit first second count) = statuses.Denied
refusal_status (refusals.Overflow class method what value) = statuses.Overflow
refusal_status (refusals.LongCertificate value) = statuses.Overflow
refusal_status (refusals.NotEnabled index) = statuses.Denied
refusal_status (refusals.Disobeys index) = statuses.Denied
refusal_status (refusals.Overlaps index) = statuses.Denied
refusal_status (refusals.Unwritten name) = statuses.StoreFault

abbrev pub status_of : Outcome → Status
status_of (Ok answer) = answer_status answer
status_of (Err refusal) = refusal_status refusal

-- one that an outcome may have
abbrev pub IsOutcomeStatus : Status → Type 0
IsOutcomeStatus statuses.Done = Unit {0}
IsOutcomeStatus statuses.Denied = Unit {0}
IsOutcomeStatus statuses.Usage = ⊥
IsOutcomeStatus statuses.Input = Unit {0}
IsOutcomeStatus statuses.Overflow = Unit {0}
IsOutcomeStatus statuses.StoreFault = Unit {0}
IsOutcomeStatus statuses.SinkFault = ⊥
IsOutcomeStatus statuses.Memory = ⊥
IsOutcomeStatus statuses.Device = Unit {0}
IsOutcomeStatus statuses.Budget = Unit {0}
IsOutcomeStatus statuses.Mismatch = ⊥

-- ---- the reply

-- An output is put into the sink, and the status is the one that it is to end with; or the sink has a fault, and its text may have a
-- front of the output; or memory runs out, and nothing is printed.
abbrev pub Puts : Option (List ℕ) → Option (List ℕ) → Type 0 → List ℕ → Status → Status → Type 0
Puts text after rose printed status result =
    ((result ≡ status) × Appends text after printed)
    ⊎ (((result ≡ statuses.SinkFault) × rose × AppendsFront text after printed) ⊎ ((result ≡ statuses.Memory) × (after ≡ text)))

-- The words are no command's.
abbrev pub NamesNone : List (List ℕ) → Type 0
NamesNone words = (named : NamedCommand) → IsCommand words named → ⊥

-- They are those of a command, which comes to this outcome, and of this it is so.
pub record Says (seen : Seen) (words : List (List ℕ)) (So : Outcome → Type 0) : Type 0 where
  pub named : NamedCommand
  pub command : IsCommand words named
  pub outcome : Outcome
  pub carries : CarriesOut seen named (outcome_step outcome)
  pub so : So outcome

-- The status of a call, and what became of the sink's text. A fault of the sink takes the place of the status that would
-- have come; its text may then have a front of the output. Without memory nothing is printed. A book that is of no run, or of another,
-- never comes back.
abbrev pub Replies : Seen → List (List ℕ) → Option (List ℕ) → Option (List ℕ) → Type 0 → Status → Type 0
Replies seen words text after rose statuses.Memory = after ≡ text
Replies seen words text after rose statuses.Mismatch = ⊥
Replies seen words text after rose statuses.Usage = NamesNone words × (seen.new ≡ seen.old) × Appends text after usage_encoded
Replies seen words text after rose statuses.SinkFault =
    rose × ((NamesNone words × (seen.new ≡ seen.old) × AppendsFront text after usage_encoded) ⊎ Says seen words (λ outcome. AppendsFront text after (outcome_encoded outcome)))
Replies seen words text after rose status = Says seen words (λ outcome. (status ≡ status_of outcome) × Appends text after (outcome_encoded outcome))
