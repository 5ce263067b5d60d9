-- What the status of a call says of its outcome.
use Rattle.std.proofs.Common.{◌≡◌, inl, inr, ℕ, List, Option, Ok, Err, sym, subst, ap, ◌∙◌}
use Rattle.std.specs.Prelude.{IfSome}
use Rattle.command_inputs.specs.GenWords.{IsGen, IsLoad, NamedGen}
use Rattle.command_inputs.specs.InlineWords.{IsInline, NamedInline}
use Rattle.command_inputs.specs.LiftWords.{IsLift, NamedLift}
use Rattle.command_inputs.specs.ReplayWords.{IsReplay, NamedReplay}
use Rattle.command_inputs.specs.Words.{Check, Gen, Inline, IsCheck, IsCommand, IsRunCommand, Lift, Load, NamedCheck, NamedCommand, NamedRun, Policy, Race, Replay, Run, Show}
use Rattle.command_inputs.proofs.NamedOnce.{command_once}
use Rattle.mon_store.specs.Sink.{Appends, AppendsFront}
use Rattle.inliner_tool.specs.declared.answer.Answer.{Answer}
use Rattle.inliner_tool.specs.declared.refusal.Ended.{Ended}
use Rattle.inliner_tool.specs.declared.refusal.Ended.TheVariants as ends
use Rattle.inliner_tool.specs.declared.refusal.Refusal.{Refusal}
use Rattle.inliner_tool.specs.declared.tool.Status.{Status}
use Rattle.inliner_tool.specs.declared.tool.Status.TheVariants as statuses
use Rattle.inliner_tool.specs.Replies.{outcome_encoded, usage_encoded}
use Rattle.inliner_tool.specs.Run.{AreWithin, IsRunStatus, PrintsRun, TellsKept, Told}
use Rattle.inliner_tool.specs.Seen.{Seen}
use Rattle.inliner_tool.specs.Steps.{Outcome, Step, UnlessMemory, outcome_step}
use Rattle.inliner_tool.specs.Tool.{CheckedRuns, Holds, IsOutcomeStatus, NamesNone, Puts, Replies, Says, answer_status, status_of}
use Rattle.inliner_tool.specs.Writing.{CarriesOut}

-- ---- words

-- The words of a command are those of no other.
pub is_check : (words : List (List ℕ)) (command : NamedCommand) → IsCommand words command → (named : NamedCheck) → IsCheck words named → command ≡ Check named
is_check words command is named encoded = command_once words command (Check named) is (record { encoded = encoded; full = is.full })

pub is_replay : (words : List (List ℕ)) (command : NamedCommand) → IsCommand words command → (named : NamedReplay) → IsReplay words named → command ≡ Replay named
is_replay words command is named encoded = command_once words command (Replay named) is (record { encoded = encoded; full = is.full })

pub is_lift : (words : List (List ℕ)) (command : NamedCommand) → IsCommand words command → (named : NamedLift) → IsLift words named → command ≡ Lift named
is_lift words command is named encoded = command_once words command (Lift named) is (record { encoded = encoded; full = is.full })

pub is_inline : (words : List (List ℕ)) (command : NamedCommand) → IsCommand words command → (named : NamedInline) → IsInline words named → command ≡ Inline named
is_inline words command is named encoded = command_once words command (Inline named) is (record { encoded = encoded; full = is.full })

pub is_run : (words : List (List ℕ)) (command : NamedCommand) → IsCommand words command → (named : NamedRun) → IsRunCommand words named → command ≡ Run named
is_run words command is named encoded = command_once words command (Run named) is (record { encoded = encoded; full = is.full })

pub is_gen : (words : List (List ℕ)) (command : NamedCommand) → IsCommand words command → (named : NamedGen) → IsGen words named → command ≡ Gen named
is_gen words command is named encoded = command_once words command (Gen named) is (record { encoded = encoded; full = is.full })

pub is_load : (words : List (List ℕ)) (command : NamedCommand) → IsCommand words command → (named : NamedGen) → IsLoad words named → command ≡ Load named
is_load words command is named encoded = command_once words command (Load named) is (record { encoded = encoded; full = is.full })

-- The numbers of the words are within their bounds.
pub within : (words : List (List ℕ)) (command : NamedCommand) → IsCommand words command → AreWithin command
within words (Check named) is = tt
within words (Show named) is = tt
within words (Policy named) is = tt
within words (Race named) is = tt
within words (Inline named) is = tt
within words (Replay named) is = tt
within words (Lift named) is = tt
within words (Gen named) is = is.encoded.bounds
within words (Load named) is = is.encoded.bounds
within words (Run named) is = record { some = is.encoded.workers.some; most = is.encoded.workers.within; steps = is.encoded.budget.within }

-- A program that was checked runs as its certificate types it.
pub checked_runs : (seen : Seen) (named : NamedCheck) → Holds seen named → CheckedRuns seen named
checked_runs seen named h = record {
  inputs = h.inputs;
  read = h.read;
  program = h.checked.program;
  links = h.checked.links;
  policy = h.checked.checked.read;
  runs = h.checked.checked.runs;
}

-- What is so of a refusal, unless memory ran out, is so.
pub refused_so : (P : Step Answer → Type 0) (e : Ended) (refusal : Refusal) → e ≡ ends.Refused refusal → UnlessMemory P (Err e) → P (Err (ends.Refused refusal))
refused_so P e refusal is told = by (subst (λ (x : Ended). UnlessMemory P (Err x)) is told) where
  by : UnlessMemory P (Err (ends.Refused refusal)) → P (Err (ends.Refused refusal))
  by (inl so) = so
  by (inr memory) = absurd cc

-- ---- what was put into the sink

-- Without a fault of the sink, and unless memory ran out, it is the output, and the status is the one that it was to end with.
pub puts_plain : (text after : Option (List ℕ)) (rose : Type 0) (printed : List ℕ) (status result : Status) → Puts text after rose printed status result → (rose → ⊥) → (result ≡ statuses.Memory → ⊥)
    → (result ≡ status) × Appends text after printed
puts_plain text after rose printed status result (inl is) no_rise other = is
puts_plain text after rose printed status result (inr (inl (same, risen, front))) no_rise other = absurd (no_rise risen)
puts_plain text after rose printed status result (inr (inr (memory, same))) no_rise other = absurd (other memory)

pub no_run_status : IsRunStatus statuses.Usage → ⊥
no_run_status (inl e) = absurd cc
no_run_status (inr (inl e)) = absurd cc
no_run_status (inr (inr e)) = absurd cc

no_sink_status : IsRunStatus statuses.SinkFault → ⊥
no_sink_status (inl e) = absurd cc
no_sink_status (inr (inl e)) = absurd cc
no_sink_status (inr (inr e)) = absurd cc

no_memory_status : IsRunStatus statuses.Memory → ⊥
no_memory_status (inl e) = absurd cc
no_memory_status (inr (inl e)) = absurd cc
no_memory_status (inr (inr e)) = absurd cc

-- It ends well only where it was to.
pub puts_no : (text after : Option (List ℕ)) (rose : Type 0) (printed : List ℕ) (status result : Status) → Puts text after rose printed status result → (status ≡ statuses.Done → ⊥) → result ≡ statuses.Done → ⊥
puts_no text after rose printed status result (inl (is, appends)) never done = never (rw (← is) done)
puts_no text after rose printed status result (inr (inl (same, risen, front))) never done =
    let wrong : statuses.SinkFault ≡ statuses.Done = rw (← same) done in
    absurd cc
puts_no text after rose printed status result (inr (inr (memory, same))) never done =
    let wrong : statuses.Memory ≡ statuses.Done = rw (← memory) done in
    absurd cc

-- It ends as a run only where it was to.
pub puts_run : (text after : Option (List ℕ)) (rose : Type 0) (printed : List ℕ) (status result : Status) → Puts text after rose printed status result → IsRunStatus result
    → (result ≡ status) × Appends text after printed
puts_run text after rose printed status result (inl is) ended = is
puts_run text after rose printed status result (inr (inl (same, risen, front))) ended = absurd (no_sink_status (subst IsRunStatus same ended))
puts_run text after rose printed status result (inr (inr (memory, same))) ended = absurd (no_memory_status (subst IsRunStatus memory ended))

-- The run that is kept is the one of the words, and what is printed is its record.
pub prints_run : (So : NamedRun → Told → Type 0) (command : NamedCommand) (named : NamedRun) → command ≡ Run named → (kept : Option Told) (answer : Answer) → TellsKept kept answer
    → IfSome kept (λ told. (n : NamedRun) × (command ≡ Run n) × So n told) → (text after : Option (List ℕ)) (status : Status) → status ≡ answer_status answer → Appends text after (outcome_encoded (Ok answer)) → PrintsRun (So named) kept text after status
prints_run So command named is kept answer (told, kept_is, same) so text after status ends appends =
    let run = subst (λ (k : Option Told). IfSome k (λ told. (n : NamedRun) × (command ≡ Run n) × So n told)) kept_is so in
    let runs : Run run.0 ≡ Run named = sym run.1 ∙ is in
    let one : run.0 ≡ named = cc in
    (told, kept_is, subst (λ (n : NamedRun). So n told) one run.2, subst (λ (a : Answer). Appends text after (outcome_encoded (Ok a))) same appends, ends ∙ ap answer_status same)

module _ (seen : Seen) (words : List (List ℕ)) (text after : Option (List ℕ)) (rose : Type 0) where
  -- ---- the usage line

  pub usage_replied : NamesNone words → seen.new ≡ seen.old → (result : Status) → Puts text after rose usage_encoded statuses.Usage result → Replies seen words text after rose result
  usage_replied none same result (inl (is, appends)) = subst (Replies seen words text after rose) (sym is) (none, same, appends)
  usage_replied none same result (inr (inl (is, risen, front))) = subst (Replies seen words text after rose) (sym is) (risen, inl (none, same, front))
  usage_replied none same result (inr (inr (memory, stays))) = subst (Replies seen words text after rose) (sym memory) stays

  -- ---- an outcome

  module _ (named : NamedCommand) (is : IsCommand words named) (outcome : Outcome) (carries : CarriesOut seen named (outcome_step outcome)) where
    says : (So : Outcome → Type 0) → So outcome → Says seen words So
    says So so = record { named = named; command = is; outcome = outcome; carries = carries; so = so }

    plain : (status : Status) → IsOutcomeStatus status → status ≡ status_of outcome → Appends text after (outcome_encoded outcome) → Replies seen words text after rose status
    plain statuses.Done kind same appends = says (λ o. (statuses.Done ≡ status_of o) × Appends text after (outcome_encoded o)) (same, appends)
    plain statuses.Denied kind same appends = says (λ o. (statuses.Denied ≡ status_of o) × Appends text after (outcome_encoded o)) (same, appends)
    plain statuses.Usage kind same appends = absurd kind
    plain statuses.Input kind same appends = says (λ o. (statuses.Input ≡ status_of o) × Appends text after (outcome_encoded o)) (same, appends)
    plain statuses.Overflow kind same appends = says (λ o. (statuses.Overflow ≡ status_of o) × Appends text after (outcome_encoded o)) (same, appends)
    plain statuses.StoreFault kind same appends = says (λ o. (statuses.StoreFault ≡ status_of o) × Appends text after (outcome_encoded o)) (same, appends)
    plain statuses.SinkFault kind same appends = absurd kind
    plain statuses.Memory kind same appends = absurd kind
    plain statuses.Device kind same appends = says (λ o. (statuses.Device ≡ status_of o) × Appends text after (outcome_encoded o)) (same, appends)
    plain statuses.Budget kind same appends = says (λ o. (statuses.Budget ≡ status_of o) × Appends text after (outcome_encoded o)) (same, appends)
    plain statuses.Mismatch kind same appends = absurd kind

    pub outcome_replied : (status : Status) → IsOutcomeStatus status → status ≡ status_of outcome → (result : Status) → Puts text after rose (outcome_encoded outcome) status result
        → Replies seen words text after rose result
    outcome_replied status kind same result (inl (is, appends)) = subst (Replies seen words text after rose) (sym is) (plain status kind same appends)
    outcome_replied status kind same result (inr (inl (fault, risen, front))) =
        subst (Replies seen words text after rose) (sym fault) (risen, inr (says (λ o. AppendsFront text after (outcome_encoded o)) front))
    outcome_replied status kind same result (inr (inr (memory, stays))) = subst (Replies seen words text after rose) (sym memory) stays
