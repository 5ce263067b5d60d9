-- What a command comes to over told files, without a fault of the store, is what its definition gives.
use Rattle.std.proofs.Common.{◌≡◌, ℕ, List, Option, Some, Ok, Err, inl, inr, refl, subst}
use Rattle.command_inputs.specs.Words.{Check, Gen, Inline, IsCommand, Lift, Load, NamedCommand, Policy, Race, Replay, Run, Show}
use Rattle.command_inputs.proofs.NamedOnce.{command_once}
use Rattle.command_inputs.specs.Contents.{Contents, check_read, inline_read, lift_read, policy_read, race_read, replay_read, show_read}
use Rattle.command_inputs.specs.Forms.{Count, Then, Yields}
use Rattle.command_inputs.specs.Told.{ToldAreRead}
use Rattle.mon_store.specs.Sink.{Appends}
use Rattle.mon_store.specs.Store.{Files, Rose}
use Rattle.inliner_tool.specs.declared.answer.Made.{Made}
use Rattle.inliner_tool.specs.declared.refusal.Ended.TheVariants as ends
use Rattle.inliner_tool.specs.declared.tool.Status.{Status}
use Rattle.inliner_tool.specs.declared.tool.Status.TheVariants as statuses
use Rattle.inliner_tool.specs.Check.{Checks}
use Rattle.inliner_tool.specs.Commands.{Makes, readings_in, readings_of}
use Rattle.inliner_tool.specs.Decides.{ComesTo, Decides, Gives}
use Rattle.inliner_tool.specs.Inline.{Inlines}
use Rattle.inliner_tool.specs.Lift.{Lifts}
use Rattle.inliner_tool.specs.Policy.{Judges}
use Rattle.inliner_tool.specs.Race.{Races}
use Rattle.inliner_tool.specs.Replay.{Replays}
use Rattle.inliner_tool.specs.Replies.{outcome_encoded, usage_encoded}
use Rattle.inliner_tool.specs.Run.{Runs}
use Rattle.inliner_tool.specs.Seen.{Seen}
use Rattle.inliner_tool.specs.Show.{Shows}
use Rattle.inliner_tool.specs.Steps.{Outcome, Step, outcome_step}
use Rattle.inliner_tool.specs.Tool.{NamesNone, status_of}
use Rattle.inliner_tool.specs.Writing.{CarriesOut}
use Rattle.inliner_tool.proofs.Carrying.{no_rise_so, told_so}

-- ---- commands

module _ (told : ToldAreRead) (contents : Contents) (count : Count) (no_rise : Rose count.before count.now → ⊥) where
  -- the store tells these contents
  abbrev telling : Files → Seen
  telling new = record { old = Some contents; new = new; count = count }

  makes_so : (named : NamedCommand) (new : Files) (step : Step Made) → (step ≡ Err ends.Memory → ⊥) → Makes (readings_of (telling new)) named step → Makes (readings_in contents) named step
  makes_so (Check named) new step other = told_so _ (check_read contents named) (λ r. told.check contents count named r no_rise) (Checks named.main) step other
  makes_so (Show named) new step other = told_so _ (show_read contents named) (λ r. told.show contents count named r no_rise) Shows step other
  makes_so (Policy named) new step other = told_so _ (policy_read contents named) (λ r. told.policy contents count named r no_rise) Judges step other
  makes_so (Race named) new step other = told_so _ (race_read contents named) (λ r. told.race contents count named r no_rise) Races step other
  makes_so (Inline named) new step other = told_so _ (inline_read contents named) (λ r. told.inline contents count named r no_rise) (Inlines named) step other
  makes_so (Replay named) new step other = told_so _ (replay_read contents named) (λ r. told.replay contents count named r no_rise) (Replays named.main) step other
  makes_so (Lift named) new step other = told_so _ (lift_read contents named) (λ r. told.lift contents count named r no_rise) (Lifts named.main) step other
  makes_so (Gen named) new step other = λ makes. makes
  makes_so (Load named) new step other = λ makes. makes
  makes_so (Run named) new step other = told_so _ (check_read contents named.check) (λ r. told.check contents count named.check r no_rise) (Runs named) step other

  gives_so : (named : NamedCommand) (new : Files) (outcome : Outcome) → CarriesOut (telling new) named (outcome_step outcome) → Gives contents named outcome
  gives_so named new (Ok answer) carries = by (no_rise_so (telling new) named no_rise (Ok answer) carries) where
    by : Then (Makes (readings_of (telling new)) named) (λ made. Yields made.answer) (Ok answer) → Gives contents named (Ok answer)
    by (made, makes, is) = (made, makes_so named new (Ok made) (λ e. absurd cc) makes, is)
  gives_so named new (Err refusal) carries = by (no_rise_so (telling new) named no_rise (Err (ends.Refused refusal)) carries) where
    by : Then (Makes (readings_of (telling new)) named) (λ made. Yields made.answer) (Err (ends.Refused refusal)) → Gives contents named (Err refusal)
    by (inl makes) = inl (makes_so named new (Err (ends.Refused refusal)) (λ e. absurd cc) makes)
    by (inr (made, makes, none)) = absurd none

  -- ---- words

  -- What is printed for an outcome of their command is what is meant.
  pub outcome_decides : (words : List (List ℕ)) (new : Files) (named : NamedCommand) → IsCommand words named → (outcome : Outcome) → CarriesOut (telling new) named (outcome_step outcome)
      → (text after : Option (List ℕ)) (status : Status) → status ≡ status_of outcome → Appends text after (outcome_encoded outcome) → Decides contents words text after status
  outcome_decides words new named is outcome carries text after status same appends = record {
    printed = outcome_encoded outcome;
    appends = appends;
    command = λ again of.
        subst (λ (n : NamedCommand). ComesTo contents n status (outcome_encoded outcome)) (command_once words named again is of)
        (record { outcome = outcome; gives = gives_so named new outcome carries; status_is = same; encoded = refl });
    usage = λ none. absurd (none named is);
  }

-- So is the usage line.
pub usage_decides : (contents : Contents) (words : List (List ℕ)) → NamesNone words → (text after : Option (List ℕ)) (status : Status) → status ≡ statuses.Usage → Appends text after usage_encoded
    → Decides contents words text after status
usage_decides contents words none text after status same appends =
    record { printed = usage_encoded; appends = appends; command = λ named is. absurd (none named is); usage = λ of. (same, refl) }
