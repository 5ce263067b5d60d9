-- What `run` comes to over files that the store tells, without a fault: an answer no, or a run, unless memory runs out.
use Rattle.std.proofs.Common.{◌≡◌, inl, inr, length, Ok, Err, refl, sym, ap, subst, ◌∙◌}
use Rattle.bytecode_model.specs.declared.program.Program.{Program}
use Rattle.cert_checker.specs.Judging.{judged}
use Rattle.conspec_automaton.specs.Building.{built}
use Rattle.command_inputs.specs.Words.{NamedRun, Run}
use Rattle.event_record.specs.declared.writing.EndLine.{EndLine}
use Rattle.event_record.specs.declared.writing.EndLine.TheVariants as lines
use Rattle.command_inputs.specs.declared.check_inputs.CheckInputs.{CheckInputs}
use Rattle.command_inputs.specs.Forms.{Then, Yields}
use Rattle.command_inputs.specs.Kinds.{certificate_form, listing_form, policy_form}
use Rattle.inliner_tool.specs.declared.answer.Answer.{Answer}
use Rattle.inliner_tool.specs.declared.answer.Made.{Made}
use Rattle.inliner_tool.specs.declared.refusal.Ended.{Ended}
use Rattle.inliner_tool.specs.declared.refusal.Ended.TheVariants as ends
use Rattle.inliner_tool.specs.declared.refusal.Refusal.{Refusal}
use Rattle.inliner_tool.specs.Check.{judged_step, link_inputs}
use Rattle.inliner_tool.specs.Decision.{IsDecision}
use Rattle.inliner_tool.specs.Run.{IsRunStatus, Runs, run_status}
use Rattle.inliner_tool.specs.RunDecision.{IsRunDecision, RunDecides}
use Rattle.inliner_tool.specs.Steps.{Outcome, Step, outcome_step}
use Rattle.inliner_tool.specs.Tool.{answer_status, refusal_status, status_of}
use Rattle.inliner_tool.proofs.Carrying.{no_rise_so}
use Rattle.inliner_tool.proofs.CheckDecision.{outcome_says, verdict_decides}
use Rattle.inliner_tool.proofs.Told.{MayRead, may_read}
use Rattle.inliner_tool.proofs.ToldClasses.{MayClasses, may_classes}

-- A run has the status of one.
is_run_status : (end : EndLine) → IsRunStatus (run_status end)
is_run_status lines.Finished = inl refl
is_run_status lines.Deadlock = inl refl
is_run_status (lines.Stopped value) = inl refl
is_run_status lines.Budget = inr (inl refl)
is_run_status lines.Device = inr (inr refl)
is_run_status lines.Running = inl refl

-- Where the program is run, its record is answered.
ran_status : (named : NamedRun) (inputs : CheckInputs) (made : Made) → Runs named inputs (Ok made) → (answer : Answer) → answer ≡ made.answer → IsRunStatus (answer_status answer)
ran_status named inputs made (program, links, (accepted, verdict, (told, is, same))) answer answers =
    subst (λ (a : Answer). IsRunStatus (answer_status a)) (sym (answers ∙ ap (λ (m : Made). m.answer) same)) (is_run_status told.1)

module _ (named : NamedRun) (inputs : CheckInputs) (program : Program) (links : link_inputs named.check.main inputs ≡ Ok program) where
  -- Where it is not, the program is not accepted, and this is why.
  denied_so : (e : Ended) → Runs named inputs (Err e) → Err e ≡ judged_step inputs.policy inputs.certificate program
  denied_so e (inl unlinked) =
      let wrong : ◌≡◌ {A = Step Program} (Err e) (Ok program) = unlinked ∙ links in
      absurd cc
  denied_so e (inr (other, first, inl verdict)) =
      let right : ◌≡◌ {A = Step Program} (Ok other) (Ok program) = first ∙ links in
      let same : other ≡ program = cc in
      subst (λ (p : Program). Err e ≡ judged_step inputs.policy inputs.certificate p) same verdict
  denied_so e (inr (other, first, inr (accepted, verdict, none))) = absurd none

-- A decision to refuse is the answer no.
refused : (refusal : Refusal) → IsDecision (refusal_status refusal) → IsRunDecision (refusal_status refusal)
refused refusal (inl done) = inr (inl done)
refused refusal (inr denied) = inl denied

pub run_decides : RunDecides
run_decides seen named outcome carries no_rise names =
    by outcome (outcome_says seen.old seen.count named.check no_rise names.told inputs listing policy certificate classes (Runs named) outcome (no_rise_so seen (Run named) no_rise (outcome_step outcome) carries)) where
      inputs : CheckInputs
      inputs = record { listing = names.listing; policy = names.policy; certificate = names.certificate; classes = names.classes }

      listing : MayRead seen.old named.check.listing listing_form names.listing
      listing = may_read seen.old named.check.listing listing_form names.listing names.listing_read

      policy : MayRead seen.old named.check.policy (policy_form names.listing) names.policy
      policy = may_read seen.old named.check.policy (policy_form names.listing) names.policy names.policy_read

      certificate : MayRead seen.old named.check.certificate (certificate_form (length names.policy.vars)) names.certificate
      certificate = may_read seen.old named.check.certificate (certificate_form (length names.policy.vars)) names.certificate names.certificate_read

      classes : MayClasses seen.old named.check.classes names.classes.files names.classes.total
      classes = may_classes seen.old named.check.classes names.classes.files names.classes.total names.classes_read

      by : (outcome : Outcome) → Then (Runs named inputs) (λ made. Yields made.answer) (outcome_step outcome) → IsRunDecision (status_of outcome)
      by (Ok answer) (made, runs, is) = inr (ran_status named inputs made runs answer is)
      by (Err refusal) (inl runs) =
          refused refusal
          (verdict_decides names.policy names.program (judged names.program (built names.policy) names.certificate) refusal (denied_so named inputs names.program names.links (ends.Refused refusal) runs))
      by (Err refusal) (inr (made, runs, none)) = absurd none
