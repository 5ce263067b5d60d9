-- What `check` comes to over files that the store tells, without a fault: what they come to, unless memory runs out.
use Rattle.std.proofs.Common.{◌≡◌, inl, inr, ℕ, List, length, Result, Ok, Err, refl, ap, subst, ◌∙◌}
use Rattle.std.specs.Prelude.{IsSome}
use Rattle.api_listing.specs.declared.types.Listing.{Listing}
use Rattle.bytecode_model.specs.declared.program.Program.{Program}
use Rattle.cert_checker.specs.declared.checking.Accepted.{Accepted}
use Rattle.cert_checker.specs.declared.judging.Denial.{Denial}
use Rattle.cert_checker.specs.declared.judging.Denial.TheVariants as denials
use Rattle.cert_checker.specs.Judging.{judged}
use Rattle.cert_format.specs.declared.certificate.Certificate.{Certificate}
use Rattle.command_inputs.specs.Words.{Check, NamedCheck}
use Rattle.conspec_automaton.specs.Building.{built}
use Rattle.conspec_tree.specs.declared.types.PolicyTree.{PolicyTree}
use Rattle.mon_store.specs.Store.{Files, Rose}
use Rattle.command_inputs.specs.declared.check_inputs.CheckInputs.{CheckInputs}
use Rattle.command_inputs.specs.declared.files.Stop.{Stop}
use Rattle.command_inputs.specs.declared.files.Stop.TheVariants as stops
use Rattle.command_inputs.specs.CheckInputs.{ReadsCheck}
use Rattle.command_inputs.specs.Forms.{Count, ReadsForm, Then, Yields}
use Rattle.command_inputs.specs.Kinds.{certificate_form, listing_form, policy_form}
use Rattle.inliner_tool.specs.declared.answer.Answer.{Answer}
use Rattle.inliner_tool.specs.declared.answer.Made.{Made}
use Rattle.inliner_tool.specs.declared.refusal.Ended.{Ended}
use Rattle.inliner_tool.specs.declared.refusal.Ended.TheVariants as ends
use Rattle.inliner_tool.specs.declared.refusal.Refusal.{Refusal}
use Rattle.inliner_tool.specs.declared.refusal.Refusal.TheVariants as refusals
use Rattle.inliner_tool.specs.declared.tool.Status.TheVariants as statuses
use Rattle.inliner_tool.specs.Check.{Checks, judged_step, label_for, link_inputs, verdict_step}
use Rattle.inliner_tool.specs.CheckDecision.{CheckDecides}
use Rattle.inliner_tool.specs.Decision.{IsDecision}
use Rattle.inliner_tool.specs.Race.{racy}
use Rattle.inliner_tool.specs.Steps.{Equals, Outcome, Reading, Step, outcome_step, stopped}
use Rattle.inliner_tool.specs.Tool.{answer_status, refusal_status, status_of}
use Rattle.inliner_tool.specs.Writing.{CarriesOut}
use Rattle.inliner_tool.proofs.Carrying.{no_rise_so}
use Rattle.inliner_tool.proofs.Told.{MayRead, may_read, stops_once, tree_once}
use Rattle.inliner_tool.proofs.ToldClasses.{MayClasses, classes_stop, may_classes, same_classes}

-- ---- what is read

module _ (files : Files) (count : Count) (named : NamedCheck) (no_rise : Rose count.before count.now → ⊥) (told : IsSome files) (inputs : CheckInputs)
    (listing_read : MayRead files named.listing listing_form inputs.listing) (policy_read : MayRead files named.policy (policy_form inputs.listing) inputs.policy)
    (certificate_read : MayRead files named.certificate (certificate_form (length inputs.policy.vars)) inputs.certificate)
    (classes_read : MayClasses files named.classes inputs.classes.files inputs.classes.total) where
  same_listing : (listing : Listing) → ReadsForm files count named.listing listing_form (Ok listing) → listing ≡ inputs.listing
  same_listing listing is = tree_once files count named.listing listing_form inputs.listing told listing_read no_rise listing is

  same_policy : (listing : Listing) (policy : PolicyTree) → listing ≡ inputs.listing → ReadsForm files count named.policy (policy_form listing) (Ok policy) → policy ≡ inputs.policy
  same_policy listing policy same is =
      tree_once files count named.policy (policy_form inputs.listing) inputs.policy told policy_read no_rise policy (subst (λ (l : Listing). ReadsForm files count named.policy (policy_form l) (Ok policy)) same is)

  same_certificate : (policy : PolicyTree) (certificate : Certificate) → policy ≡ inputs.policy → ReadsForm files count named.certificate (certificate_form (length policy.vars)) (Ok certificate) → certificate ≡ inputs.certificate
  same_certificate policy certificate same is =
      tree_once files count named.certificate (certificate_form (length inputs.policy.vars)) inputs.certificate told certificate_read no_rise certificate
      (subst (λ (p : PolicyTree). ReadsForm files count named.certificate (certificate_form (length p.vars)) (Ok certificate)) same is)

  inputs_once : (other : CheckInputs) → ReadsCheck files count named (Ok other) → other ≡ inputs
  inputs_once other (listing, first, (policy, second, (certificate, third, (classes, fourth, is)))) =
      let a = same_listing listing first in
      let b = same_policy listing policy a second in
      let c = same_certificate policy certificate b third in
      let d = same_classes files count told no_rise named.classes classes inputs.classes fourth classes_read in
      is ∙ rw (a, b, c, d) refl

  policy_stops : (listing : Listing) (stop : Stop) → listing ≡ inputs.listing → ReadsForm files count named.policy (policy_form listing) (Err stop) → stop ≡ stops.Memory
  policy_stops listing stop same is =
      stops_once files count named.policy (policy_form inputs.listing) inputs.policy told policy_read no_rise stop (subst (λ (l : Listing). ReadsForm files count named.policy (policy_form l) (Err stop)) same is)

  certificate_stops : (policy : PolicyTree) (stop : Stop) → policy ≡ inputs.policy → ReadsForm files count named.certificate (certificate_form (length policy.vars)) (Err stop) → stop ≡ stops.Memory
  certificate_stops policy stop same is =
      stops_once files count named.certificate (certificate_form (length inputs.policy.vars)) inputs.certificate told certificate_read no_rise stop
      (subst (λ (p : PolicyTree). ReadsForm files count named.certificate (certificate_form (length p.vars)) (Err stop)) same is)

  check_stops : (stop : Stop) → ReadsCheck files count named (Err stop) → stop ≡ stops.Memory
  check_stops stop (inl first) = stops_once files count named.listing listing_form inputs.listing told listing_read no_rise stop first
  check_stops stop (inr (listing, first, inl second)) = policy_stops listing stop (same_listing listing first) second
  check_stops stop (inr (listing, first, inr (policy, second, inl third))) = certificate_stops policy stop (same_policy listing policy (same_listing listing first) second) third
  check_stops stop (inr (listing, first, inr (policy, second, inr (certificate, third, inl fourth)))) =
      classes_stop files count told no_rise named.classes inputs.classes.files inputs.classes.total stop classes_read fourth
  check_stops stop (inr (listing, first, inr (policy, second, inr (certificate, third, inr (classes, fourth, none))))) = absurd none

  -- What is made is made of what the files are: by `check`, and by `run`, which reads the same files.
  module _ (Second : CheckInputs → Step Made → Type 0) where
    made_so : (step : Step Made) → (step ≡ Err ends.Memory → ⊥) → Then (Reading (ReadsCheck files count named)) Second step → Second inputs step
    made_so (Ok made) other (read, reads, second) = subst (λ (i : CheckInputs). Second i (Ok made)) (inputs_once read reads) second
    made_so (Err e) other (inl (stop, reads, is)) = absurd (other (ap (λ (x : Ended). Err x) (is ∙ ap stopped (check_stops stop reads))))
    made_so (Err e) other (inr (read, reads, second)) = subst (λ (i : CheckInputs). Second i (Err e)) (inputs_once read reads) second

    -- The outcome is that of what the files are.
    pub outcome_says : (outcome : Outcome) → Then (Then (Reading (ReadsCheck files count named)) Second) (λ made. Yields made.answer) (outcome_step outcome)
        → Then (Second inputs) (λ made. Yields made.answer) (outcome_step outcome)
    outcome_says (Ok answer) (made, makes, is) = (made, made_so (Ok made) (λ e. absurd cc) makes, is)
    outcome_says (Err refusal) (inl makes) = inl (made_so (Err (ends.Refused refusal)) (λ e. absurd cc) makes)
    outcome_says (Err refusal) (inr (made, makes, none)) = absurd none

  pub check_says : (new : Files) (outcome : Outcome) → CarriesOut (record { old = files; new = new; count = count }) (Check named) (outcome_step outcome)
      → Then (Checks named.main inputs) (λ made. Yields made.answer) (outcome_step outcome)
  check_says new outcome carries =
      outcome_says (Checks named.main) outcome (no_rise_so (record { old = files; new = new; count = count }) (Check named) no_rise (outcome_step outcome) carries)

-- ---- what is decided

module _ (main : List ℕ) (inputs : CheckInputs) (program : Program) (links : link_inputs main inputs ≡ Ok program) where
  same_program : (other : Program) → Equals (link_inputs main inputs) (Ok other) → other ≡ program
  same_program other first =
      let same : ◌≡◌ {A = Step Program} (Ok other) (Ok program) = first ∙ links in
      cc

  -- Where it is accepted, the status is 0.
  pub accepted_done : (made : Made) → Checks main inputs (Ok made) → (answer : Answer) → answer ≡ made.answer → answer_status answer ≡ statuses.Done
  accepted_done made (other, first, (accepted, verdict, same)) answer is = ap answer_status (is ∙ ap (λ (m : Made). m.answer) same)

  -- Where it is not, it is why.
  pub denied_so : (e : Ended) → Checks main inputs (Err e) → Err e ≡ judged_step inputs.policy inputs.certificate program
  denied_so e (inl unlinked) =
      let wrong : ◌≡◌ {A = Step Program} (Err e) (Ok program) = unlinked ∙ links in
      absurd cc
  denied_so e (inr (other, first, inl verdict)) = subst (λ (p : Program). Err e ≡ judged_step inputs.policy inputs.certificate p) (same_program other first) verdict
  denied_so e (inr (other, first, inr (accepted, verdict, none))) = absurd none

pub verdict_decides : (policy : PolicyTree) (program : Program) (verdict : Result Accepted Denial) (refusal : Refusal) → Err (ends.Refused refusal) ≡ verdict_step policy program verdict
    → IsDecision (refusal_status refusal)
verdict_decides policy program (Ok accepted) refusal is = absurd cc
verdict_decides policy program (Err (denials.Fault fault)) refusal is =
    let same : refusal ≡ refusals.Denied fault (label_for program fault) = cc in
    inr (ap refusal_status same)
verdict_decides policy program (Err (denials.CellLimit first second count)) refusal is =
    let same : refusal ≡ refusals.CellLimit first second count = cc in
    inr (ap refusal_status same)
verdict_decides policy program (Err (denials.Racy condition state first second)) refusal is =
    let same : refusal ≡ racy policy program.listing condition state first second = cc in
    inr (ap refusal_status same)
verdict_decides policy program (Err denials.Memory) refusal is = absurd cc

pub check_decides : CheckDecides
check_decides seen named outcome carries no_rise names = by outcome (check_says seen.old seen.count named no_rise names.told inputs listing policy certificate classes seen.new outcome carries) where
  inputs : CheckInputs
  inputs = record { listing = names.listing; policy = names.policy; certificate = names.certificate; classes = names.classes }

  listing : MayRead seen.old named.listing listing_form names.listing
  listing = may_read seen.old named.listing listing_form names.listing names.listing_read

  policy : MayRead seen.old named.policy (policy_form names.listing) names.policy
  policy = may_read seen.old named.policy (policy_form names.listing) names.policy names.policy_read

  certificate : MayRead seen.old named.certificate (certificate_form (length names.policy.vars)) names.certificate
  certificate = may_read seen.old named.certificate (certificate_form (length names.policy.vars)) names.certificate names.certificate_read

  classes : MayClasses seen.old named.classes names.classes.files names.classes.total
  classes = may_classes seen.old named.classes names.classes.files names.classes.total names.classes_read

  by : (outcome : Outcome) → Then (Checks named.main inputs) (λ made. Yields made.answer) (outcome_step outcome) → IsDecision (status_of outcome)
  by (Ok answer) (made, checks, is) = inl (accepted_done named.main inputs names.program names.links made checks answer is)
  by (Err refusal) (inl checks) =
      verdict_decides names.policy names.program (judged names.program (built names.policy) names.certificate) refusal (denied_so named.main inputs names.program names.links (ends.Refused refusal) checks)
  by (Err refusal) (inr (made, checks, none)) = absurd none
