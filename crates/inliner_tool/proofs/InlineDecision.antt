-- To files that the store tells, without a fault, that link to a program with types, with sizes that fit, `inline` answers that all is
-- written, or that the certificate is too long, unless memory runs out.
use Rattle.std.proofs.Common.{◌≡◌, inl, inr, ℕ, Bool, true, false, cond, List, length, Ok, Err, refl, sym, ap, subst, ◌∙◌}
use Rattle.api_listing.specs.declared.types.Listing.{Listing}
use Rattle.block_template.specs.Blocks.{plan_of}
use Rattle.bytecode_model.specs.declared.program.Program.{Program}
use Rattle.cert_checker.specs.declared.checking.Accepted.{Accepted}
use Rattle.cert_format.specs.declared.certificate.Certificate.{Certificate}
use Rattle.cert_format.specs.declared.certificate.Mode.{Mode}
use Rattle.cert_format.specs.declared.typing.Typing.{Typing}
use Rattle.cert_format.specs.Encoding.{encode_certificate}
use Rattle.class_weaving.specs.declared.woven.Woven.{Woven}
use Rattle.class_weaving.specs.Woven.{woven}
use Rattle.command_inputs.specs.InlineWords.{NamedInline}
use Rattle.command_inputs.specs.Words.{Inline}
use Rattle.conspec_automaton.specs.Building.{built}
use Rattle.conspec_tree.specs.declared.types.PolicyTree.{PolicyTree}
use Rattle.mon_store.specs.Store.{Files, Rose}
use Rattle.command_inputs.specs.declared.files.Stop.{Stop}
use Rattle.command_inputs.specs.declared.files.Stop.TheVariants as stops
use Rattle.command_inputs.specs.declared.inline_inputs.InlineInputs.{InlineInputs}
use Rattle.command_inputs.specs.Forms.{Count, ReadsForm, Then, Yields}
use Rattle.command_inputs.specs.InlineInputs.{ReadsInline}
use Rattle.command_inputs.specs.Kinds.{listing_form, policy_form}
use Rattle.command_outputs.specs.Outputs.{is_written, outputs_of}
use Rattle.type_infer.specs.Untyped.{IsTypable}
use Rattle.inliner_tool.specs.declared.answer.Made.{Made}
use Rattle.inliner_tool.specs.declared.refusal.Ended.{Ended}
use Rattle.inliner_tool.specs.declared.refusal.Ended.TheVariants as ends
use Rattle.inliner_tool.specs.declared.refusal.Refusal.{Refusal}
use Rattle.inliner_tool.specs.declared.refusal.Refusal.TheVariants as refusals
use Rattle.inliner_tool.specs.declared.inline.Given.{Given}
use Rattle.inliner_tool.specs.Inline.{Inlines}
use Rattle.inliner_tool.specs.InlineDecision.{InlineDecides, IsWeaving, NamesWoven}
use Rattle.inliner_tool.specs.Steps.{Equals, Outcome, Reading, Step, outcome_step, stopped}
use Rattle.inliner_tool.specs.Weaving.{Chosen, Fits, Plans, Told, Typed, certificate_for, mode_for, outputs_step, weave_step}
use Rattle.inliner_tool.proofs.Carrying.{no_rise_so}
use Rattle.inliner_tool.proofs.RunDecision.{types_are_found}
use Rattle.inliner_tool.proofs.Told.{may_read, stops_once, tree_once}
use Rattle.inliner_tool.proofs.ToldClasses.{classes_stop, may_classes, same_classes}

-- ---- the steps

-- It ends for the length of a certificate.
abbrev pub IsLong : Ended → Type 0
IsLong e = (value : ℕ) × (e ≡ ends.Refused (refusals.LongCertificate value))

-- a certificate that is not written is too long
long_only : (folder : List ℕ) (program : Program) (certificate : Certificate) (e : Ended) → Err e ≡ outputs_step folder program certificate → IsLong e
long_only folder program certificate e is = by (is_written certificate) is where
  by : (b : Bool) → Err e ≡ cond b (Ok (outputs_of folder program certificate)) (Err (ends.Refused (refusals.LongCertificate (length (encode_certificate certificate))))) → IsLong e
  by true wrong = absurd cc
  by false long =
      let same : e ≡ ends.Refused (refusals.LongCertificate (length (encode_certificate certificate))) = cc in
      (length (encode_certificate certificate), same)

-- So is the one for which no outputs are given.
pub outputs_fail : (folder : List ℕ) (program : Program) (certificate : Certificate) (accepted : Accepted) (e : Ended)
    → Then (Equals (outputs_step folder program certificate)) (Told program accepted) (Err e) → IsLong e
outputs_fail folder program certificate accepted e (inl long) = long_only folder program certificate e long
outputs_fail folder program certificate accepted e (inr (outputs, first, none)) = absurd none

module _ (files : Files) (named : NamedInline) (names : NamesWoven files named) where
  abbrev known : InlineInputs
  known = record { listing = names.listing; policy = names.policy; classes = names.classes }

  sizes_fail : (given : Given) → given.client ≡ names.client → given.policy ≡ built names.policy → given.mode ≡ names.mode → (e : Ended)
      → Fits named.main named.folder given (Err e) → IsLong e
  sizes_fail given client policy mode e (inl unfit) =
      let right : weave_step (woven given.client (plan_of given.policy given.mode) given.policy.vars) ≡ Ok names.made = rw (client, policy, mode) (ap weave_step names.fits) in
      let wrong : ◌≡◌ {A = Step Woven} (Err e) (Ok names.made) = unfit ∙ right in
      absurd cc
  sizes_fail given client policy mode e (inr (made, first, remakes)) = outputs_fail named.folder remakes.program (certificate_for given remakes.program) remakes.accepted e remakes.fits

  mode_fails : (client : Program) (typing : Typing) → client ≡ names.client → (e : Ended) → Chosen named.main named.folder named.weaving names.policy client typing (Err e) → IsLong e
  mode_fails client typing same e (inl none) =
      let wrong : ◌≡◌ {A = Step Mode} (Err e) (Ok names.mode) = none ∙ ap (λ (p : Program). mode_for named.weaving names.policy p.listing) same ∙ names.chosen in
      absurd cc
  mode_fails client typing same e (inr (mode, first, fits)) =
      let right : ◌≡◌ {A = Step Mode} (Ok mode) (Ok names.mode) = first ∙ ap (λ (p : Program). mode_for named.weaving names.policy p.listing) same ∙ names.chosen in
      let is : mode ≡ names.mode = cc in
      sizes_fail (record { client = client; typing = typing; policy = built names.policy; mode = mode }) same refl is e fits

  types_fail : (client : Program) → client ≡ names.client → (e : Ended) → Typed named.main named.folder named.weaving names.policy client (Err e) → IsLong e
  types_fail client same e (inl untyped) = absurd (types_are_found client (subst IsTypable (sym same) names.typable) e untyped)
  types_fail client same e (inr (typing, first, chosen)) = mode_fails client typing same e chosen

  plan_fails : (e : Ended) → Plans named.main named.folder named.weaving known (Err e) → IsLong e
  plan_fails e (inl unlinked) =
      let wrong : ◌≡◌ {A = Step Program} (Err e) (Ok names.client) = unlinked ∙ names.links in
      absurd cc
  plan_fails e (inr (client, first, typed)) =
      let right : ◌≡◌ {A = Step Program} (Ok client) (Ok names.client) = first ∙ names.links in
      let same : client ≡ names.client = cc in
      types_fail client same e typed

  -- ---- what is read

  module _ (count : Count) (no_rise : Rose count.before count.now → ⊥) where
    same_listing : (listing : Listing) → ReadsForm files count named.listing listing_form (Ok listing) → listing ≡ names.listing
    same_listing listing is =
        tree_once files count named.listing listing_form names.listing names.told (may_read files named.listing listing_form names.listing names.listing_read) no_rise listing is

    same_policy : (listing : Listing) (policy : PolicyTree) → listing ≡ names.listing → ReadsForm files count named.policy (policy_form listing) (Ok policy) → policy ≡ names.policy
    same_policy listing policy same is =
        tree_once files count named.policy (policy_form names.listing) names.policy names.told (may_read files named.policy (policy_form names.listing) names.policy names.policy_read) no_rise policy
        (subst (λ (l : Listing). ReadsForm files count named.policy (policy_form l) (Ok policy)) same is)

    inputs_once : (inputs : InlineInputs) → ReadsInline files count named (Ok inputs) → inputs ≡ known
    inputs_once inputs (listing, first, (policy, second, (classes, third, is))) =
        let a = same_listing listing first in
        let b = same_policy listing policy a second in
        let c = same_classes files count names.told no_rise named.classes classes names.classes third (may_classes files named.classes names.classes.files names.classes.total names.classes_read) in
        is ∙ rw (a, b, c) refl

    policy_stops : (listing : Listing) (stop : Stop) → listing ≡ names.listing → ReadsForm files count named.policy (policy_form listing) (Err stop) → stop ≡ stops.Memory
    policy_stops listing stop same is =
        stops_once files count named.policy (policy_form names.listing) names.policy names.told (may_read files named.policy (policy_form names.listing) names.policy names.policy_read) no_rise stop
        (subst (λ (l : Listing). ReadsForm files count named.policy (policy_form l) (Err stop)) same is)

    inline_stops : (stop : Stop) → ReadsInline files count named (Err stop) → stop ≡ stops.Memory
    inline_stops stop (inl first) =
        stops_once files count named.listing listing_form names.listing names.told (may_read files named.listing listing_form names.listing names.listing_read) no_rise stop first
    inline_stops stop (inr (listing, first, inl second)) = policy_stops listing stop (same_listing listing first) second
    inline_stops stop (inr (listing, first, inr (policy, second, inl third))) =
        classes_stop files count names.told no_rise named.classes names.classes.files names.classes.total stop (may_classes files named.classes names.classes.files names.classes.total names.classes_read) third
    inline_stops stop (inr (listing, first, inr (policy, second, inr (classes, third, none)))) = absurd none

    -- ---- what is made

    is_weaving : (refusal : Refusal) → IsLong (ends.Refused refusal) → IsWeaving (Err refusal)
    is_weaving refusal (value, is) =
        let same : refusal ≡ refusals.LongCertificate value = cc in
        (value, same)

    made_decides : (outcome : Outcome) → Then (Then (Reading (ReadsInline files count named)) (Inlines named)) (λ made. Yields made.answer) (outcome_step outcome) → IsWeaving outcome
    made_decides (Ok answer) (made, (inputs, read, (ready, plans, same)), is) = (ready.accepted, ready.classes, is ∙ ap (λ (m : Made). m.answer) same)
    made_decides (Err refusal) (inl (inl (stop, read, is))) =
        let wrong : ends.Refused refusal ≡ ends.Memory = is ∙ ap stopped (inline_stops stop read) in
        absurd cc
    made_decides (Err refusal) (inl (inr (inputs, read, inl plans))) =
        is_weaving refusal (plan_fails (ends.Refused refusal) (subst (λ (i : InlineInputs). Plans named.main named.folder named.weaving i (Err (ends.Refused refusal))) (inputs_once inputs read) plans))
    made_decides (Err refusal) (inl (inr (inputs, read, inr (ready, plans, none)))) = absurd none
    made_decides (Err refusal) (inr (made, makes, none)) = absurd none

pub inline_decides : InlineDecides
inline_decides seen named outcome carries no_rise names = made_decides seen.old named names seen.count no_rise outcome (no_rise_so seen (Inline named) no_rise (outcome_step outcome) carries)
