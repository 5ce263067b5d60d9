-- What is made from a number is woven: `load` refuses none of its own files.
use Rattle.std.proofs.Common.{◌≡◌, ◌⊎◌, inl, inr, ℕ, Bool, false, cond, nat_lt, List, Result, Ok, Err, refl, sym, ap, subst, ◌∙◌, arith}
use Rattle.std.proofs.lemmas.Bool.Decides.{nat_tests}
use Rattle.bundle_gen.specs.Generated.{listing_text, main_name, policy_text}
use Rattle.bundle_gen.specs.Linked.{generated_program, net_listing}
use Rattle.bundle_gen.specs.Sizes.{bytes_of}
use Rattle.bundle_linking.specs.Laws.{BundlesAreShort, BundlesLink}
use Rattle.bundle_linking.specs.Texts.{ListingIsRead, PolicyIsRead, net_policy}
use Rattle.bundle_typing.specs.Laws.{BundlesCanBeTyped, EachCanBeMet}
use Rattle.bytecode_model.specs.declared.program.Program.{Program}
use Rattle.bytecode_model.specs.declared.program.Side.TheVariants.{Original}
use Rattle.block_template.specs.Blocks.{plan_of}
use Rattle.class_linking.specs.Linking.{linked}
use Rattle.class_weaving.specs.declared.woven.Woven.{Woven}
use Rattle.class_weaving.specs.Woven.{woven}
use Rattle.command_inputs.specs.declared.fault.InputFault.{InputFault}
use Rattle.command_inputs.specs.declared.inline_inputs.InlineInputs.{InlineInputs}
use Rattle.command_inputs.specs.declared.inline_words.Weaving.TheVariants.{Auto}
use Rattle.command_inputs.specs.Forms.{Then, Yields}
use Rattle.command_inputs.specs.GenWords.{IsInBounds, NamedGen}
use Rattle.command_inputs.specs.Kinds.{listing_form, listing_read, policy_form, policy_read}
use Rattle.command_inputs.specs.RaceInputs.{texts_read}
use Rattle.command_inputs.specs.Words.{Load}
use Rattle.conspec_automaton.specs.Building.{built}
use Rattle.offset_patch.specs.declared.fault.SpliceFault.{SpliceFault}
use Rattle.offset_patch.specs.declared.fault.SpliceFault.TheVariants as splices
use Rattle.inliner_tool.specs.declared.answer.Made.{Made}
use Rattle.inliner_tool.specs.declared.inline.Given.{Given}
use Rattle.inliner_tool.specs.declared.inline.Ready.{Ready}
use Rattle.inliner_tool.specs.declared.refusal.Ended.{Ended}
use Rattle.inliner_tool.specs.declared.refusal.Ended.TheVariants as ends
use Rattle.inliner_tool.specs.declared.refusal.Refusal.{Refusal}
use Rattle.inliner_tool.specs.declared.refusal.Refusal.TheVariants as refusals
use Rattle.inliner_tool.specs.Generate.{bundle_of}
use Rattle.inliner_tool.specs.Load.{Loads, bundle_inputs, loaded_made}
use Rattle.inliner_tool.specs.LoadDecision.{IsLoading, IsTooLarge, LoadDecides}
use Rattle.inliner_tool.specs.Programs.{Types, link_step}
use Rattle.inliner_tool.specs.Steps.{Outcome, Step, UnlessMemory, outcome_step}
use Rattle.inliner_tool.specs.Weaving.{Chosen, Fits, Plans, Typed, certificate_for, original, splice_end, weave_step}
use Rattle.inliner_tool.proofs.Carrying.{no_rise_so}
use Rattle.inliner_tool.proofs.InlineDecision.{IsLong, outputs_fail}

-- ---- the texts

-- what the texts of a bundle are read as
pub texts_are : ListingIsRead → PolicyIsRead → texts_read listing_text policy_text ≡ Ok (record { listing = net_listing; policy = net_policy })
texts_are listing policy =
    let first : listing_form.reads listing_text ≡ Ok net_listing = ap listing_read listing in
    let second : (policy_form net_listing).reads policy_text ≡ Ok net_policy = ap policy_read policy in
    rw (first, second) refl

abbrev inputs_for : NamedGen → InlineInputs
inputs_for named =
    record { listing = net_listing; policy = net_policy; classes = record { files = (bundle_of named).files; total = bytes_of (bundle_of named).files } }

-- so a bundle has these inputs
bundled : ListingIsRead → PolicyIsRead → (named : NamedGen) → bundle_inputs (bundle_of named) ≡ Ok (inputs_for named)
bundled listing policy named = rw (texts_are listing policy) refl

bundled_once : ListingIsRead → PolicyIsRead → (named : NamedGen) (inputs : InlineInputs) → bundle_inputs (bundle_of named) ≡ Ok inputs → inputs ≡ inputs_for named
bundled_once listing policy named inputs is =
    let same : ◌≡◌ {A = Result InlineInputs InputFault} (Ok inputs) (Ok (inputs_for named)) = sym is ∙ bundled listing policy named in
    cc

-- ---- the steps

module _ (named : NamedGen) (inputs : InlineInputs) (is : bundle_inputs (bundle_of named) ≡ Ok inputs) (main : List ℕ) (same : main ≡ main_name) where
  pub loads : (ready : Ready) (made : Made) → Plans main named.folder Auto inputs (Ok ready) → made ≡ loaded_made named ready → Loads named (Ok made)
  loads ready made plans made_is = (inputs, is, (ready, subst (λ (m : List ℕ). Plans m named.folder Auto inputs (Ok ready)) same plans, made_is))

  pub stops : (e : Ended) → UnlessMemory (Plans main named.folder Auto inputs) (Err e) → UnlessMemory (Loads named) (Err e)
  stops e (inl plans) = inl (inr (inputs, is, inl (subst (λ (m : List ℕ). Plans m named.folder Auto inputs (Err e)) same plans)))
  stops e (inr memory) = inr memory

-- ---- sizes

-- It ends for a size that does not fit, or for want of memory.
abbrev IsLarge : Ended → Type 0
IsLarge e = ((refusal : Refusal) × (e ≡ ends.Refused refusal) × IsTooLarge refusal) ⊎ (e ≡ ends.Memory)

spliced : (fault : SpliceFault) (e : Ended) → e ≡ splice_end fault → IsLarge e
spliced (splices.Overflow class method what value) e is = inl (refusals.Overflow class method what value, is, inl (class, method, what, value, refl))
spliced splices.Memory e is = inr is

long : (e : Ended) → IsLong e → IsLarge e
long e (value, is) = inl (refusals.LongCertificate value, is, inr (value, refl))

weaving_fails : (given : Given) (made : Result Woven SpliceFault) (e : Ended) → Err e ≡ weave_step made → IsLarge e
weaving_fails given (Ok made) e is = absurd cc
weaving_fails given (Err fault) e is =
    let same : e ≡ splice_end fault = cc in
    spliced fault e same

sizes_fail : (main folder : List ℕ) (given : Given) (e : Ended) → Fits main folder given (Err e) → IsLarge e
sizes_fail main folder given e (inl unfit) = weaving_fails given (woven given.client (plan_of given.policy given.mode) given.policy.vars) e unfit
sizes_fail main folder given e (inr (made, first, remakes)) = long e (outputs_fail folder remakes.program (certificate_for given remakes.program) remakes.accepted e remakes.fits)

-- ---- the program

-- A program of which each method can be typed is never refused for its types.
types_fit : (program : Program) → EachCanBeMet program → (e : Ended) → Types program (Err e) → ⊥
types_fit program each e (class, method, at, is, untyped) =
    let met = each class method untyped.of untyped.body untyped.class_there untyped.method_there in
    let within = untyped.within in
    untyped.fails (met.0, λ i less. met.1 i (omega (arith, less, within)))

typed_fails : (main folder : List ℕ) (inputs : InlineInputs) (client : Program) → EachCanBeMet client → (e : Ended) → Typed main folder Auto inputs.policy client (Err e) → IsLarge e
typed_fails main folder inputs client each e (inl untyped) = absurd (types_fit client each e untyped)
typed_fails main folder inputs client each e (inr (typing, first, inl none)) = absurd cc
typed_fails main folder inputs client each e (inr (typing, first, inr (mode, chosen, fits))) =
    sizes_fail main folder (record { client = client; typing = typing; policy = built inputs.policy; mode = mode }) e fits

-- The class files are not too long in all, and link.
module _ (links : BundlesLink) (short : BundlesAreShort) (named : NamedGen) (bounds : IsInBounds named) where
  abbrev program : Program
  program = generated_program named.seed named.classes named.sites

  within : nat_lt 16777216 (bytes_of (bundle_of named).files) ≡ false
  within =
      let few = short named.seed named.classes named.sites bounds.classes.within bounds.sites.within in
      grind (arith, nat_tests, few)

  links_so : original net_listing (inputs_for named).classes main_name ≡ Ok program
  links_so =
      let made = links named.seed named.classes named.sites bounds.classes.within in
      ap
      (λ (b : Bool). cond b (Err (ends.Refused (refusals.TotalLong (bytes_of (bundle_of named).files)))) (link_step (linked (bundle_of named).files net_listing main_name Original)))
      within
      ∙ ap link_step made

  pub plan_fails : EachCanBeMet program → (e : Ended) → Plans main_name named.folder Auto (inputs_for named) (Err e) → IsLarge e
  plan_fails each e (inl unlinked) =
      let wrong : ◌≡◌ {A = Step Program} (Err e) (Ok program) = unlinked ∙ links_so in
      absurd cc
  plan_fails each e (inr (client, first, typed)) =
      let right : ◌≡◌ {A = Step Program} (Ok client) (Ok program) = first ∙ links_so in
      let same : client ≡ program = cc in
      typed_fails main_name named.folder (inputs_for named) client (subst EachCanBeMet (sym same) each) e typed

-- ---- the command

too_large : (refusal : Refusal) → IsLarge (ends.Refused refusal) → IsTooLarge refusal
too_large refusal (inl (other, is, large)) =
    let same : refusal ≡ other = cc in
    subst IsTooLarge (sym same) large
too_large refusal (inr memory) = absurd cc

module _ (listing : ListingIsRead) (policy : PolicyIsRead) (short : BundlesAreShort) (links : BundlesLink) (typed : BundlesCanBeTyped) (named : NamedGen) (bounds : IsInBounds named) where
  made_decides : (outcome : Outcome) → Then (Loads named) (λ made. Yields made.answer) (outcome_step outcome) → IsLoading named outcome
  made_decides (Ok answer) (made, (inputs, is_bundled, (ready, plans, same)), is) = (ready.accepted, is ∙ ap (λ (m : Made). m.answer) same)
  made_decides (Err refusal) (inl (inl none)) = absurd none
  made_decides (Err refusal) (inl (inr (inputs, is_bundled, inl plans))) =
      too_large refusal
      (plan_fails links short named bounds (typed named.seed named.classes named.sites) (ends.Refused refusal)
      (subst (λ (i : InlineInputs). Plans main_name named.folder Auto i (Err (ends.Refused refusal))) (bundled_once listing policy named inputs is_bundled) plans))
  made_decides (Err refusal) (inl (inr (inputs, is_bundled, inr (ready, plans, none)))) = absurd none
  made_decides (Err refusal) (inr (made, makes, none)) = absurd none

pub load_decides : ListingIsRead → PolicyIsRead → BundlesAreShort → BundlesLink → BundlesCanBeTyped → LoadDecides
load_decides listing policy short links typed seen named outcome bounds carries no_rise =
    made_decides listing policy short links typed named bounds outcome (no_rise_so seen (Load named) no_rise (outcome_step outcome) carries)
