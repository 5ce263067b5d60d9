-- A program that was woven of what is given, as it is certified, judged and written.
use Rattle.std.proofs.Common.{◌≡◌, ◌∙◌, ℕ, List, true, length, Result, Ok, Err, inl, inr, refl, ap, sym, subst}
use Rattle.std.specs.Prelude.{IfOk}
use Rattle.mon_base.specs.Reading.{◌>>=◌}
use Rattle.block_logic.specs.Accepted.{IsAccepted}
use Rattle.block_template.specs.Blocks.{plan_of}
use Rattle.bytecode_model.specs.declared.program.LinkedClass.{LinkedClass}
use Rattle.bytecode_model.specs.declared.program.Program.{Program}
use Rattle.bytecode_model.specs.Files.{unlinked}
use Rattle.bytecode_model.specs.Order.{IsInOrder}
use Rattle.bytecode_model.specs.Sound.{IsSound}
use Rattle.cert_checker.specs.Judging.{IsAllowed}
use Rattle.cert_format.specs.declared.certificate.Certificate.{Certificate}
use Rattle.cert_format.specs.declared.certificate.Mode.{Mode}
use Rattle.cert_format.specs.declared.certificate.Mode.TheVariants as modes
use Rattle.cert_format.specs.declared.typing.Typing.{Typing}
use Rattle.cert_format.specs.Fits.{IsEncodable}
use Rattle.cert_maker.specs.Noting.{certificate_of}
use Rattle.cert_maker.specs.Canonical.{FitsTyping, canonical}
use Rattle.class_weaving.specs.declared.woven.Woven.{Woven}
use Rattle.class_weaving.specs.Outcome.{IsWoven}
use Rattle.class_weaving.specs.Woven.{woven}
use Rattle.command_inputs.specs.declared.inline_words.Weaving.{Weaving}
use Rattle.conspec_automaton.specs.declared.policy.Policy.{Policy}
use Rattle.conspec_automaton.specs.Building.{built}
use Rattle.command_inputs.specs.declared.inline_inputs.InlineInputs.{InlineInputs}
use Rattle.offset_patch.specs.declared.fault.SpliceFault.{SpliceFault}
use Rattle.offset_patch.specs.declared.fault.SpliceFault.TheVariants as splices
use Rattle.command_outputs.specs.Outputs.{is_written}
use Rattle.typed_runs.specs.Programs.{IsLinkedProgram}
use Rattle.woven_linking.specs.declared.inlining.Inlined.{Inlined}
use Rattle.woven_linking.specs.Inlined.{IsOfFiles, as_program, inlined}
use Rattle.woven_typing.specs.Framing.{typing_of}
use Rattle.inliner_tool.specs.declared.inline.Given.{Given}
use Rattle.inliner_tool.specs.declared.inline.Ready.{Ready}
use Rattle.inliner_tool.specs.Expected.{IsExpected, woven_program}
use Rattle.inliner_tool.specs.Policy.{IsSoundFor}
use Rattle.inliner_tool.specs.Programs.{AreTypes, woven_links}
use Rattle.inliner_tool.specs.Steps.{Equals, Step, UnlessMemory}
use Rattle.inliner_tool.specs.Weaving.{Accepts, Fits, IsFreeOfRaces, IsJudgedReady, IsMadeReady, IsPlanned, IsTransparent, Remakes, certificate_for, certificate_with, mode_for, original, splice_end, weave_step}
use Rattle.inliner_tool.proofs.Blocks.{known_rewoven, remakes, whole}
use Rattle.inliner_tool.proofs.Planning.{later}

-- ---- what is woven of inputs

module _ (main folder : List ℕ) (weaving : Weaving) (inputs : InlineInputs) (given : Given) (links : original inputs.listing inputs.classes main ≡ Ok given.client)
    (typed : AreTypes given.client given.typing) (is : given.policy ≡ built inputs.policy) (chosen : mode_for weaving inputs.policy given.client.listing ≡ Ok given.mode) (listing : given.client.listing ≡ inputs.listing)
    (remade : (made : Woven) → woven given.client (plan_of given.policy given.mode) given.policy.vars ≡ Ok made
    → (new : Program) × ((woven_links made.files inputs.listing main ≡ Ok new) × IsWoven given.client (plan_of given.policy given.mode) given.policy.vars new))
    (transparent : (made : Woven) → woven given.client (plan_of given.policy given.mode) given.policy.vars ≡ Ok made
    → (new : Program) → woven_links made.files given.client.listing main ≡ Ok new → IsSound new
    → IsWoven given.client (plan_of given.policy given.mode) given.policy.vars new → IsTransparent given new) where
  -- What is ready is what is planned.
  pub planned : (r : Step Ready) → IfOk r (IsMadeReady main folder given) → IfOk r (IsPlanned main folder weaving inputs)
  planned (Ok ready) m = whole main folder weaving inputs given m.made links typed is chosen listing m.weaves (remade m.made m.weaves) (transparent m.made m.weaves) ready m.rewoven
  planned (Err ended) m = tt

-- ---- sizes that do not fit

abbrev made_of : Program → Mode → Woven → Result (Inlined × List LinkedClass) SpliceFault
made_of program mode made = Ok (as_program program made mode, program.classes)

-- Where the program with its blocks is not made, the files are not woven, for the same reason.
pub unwoven : (program : Program) (policy : Policy) (mode : Mode) (r : Result Woven SpliceFault) (fault : SpliceFault)
    → r >>= made_of program mode ≡ Err fault → weave_step r ≡ Err (splice_end fault)
unwoven program policy mode (Ok made) fault e = absurd cc
unwoven program policy mode (Err other) fault e =
    let same : other ≡ fault = cc in
    ap (λ (f : SpliceFault). Err (splice_end f)) same

pub unfit_so : (program : Program) (policy : Policy) (mode : Mode) (fault : SpliceFault) → ((fault ≡ splices.Memory → ⊥) → inlined program policy mode ≡ Err fault)
    → UnlessMemory (Equals (weave_step (woven program (plan_of policy mode) policy.vars))) (Err (splice_end fault))
unfit_so program policy mode (splices.Overflow class method what value) told =
    inl (sym (unwoven program policy mode (woven program (plan_of policy mode) policy.vars) (splices.Overflow class method what value) (told (λ same. absurd cc))))
unfit_so program policy mode splices.Memory told = inr refl

-- ---- the program with its blocks

module _ (main folder : List ℕ) (given : Given) (typing : Typing) (is_typing : typing ≡ typing_of given.client given.policy given.mode given.typing)
    (new : Inlined) (old : List LinkedClass) (m : IsOfFiles given.client given.policy given.mode (new, old)) (expected : IsExpected main given m.files) where
  of_files : new ≡ as_program given.client m.files given.mode
  of_files = ap (λ (p : Inlined × List LinkedClass). p.0) m.is

  classes_same : old ≡ given.client.classes
  classes_same = ap (λ (p : Inlined × List LinkedClass). p.1) m.is

  program_same : new.program ≡ woven_program given m.files
  program_same = ap (λ (i : Inlined). i.program) of_files

  mode_same : new.mode ≡ given.mode
  mode_same = ap (λ (i : Inlined). i.mode) of_files

  certificate_same : certificate_with old given.policy new typing ≡ certificate_for given new.program
  certificate_same =
      ap (λ (cs : List LinkedClass). certificate_of cs given.policy new.mode (canonical new.program typing)) classes_same
      ∙ ap (λ (mode : Mode). certificate_of given.client.classes given.policy mode (canonical new.program typing)) mode_same
      ∙ ap (λ (t : Typing). certificate_of given.client.classes given.policy given.mode (canonical new.program t)) is_typing

  links_so : woven_links m.files.files given.client.listing main ≡ Ok new.program
  links_so = expected.links ∙ ap (λ (p : Program). Ok p) (sym program_same)

  pub in_order : IsInOrder new.program
  in_order = subst IsInOrder (sym program_same) expected.linked.order

  pub is_linked : IsLinkedProgram new.program
  is_linked = subst IsLinkedProgram (sym program_same) expected.linked

  pub is_for : IsSoundFor given.client.listing given.policy → IsSoundFor new.program.listing given.policy
  is_for sound = subst (λ (p : Program). IsSoundFor p.listing given.policy) (sym program_same) sound

  accepted_so : IsAccepted new.program given.policy (certificate_for given new.program)
  accepted_so = subst (λ (p : Program). IsAccepted p given.policy (certificate_for given p)) (sym program_same) expected.accepted

  allowed_for : (given.mode ≡ modes.Release → IsFreeOfRaces given.policy) → IsAllowed new.program given.policy (certificate_for given new.program)
  allowed_for free = record { accepted = accepted_so; race = λ release. (free release).race; few = λ release. (free release).few }

  pub allowed : (given.mode ≡ modes.Release → IsFreeOfRaces given.policy) → IsAllowed new.program given.policy (certificate_with old given.policy new typing)
  allowed free = subst (IsAllowed new.program given.policy) (sym certificate_same) (allowed_for free)

  -- Its outputs fit, or its certificate is too long.
  pub fits : (result : Step Ready) → UnlessMemory (Accepts folder given.policy new.program (certificate_with old given.policy new typing)) result → UnlessMemory (Fits main folder given) result
  fits result accepts =
      later (Equals (weave_step (woven given.client (plan_of given.policy given.mode) given.policy.vars))) (Remakes main folder given) m.files
      (sym (ap weave_step m.woven)) result
      (remakes main folder given m.files new.program links_so accepted_so result
      (subst (λ (x : Certificate). UnlessMemory (Accepts folder given.policy new.program x) result) certificate_same accepts))

  -- What is judged well is ready.
  pub ready_so : (given.mode ≡ modes.Release → IsFreeOfRaces given.policy) → (result : Step Ready)
      → IfOk result (λ ready. FitsTyping (certificate_with old given.policy new typing).typing)
      → IfOk result (IsJudgedReady folder given.policy new.program (certificate_with old given.policy new typing)) → IfOk result (IsMadeReady main folder given)
  ready_so free (Err ended) fit judged = tt
  ready_so free (Ok ready) fit judged = record {
    made = m.files;
    weaves = m.woven;
    rewoven =
        known_rewoven main folder given m.files new.program links_so (subst (λ (p : Program). unlinked p ≡ m.files.files) (sym program_same) expected.back)
        (subst IsSound (sym program_same) expected.linked.sound) (allowed_for free)
        (subst (λ (p : Program). FitsTyping (certificate_for given p).typing → is_written (certificate_for given p) ≡ true → IsEncodable (length given.policy.vars) (certificate_for given p))
        (sym program_same) expected.encodes (subst (λ (x : Certificate). FitsTyping x.typing) certificate_same fit))
        ready (subst (λ (x : Certificate). IsJudgedReady folder given.policy new.program x ready) certificate_same judged);
  }
