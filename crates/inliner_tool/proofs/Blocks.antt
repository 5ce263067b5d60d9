-- What is woven of inputs links to their program with its blocks.
use Rattle.std.proofs.Common.{◌≡◌, ℕ, ◌≤◌, List, length, Bool, true, false, cond, Ok, Err, inl, inr, refl, ap, sym, subst, ◌∙◌, arith}
use Rattle.std.specs.Prelude.{nat_lt}
use Rattle.api_listing.specs.declared.types.Listing.{Listing}
use Rattle.bytecode_model.specs.declared.program.Program.{Program}
use Rattle.bytecode_model.specs.declared.program.Side.TheVariants.{Original}
use Rattle.bytecode_model.specs.Files.{unlinked}
use Rattle.bytecode_model.specs.Sound.{IsSound}
use Rattle.block_logic.specs.Accepted.{IsAccepted}
use Rattle.block_template.specs.Blocks.{plan_of}
use Rattle.block_template.specs.Good.{HasNumbers, PlansAreGood}
use Rattle.cert_checker.specs.Judging.{IsAllowed, judged}
use Rattle.cert_format.specs.Fits.{IsEncodable}
use Rattle.class_linking.specs.Fault.{Linked}
use Rattle.class_linking.specs.Linking.{linked}
use Rattle.class_weaving.specs.declared.woven.Woven.{Woven}
use Rattle.class_weaving.specs.Outcome.{IsWoven}
use Rattle.class_weaving.specs.Woven.{woven}
use Rattle.command_inputs.specs.declared.inline_words.Weaving.{Weaving}
use Rattle.conspec_automaton.specs.Building.{built}
use Rattle.conspec_automaton.specs.Sound.{IsPolicy}
use Rattle.command_inputs.specs.declared.inline_inputs.InlineInputs.{InlineInputs}
use Rattle.command_inputs.specs.InlineInputs.{InlineSound}
use Rattle.command_outputs.specs.Outputs.{is_written}
use Rattle.woven_linking.specs.Links.{WovenLinks}
use Rattle.woven_linking.specs.Program.{IsWovenOf}
use Rattle.inliner_tool.specs.declared.refusal.Ended.TheVariants as ends
use Rattle.inliner_tool.specs.declared.refusal.Refusal.TheVariants as refusals
use Rattle.inliner_tool.specs.declared.inline.Given.{Given}
use Rattle.inliner_tool.specs.declared.inline.Ready.{Ready}
use Rattle.inliner_tool.specs.Programs.{AreTypes, link_step, woven_links}
use Rattle.inliner_tool.specs.Steps.{Step, UnlessMemory}
use Rattle.inliner_tool.specs.Weaving.{Accepts, IsJudgedReady, IsPlanned, IsRewoven, IsTransparent, Remakes, certificate_for, mode_for, original}
use Rattle.inliner_tool.proofs.Constants.{has_numbers}
use Rattle.inliner_tool.proofs.Counting.{assembled_of, files_counted}

-- a step that gives a program comes from files that link to it
linked_by : (r : Linked Program) (program : Program) → link_step r ≡ Ok program → r ≡ Ok program
linked_by (Ok other) program e =
    let same : other ≡ program = cc in
    ap (λ (p : Program). Ok p) same
linked_by (Err fault) program e = absurd cc

pub limit_by : (long : Bool) (total : ℕ) (r : Linked Program) (program : Program) → cond long (Err (ends.Refused (refusals.TotalLong total))) (link_step r) ≡ Ok program → r ≡ Ok program
limit_by true total r program e = absurd cc
limit_by false total r program e = linked_by r program e

-- The files of an input link to the program.
pub inputs_link : (main : List ℕ) (inputs : InlineInputs) (client : Program) → original inputs.listing inputs.classes main ≡ Ok client
    → linked inputs.classes.files inputs.listing main Original ≡ Ok client
inputs_link main inputs client links =
    limit_by (nat_lt 16777216 inputs.classes.total) inputs.classes.total (linked inputs.classes.files inputs.listing main Original) client links

-- A program that files link to is the one that they link to.
pub same_program : (r : Linked Program) (a b : Program) → r ≡ Ok a → r ≡ Ok b → a ≡ b
same_program r a b e f =
    let same : ◌≡◌ {A = Linked Program} (Ok a) (Ok b) = sym e ∙ f in
    cc

-- ---- what is woven

-- of a program of so many classes one file more is woven
pub few_woven : (given : Given) (made : Woven) → length given.client.classes ≤ 1000 → woven given.client (plan_of given.policy given.mode) given.policy.vars ≡ Ok made → length made.files ≤ 1001
few_woven given made few weaves = omega (arith, few, files_counted (plan_of given.policy given.mode) given.policy.vars given.client made weaves)

module _ (links : WovenLinks) (good : PlansAreGood) (inputs : InlineInputs) (known : InlineSound inputs) (main : List ℕ) (given : Given) (made : Woven)
    (client_links : linked inputs.classes.files inputs.listing main Original ≡ Ok given.client) (sound : IsSound given.client)
    (is : given.policy ≡ built inputs.policy) (is_policy : IsPolicy given.policy) (weaves : woven given.client (plan_of given.policy given.mode) given.policy.vars ≡ Ok made) where
  pub numbers : HasNumbers given.policy
  numbers = subst HasNumbers (sym is) (has_numbers inputs.listing inputs.policy known.policy)

  pub of_inputs : IsWovenOf inputs.listing inputs.classes.files main given.client (plan_of given.policy given.mode) given.policy.vars made
  of_inputs = record {
    text = known.listed.text;
    listed = known.listed.encodes;
    links = assembled_of inputs.classes.files inputs.listing main Original given.client client_links;
    sound = sound;
    good = good given.policy given.mode is_policy numbers;
    few = is_policy.few_vars;
    woven = weaves;
  }

  pub remade : (new : Program) × ((woven_links made.files inputs.listing main ≡ Ok new) × IsWoven given.client (plan_of given.policy given.mode) given.policy.vars new)
  remade =
      links known.listed.text inputs.listing inputs.classes.files main given.client (plan_of given.policy given.mode) given.policy.vars made known.listed.encodes
      (assembled_of inputs.classes.files inputs.listing main Original given.client client_links) sound (good given.policy given.mode is_policy numbers) is_policy.few_vars weaves

module _ (main folder : List ℕ) (weaving : Weaving) (inputs : InlineInputs) (given : Given) (made : Woven) (links : original inputs.listing inputs.classes main ≡ Ok given.client)
    (typed : AreTypes given.client given.typing) (is : given.policy ≡ built inputs.policy) (chosen : mode_for weaving inputs.policy given.client.listing ≡ Ok given.mode) (listing : given.client.listing ≡ inputs.listing)
    (weaves : woven given.client (plan_of given.policy given.mode) given.policy.vars ≡ Ok made)
    (remade : (new : Program) × ((woven_links made.files inputs.listing main ≡ Ok new) × IsWoven given.client (plan_of given.policy given.mode) given.policy.vars new))
    (transparent : (new : Program) → woven_links made.files given.client.listing main ≡ Ok new → IsSound new
    → IsWoven given.client (plan_of given.policy given.mode) given.policy.vars new → IsTransparent given new) where
  pub whole : (ready : Ready) → IsRewoven main folder given made.files ready → IsPlanned main folder weaving inputs ready
  whole ready rewoven =
      let blocks : IsWoven given.client (plan_of given.policy given.mode) given.policy.vars rewoven.program =
      subst (λ (p : Program). IsWoven given.client (plan_of given.policy given.mode) given.policy.vars p)
      (same_program (woven_links made.files inputs.listing main) remade.0 rewoven.program remade.1.0 (ap (λ (l : Listing). woven_links made.files l main) (sym listing) ∙ rewoven.links)) remade.1.1 in
      record {
        given = given;
        links = links;
        listing = listing;
        typed = typed;
        policy = is;
        chosen = chosen;
        made = made;
        woven = weaves;
        rewoven = rewoven;
        blocks = blocks;
        transparent = transparent rewoven.program rewoven.links rewoven.sound blocks;
      }

-- ---- what is woven again

module _ (main folder : List ℕ) (given : Given) (made : Woven) (program : Program) (links : woven_links made.files given.client.listing main ≡ Ok program)
    (accepts : IsAccepted program given.policy (certificate_for given program)) where
  -- What is judged is what is made anew.
  pub remakes : (result : Step Ready) → UnlessMemory (Accepts folder given.policy program (certificate_for given program)) result → UnlessMemory (Remakes main folder given made) result
  remakes (Ok ready) (accepted, verdict, fits) =
      record { program = program; accepted = accepted; remade = record { links = links; typed = accepts.typed; verdict = verdict }; fits = fits }
  remakes (Err e) (inl (accepted, verdict, fits)) =
      inl (record { program = program; accepted = accepted; remade = record { links = links; typed = accepts.typed; verdict = verdict }; fits = fits })
  remakes (Err e) (inr memory) = inr memory

pub known_rewoven : (main folder : List ℕ) (given : Given) (made : Woven) (program : Program) → woven_links made.files given.client.listing main ≡ Ok program → unlinked program ≡ made.files
    → IsSound program → IsAllowed program given.policy (certificate_for given program)
    → (is_written (certificate_for given program) ≡ true → IsEncodable (length given.policy.vars) (certificate_for given program))
    → (ready : Ready) → IsJudgedReady folder given.policy program (certificate_for given program) ready → IsRewoven main folder given made.files ready
known_rewoven main folder given made program links back sound allowed encodes ready judged = record {
  program = program;
  links = links;
  same = back;
  sound = sound;
  certificate = certificate_for given program;
  mode_is = refl;
  accepted = allowed;
  verdict = judged.verdict;
  secure = judged.secure;
  encodes = encodes judged.written;
  written = judged.written;
  outputs = judged.outputs;
}
