-- What is woven of inputs is made of them.
use Rattle.std.proofs.Common.{◌≡◌, ◌≤◌, ℕ, List, length, Ok, sym, subst, ap, ◌∙◌}
use Rattle.block_template.specs.Blocks.{plan_of}
use Rattle.bytecode_model.specs.declared.program.Program.{Program}
use Rattle.bytecode_model.specs.declared.program.Side.TheVariants.{Original}
use Rattle.bytecode_model.specs.Layout.{IsLaidOut}
use Rattle.bytecode_model.specs.Sound.{IsSound}
use Rattle.bytecode_model.specs.LinkedClasses.{IsLinkedOf}
use Rattle.class_weaving.specs.declared.woven.Woven.{Woven}
use Rattle.class_weaving.specs.Woven.{woven}
use Rattle.command_inputs.specs.declared.inline_words.Weaving.{Weaving}
use Rattle.conspec_automaton.specs.Sound.{IsPolicy, NamesMethods}
use Rattle.conspec_parse.specs.Telling.{KindsAreTold, ResultsAreTold}
use Rattle.command_inputs.specs.declared.inline_inputs.InlineInputs.{InlineInputs}
use Rattle.command_inputs.specs.InlineInputs.{InlineSound}
use Rattle.typed_runs.specs.Formed.{PoliciesTellTypes}
use Rattle.inliner_tool.specs.declared.inline.Given.{Given}
use Rattle.inliner_tool.specs.Expected.{IsMadeOf}
use Rattle.inliner_tool.specs.Policy.{IsSoundFor}
use Rattle.inliner_tool.specs.Programs.{AreTypes}
use Rattle.inliner_tool.specs.Weaving.{IsGathered, mode_for, original}
use Rattle.inliner_tool.proofs.Blocks.{few_woven, inputs_link}
use Rattle.inliner_tool.proofs.Planned.{sound_for}

module _ (inputs : InlineInputs) (client : Program) (given : Given) (gathered : IsGathered inputs.policy client given) where
  pub listing_same : client.listing ≡ inputs.listing → given.client.listing ≡ inputs.listing
  listing_same same = ap (λ (p : Program). p.listing) gathered.client ∙ same

  pub client_links : (main : List ℕ) → original inputs.listing inputs.classes main ≡ Ok client → original inputs.listing inputs.classes main ≡ Ok given.client
  client_links main links = links ∙ ap (λ (p : Program). Ok p) (sym gathered.client)

  pub client_typed : AreTypes client given.typing → AreTypes given.client given.typing
  client_typed typed = subst (λ (p : Program). AreTypes p given.typing) (sym gathered.client) typed

  pub client_chosen : (weaving : Weaving) → mode_for weaving inputs.policy client.listing ≡ Ok given.mode → mode_for weaving inputs.policy given.client.listing ≡ Ok given.mode
  client_chosen weaving chosen = ap (λ (p : Program). mode_for weaving inputs.policy p.listing) gathered.client ∙ chosen

  pub client_laid_out : IsLaidOut given.client given.typing.frames
  client_laid_out = subst (λ (p : Program). IsLaidOut p given.typing.frames) (sym gathered.client) gathered.laid_out

  pub kept_of : PoliciesTellTypes → KindsAreTold → ResultsAreTold → InlineSound inputs → client.listing ≡ inputs.listing
      → IsPolicy given.policy × NamesMethods (length inputs.listing.methods) given.policy → IsSoundFor given.client.listing given.policy
  kept_of tell kinds results known same policies = sound_for tell kinds results inputs known given.policy gathered.policy policies given.client.listing (listing_same same)

  pub made_of : PoliciesTellTypes → KindsAreTold → ResultsAreTold → InlineSound inputs → (main : List ℕ) → original inputs.listing inputs.classes main ≡ Ok client
      → IsSound client → IsLinkedOf Original inputs.listing main client → client.listing ≡ inputs.listing → IsPolicy given.policy × NamesMethods (length inputs.listing.methods) given.policy
      → (made : Woven) → woven given.client (plan_of given.policy given.mode) given.policy.vars ≡ Ok made → IsMadeOf inputs main given made
  made_of tell kinds results known main links sound stands same policies made weaves = record {
    known = known;
    links = inputs_link main inputs given.client (client_links main links);
    sound = subst IsSound (sym gathered.client) sound;
    stands = subst (IsLinkedOf Original inputs.listing main) (sym gathered.client) stands;
    policy = gathered.policy;
    kept = kept_of tell kinds results known same policies;
    weaves = weaves;
  }

  pub few_made : length client.classes ≤ 1000 → (made : Woven) → woven given.client (plan_of given.policy given.mode) given.policy.vars ≡ Ok made → length made.files ≤ 1001
  few_made few made weaves = few_woven given made (subst (λ (p : Program). length p.classes ≤ 1000) (sym gathered.client) few) weaves
