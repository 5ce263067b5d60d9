-- Of a client that inputs link to, and of what is woven of it, all is known that lifting asks for.
use Rattle.std.proofs.Common.{◌≡◌, ℕ, List, Ok, refl, sym, subst}
use Rattle.api_listing.specs.declared.types.Listing.{Listing}
use Rattle.api_listing.specs.Listing.{EncodesListing}
use Rattle.block_runs.specs.ClientRuns.{AcceptedRunsAreLifted}
use Rattle.block_runs.specs.Clients.{IsTypedClient}
use Rattle.block_runs.specs.WovenClients.{IsWovenClient}
use Rattle.block_template.specs.Blocks.{plan_of}
use Rattle.block_template.specs.Good.{HasNumbers}
use Rattle.bytecode_model.specs.declared.program.Program.{Program}
use Rattle.bytecode_model.specs.declared.program.Side.TheVariants.{Inlined, Original}
use Rattle.bytecode_model.specs.LinkedClasses.{IsLinkedOf}
use Rattle.bytecode_model.specs.Sound.{IsSound}
use Rattle.class_linking.specs.Laws.{LinkedAreNamed, LinkedIsInOrder}
use Rattle.class_weaving.specs.declared.woven.Woven.{Woven}
use Rattle.class_weaving.specs.Outcome.{IsWoven}
use Rattle.command_inputs.specs.declared.inline_inputs.InlineInputs.{InlineInputs}
use Rattle.typed_runs.specs.Programs.{IsLinkedProgram}
use Rattle.inliner_tool.specs.declared.inline.Given.{Given}
use Rattle.inliner_tool.specs.Expected.{IsMadeOf}
use Rattle.inliner_tool.specs.Programs.{woven_links}
use Rattle.inliner_tool.specs.Transparent.{WovenIsTransparent}
use Rattle.inliner_tool.proofs.Constants.{has_numbers}
use Rattle.inliner_tool.proofs.Counting.{assembled_of}

module _ (order : LinkedIsInOrder) (named : LinkedAreNamed) where
  module _ (inputs : InlineInputs) (main : List ℕ) (given : Given) (made : Woven) (of : IsMadeOf inputs main given made) where
    -- the client, as files link to it
    pub client_linked : IsLinkedProgram given.client
    client_linked =
        let assembled = assembled_of inputs.classes.files inputs.listing main Original given.client of.links in
        let text = of.known.listed.text in
        record {
          side = Original;
          main = main;
          text = text;
          listed = subst (EncodesListing text) (sym of.stands.listing_is) of.known.listed.encodes;
          linked = subst (λ (l : Listing). IsLinkedOf Original l main given.client) (sym of.stands.listing_is) of.stands;
          sound = of.sound;
          order = order text inputs.listing inputs.classes.files main Original given.client of.known.listed.encodes assembled;
        }

    pub client_original : client_linked.side ≡ Original
    unfolding client_linked
    client_original = refl

    -- what is woven of it
    pub woven_client : (new : Program) → woven_links made.files given.client.listing main ≡ Ok new → IsSound new
        → IsWoven given.client (plan_of given.policy given.mode) given.policy.vars new → IsWovenClient given.policy given.mode given.client new
    woven_client new links sound blocks =
        let new_of : IsLinkedOf Inlined given.client.listing main new = named made.files given.client.listing main Inlined new links sound in
        record {
          policy_is = of.kept.read;
          numbers = subst HasNumbers (sym of.policy) (has_numbers inputs.listing inputs.policy of.known.policy);
          woven_is = blocks;
          side = Inlined;
          main = main;
          linked = subst (λ (l : Listing). IsLinkedOf Inlined l main new) (sym new_of.listing_is) new_of;
          sound = sound;
        }

  pub transparent : AcceptedRunsAreLifted → WovenIsTransparent
  transparent lifts inputs main given made of typed new links sound blocks constants steps end run =
      let typed_client : IsTypedClient given.client given.typing = record {
        program = record { links = client_linked inputs main given made of; typed = typed };
        original = client_original inputs main given made of;
      } in
      lifts given.policy given.mode given.client new given.typing typed_client of.kept.told constants
      (woven_client inputs main given made of new links sound blocks) steps end run
