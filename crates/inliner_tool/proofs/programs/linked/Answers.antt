use Rattle.std.proofs.Common.{subst, sym}
use Rattle.api_listing.specs.declared.types.Listing.{Listing}
use Rattle.api_listing.specs.Listing.{EncodesListing}
use Rattle.bytecode_model.specs.LinkedClasses.{IsLinkedOf}
use Rattle.inliner_tool.proofs.programs.linked.Goals as goal

pub new-requires : goal.new-requires
new-requires c = (c.in-Ok.ensures.order c.requires.listed.text c.requires.listed.encodes).ends

pub returns-in_ok-new-in-Ok-clause-order : goal.returns-in_ok-new-in-Ok-clause-order
returns-in_ok-new-in-Ok-clause-order c = rw c.in_ok-new-in-Ok.ensures (c.in-Ok.ensures.order c.requires.listed.text c.requires.listed.encodes)

pub returns-in_ok-new-in-Ok-clause-links : goal.returns-in_ok-new-in-Ok-clause-links
returns-in_ok-new-in-Ok-clause-links c = rw c.in_ok-new-in-Ok.ensures c.in-Ok.ensures.named

pub returns-in_ok-new-in-Ok-clause-linked : goal.returns-in_ok-new-in-Ok-clause-linked
returns-in_ok-new-in-Ok-clause-linked c =
    rw c.in_ok-new-in-Ok.ensures
    (record {
      side = c.args.side;
      main = c.args.main.now;
      text = c.requires.listed.text;
      listed = subst (EncodesListing c.requires.listed.text) (sym c.in-Ok.ensures.named.listing_is) c.requires.listed.encodes;
      linked = subst (λ (l : Listing). IsLinkedOf c.args.side l c.args.main.now c.in-Ok.program) (sym c.in-Ok.ensures.named.listing_is) c.in-Ok.ensures.named;
      sound = c.in-Ok.ensures.sound;
      order = c.in-Ok.ensures.order c.requires.listed.text c.requires.listed.encodes;
    })
