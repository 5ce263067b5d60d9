use Rattle.std.proofs.Common.{List, ℕ, subst}
use Rattle.std.specs.Prelude.{IfOk}
use Rattle.api_listing.specs.declared.types.Listing.{Listing}
use Rattle.api_listing.specs.Listing.{EncodesListing}
use Rattle.command_inputs.proofs.ToldTexts.{named_so}
use Rattle.command_inputs.proofs.named.listing_of.Goals as goal

pub returns-clause-encodes : goal.returns-clause-encodes
returns-clause-encodes g c =
    named_so (λ (text : List ℕ) (listing : Listing). EncodesListing text listing) (g.S.Store.files c.args.store.now) c.args.name.now c.in_ok-text.text c.listing_read.result c.of_name.result c.in_ok-text.ensures.text.0 c.of_name.ensures
    (subst (λ (text : List ℕ). IfOk c.listing_read.result ((λ (text : List ℕ) (listing : Listing). EncodesListing text listing) text)) c.as_slice.ensures c.listing_read.ensures.listed)
