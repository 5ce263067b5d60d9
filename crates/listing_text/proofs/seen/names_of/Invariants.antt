use Rattle.std.proofs.Common.{◌≡◌, ℕ, List, take}
use Rattle.api_listing.specs.Listing.{is_known}
use Rattle.api_listing.specs.Seen.{has_name}
use Rattle.listing_text.proofs.seen.names_of.Given as goal

abbrev pub invariant-loop-class : goal.invariant-loop-class
invariant-loop-class l = (q : List ℕ) → has_name l.names q ≡ is_known (take l.class-index l.classes) q
