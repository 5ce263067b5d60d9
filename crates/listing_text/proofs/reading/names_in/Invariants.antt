use Rattle.std.proofs.Common.{◌≡◌, ℕ, List, take}
use Rattle.api_listing.specs.Listing.{is_known}
use Rattle.listing_text.specs.Reading.{classes_in}
use Rattle.api_listing.specs.Seen.{has_name}
use Rattle.listing_text.proofs.reading.names_in.Given as goal

abbrev pub invariant-loop-line : goal.invariant-loop-line
invariant-loop-line l = (q : List ℕ) → has_name l.names q ≡ is_known (classes_in (take l.line-index l.lines)) q
