use Rattle.std.proofs.Common.{◌≡◌, take, true}
use Rattle.std.specs.List.{list_all}
use Rattle.api_listing.specs.Seen.{has_name}
use Rattle.listing_text.proofs.draft.are_in.Given as goal

abbrev pub invariant-loop-name : goal.invariant-loop-name
invariant-loop-name l = list_all (has_name l.names) (take l.name-index l.wanted) ≡ true
