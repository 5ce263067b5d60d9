use Rattle.std.proofs.Common.{◌≡◌, take, true}
use Rattle.std.specs.List.{list_all}
use Rattle.api_listing.specs.Listing.{element_is_known}
use Rattle.api_listing.specs.Seen.{has_name}
use Rattle.listing_text.proofs.draft.arguments_are_known.Given as goal

abbrev pub invariant-loop-argument : goal.invariant-loop-argument
invariant-loop-argument l = list_all (λ t. element_is_known (has_name l.known) t.element) (take l.argument-index l.arguments) ≡ true
