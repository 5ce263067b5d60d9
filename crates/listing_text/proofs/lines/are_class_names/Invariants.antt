use Rattle.std.proofs.Common.{◌≡◌, take, true}
use Rattle.std.specs.List.{list_all}
use Rattle.api_listing.specs.Words.{is_class_name}
use Rattle.listing_text.proofs.lines.are_class_names.Given as goal

abbrev pub invariant-loop-name : goal.invariant-loop-name
invariant-loop-name l = list_all is_class_name (take l.name-index l.names) ≡ true
