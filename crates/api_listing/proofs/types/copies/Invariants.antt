use Rattle.std.proofs.Common.{◌≡◌, take}
use Rattle.api_listing.proofs.types.copies.Given as goal

abbrev pub invariant-loop-name : goal.invariant-loop-name
invariant-loop-name l = l.made ≡ take l.name-index l.names
