use Rattle.std.proofs.Common.{◌≡◌, ◌+◌, length}
use Rattle.api_listing.specs.Descriptor.{type_at}
use Rattle.api_listing.proofs.Descriptors.{deepened}
use Rattle.api_listing.proofs.descriptor.type_at.Given as goal

abbrev pub invariant-loop-left : goal.invariant-loop-left
invariant-loop-left l = (deepened l.dimensions (type_at l.left) ≡ type_at l.bytes) × (l.dimensions + length l.left ≡ length l.bytes)

abbrev pub decreases-loop-left : goal.decreases-loop-left
decreases-loop-left l = length l.left
