use Rattle.std.proofs.Common.{length}
use Rattle.api_listing.specs.Descriptor.{until}
use Rattle.api_listing.proofs.Descriptors.{Passed}
use Rattle.api_listing.proofs.descriptor.until_semicolon.Given as goal

abbrev pub invariant-loop-left : goal.invariant-loop-left
invariant-loop-left l = Passed l.at l.left l.bytes (until 59 l.bytes)

abbrev pub decreases-loop-left : goal.decreases-loop-left
decreases-loop-left l = length l.left
