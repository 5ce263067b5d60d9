use Rattle.std.proofs.Common.{◌≡◌, ◌-◌}
use Rattle.api_listing.specs.Descriptor.{arguments_at}
use Rattle.api_listing.proofs.Descriptors.{with_front}
use Rattle.api_listing.proofs.descriptor.arguments_at.Given as goal

abbrev pub invariant-loop : goal.invariant-loop
invariant-loop l = with_front l.arguments (arguments_at (256 - l.counter) l.left) ≡ arguments_at 256 l.bytes
