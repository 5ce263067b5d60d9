use Rattle.std.proofs.Common.{◌≡◌, ◌-◌, length}
use Rattle.api_listing.specs.Nearest.{first_declared, upwards, interfaces_of}
use Rattle.api_listing.proofs.lookup.among_interfaces.Given as goal

abbrev pub invariant-loop : goal.invariant-loop
invariant-loop l =
    first_declared l.listing.methods l.name l.desc (interfaces_of (upwards (length l.listing.classes - l.counter) l.listing.classes l.at))
    ≡ first_declared l.listing.methods l.name l.desc (interfaces_of (upwards (length l.listing.classes) l.listing.classes l.class))
