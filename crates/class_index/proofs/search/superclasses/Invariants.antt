use Rattle.std.proofs.Common.{◌≡◌, ◌-◌, ◌++◌, length}
use Rattle.api_listing.specs.Nearest.{upwards, names_of}
use Rattle.class_index.proofs.search.superclasses.Given as goal

abbrev pub invariant-loop : goal.invariant-loop
invariant-loop l = l.names ++ names_of (upwards (length l.classes - l.counter) l.classes l.at) ≡ names_of (upwards (length l.classes) l.classes l.name)
