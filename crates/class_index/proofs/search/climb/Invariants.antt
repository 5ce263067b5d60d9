use Rattle.std.proofs.Common.{◌≡◌, ◌-◌, ◌++◌, length}
use Rattle.api_listing.specs.Nearest.{upwards, names_of, interfaces_of}
use Rattle.class_index.proofs.search.climb.Given as goal

abbrev pub invariant-loop : goal.invariant-loop
invariant-loop l = record {
  named : l.names ++ names_of (upwards (length l.classes - l.counter) l.classes l.at) ≡ l.fn.names ++ names_of (upwards (length l.classes) l.classes l.name);
  above : l.interfaces ++ interfaces_of (upwards (length l.classes - l.counter) l.classes l.at) ≡ l.fn.interfaces ++ interfaces_of (upwards (length l.classes) l.classes l.name);
}
