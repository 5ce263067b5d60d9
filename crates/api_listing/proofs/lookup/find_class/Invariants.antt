use Rattle.std.proofs.Common.{◌≡◌, length}
use Rattle.api_listing.specs.Nearest.{class_named}
use Rattle.api_listing.proofs.lookup.find_class.Given as goal

abbrev pub invariant-loop-left : goal.invariant-loop-left
invariant-loop-left l = class_named l.left l.name ≡ class_named l.classes l.name

abbrev pub decreases-loop-left : goal.decreases-loop-left
decreases-loop-left l = length l.left
