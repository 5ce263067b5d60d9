use Rattle.std.proofs.Common.{◌≡◌, ℕ, List, take}
use Rattle.api_listing.specs.Listing.{is_known}
use Rattle.event_record.specs.Library.{class_listed}
use Rattle.event_record.proofs.names.classes_of.Given as goal

abbrev pub invariant-loop-class : goal.invariant-loop-class
invariant-loop-class l = (q : List ℕ) → class_listed l.names q ≡ is_known (take l.class-index l.classes) q
