use Rattle.std.proofs.Common.{◌≡◌, ℕ, List, length}
use Rattle.api_listing.specs.declared.types.ListedClass.{ListedClass}
use Rattle.api_listing.specs.Listing.{is_known}
use Rattle.api_listing.specs.Seen.{has_name}
use Rattle.class_linking.specs.ClassConditions.{classes_linked}
use Rattle.class_linking.proofs.class_conditions.classes_linked.Given as goal

abbrev pub invariant-loop-left : goal.invariant-loop-left
invariant-loop-left l =
    (taken : List ListedClass) × ((q : List ℕ) → has_name l.taken q ≡ is_known taken q)
    × (classes_linked l.side l.heads taken l.left ≡ classes_linked l.side l.heads l.listed l.files)

abbrev pub decreases-loop-left : goal.decreases-loop-left
decreases-loop-left l = length l.left
