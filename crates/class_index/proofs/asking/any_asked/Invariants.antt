use Rattle.std.proofs.Common.{◌≡◌, length}
use Rattle.std.specs.List.{list_any}
use Rattle.class_index.specs.Asking.{is_asked_of}
use Rattle.class_index.proofs.asking.any_asked.Given as goal

abbrev pub invariant-loop-left : goal.invariant-loop-left
invariant-loop-left l =
    list_any (is_asked_of l.listing l.class l.pool) l.left ≡ list_any (is_asked_of l.listing l.class l.pool) l.members

abbrev pub decreases-loop-left : goal.decreases-loop-left
decreases-loop-left l = length l.left
