use Rattle.std.proofs.Common.{◌≡◌, ◌+◌, ◌++◌, length}
use Rattle.race_free_check.specs.Distinct.{distinct_from}
use Rattle.race_free_check.proofs.distinct.distinct_lists.Given as goal

abbrev pub invariant-loop-left : goal.invariant-loop-left
invariant-loop-left l = record {
  is : l.found ++ distinct_from l.clause l.place l.left ≡ distinct_from l.clause 0 l.lists;
  count : l.place + length l.left ≡ length l.lists;
}

abbrev pub decreases-loop-left : goal.decreases-loop-left
decreases-loop-left l = length l.left
