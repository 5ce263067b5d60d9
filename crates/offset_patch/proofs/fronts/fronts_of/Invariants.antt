use Rattle.std.proofs.Common.{◌≡◌, ◌+◌, ◌++◌, length}
use Rattle.offset_patch.specs.Splicing.{fronts_from, fronts_of, count_of}
use Rattle.offset_patch.proofs.fronts.fronts_of.Given as goal

abbrev pub invariant-loop-left : goal.invariant-loop-left
invariant-loop-left l = record {
  so_far : l.fronts ++ fronts_from l.at l.left ≡ fronts_of l.sites;
  count : l.at + count_of l.left ≡ count_of l.sites;
}

abbrev pub decreases-loop-left : goal.decreases-loop-left
decreases-loop-left l = length l.left
