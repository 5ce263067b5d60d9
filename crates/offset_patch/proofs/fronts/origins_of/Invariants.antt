use Rattle.std.proofs.Common.{◌≡◌, ◌+◌, ◌++◌, length}
use Rattle.std.specs.List.{AllByRecursion, enumerate_from, flat_map}
use Rattle.offset_patch.specs.Fits.{IsSite}
use Rattle.offset_patch.specs.Splicing.{part_origins, origins_of}
use Rattle.offset_patch.proofs.fronts.origins_of.Given as goal

abbrev pub invariant-loop-left : goal.invariant-loop-left
invariant-loop-left l = record {
  so_far : l.origins ++ flat_map part_origins (enumerate_from l.site l.left) ≡ origins_of l.sites;
  count : l.site + length l.left ≡ length l.sites;
  sites : AllByRecursion IsSite l.left;
}

abbrev pub decreases-loop-left : goal.decreases-loop-left
decreases-loop-left l = length l.left
