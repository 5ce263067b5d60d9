use Rattle.std.proofs.Common.{◌≡◌, ◌+◌, ◌++◌, length, map}
use Rattle.std.specs.List.{enumerate_from}
use Rattle.offset_patch.specs.Splicing.{origin_of}
use Rattle.offset_patch.proofs.fronts.put_origins.Given as goal

abbrev pub invariant-loop-left : goal.invariant-loop-left
invariant-loop-left l = record {
  so_far : l.origins ++ map (origin_of l.site) (enumerate_from l.place l.left) ≡ l.fn.origins ++ map (origin_of l.site) (enumerate_from 0 l.part);
  count : l.place + length l.left ≡ length l.part;
}

abbrev pub decreases-loop-left : goal.decreases-loop-left
decreases-loop-left l = length l.left
