use Rattle.std.proofs.Common.{◌≡◌, ◌+◌, ◌++◌, length}
use Rattle.std.specs.List.{AllByRecursion}
use Rattle.offset_patch.specs.Fits.{IsSite}
use Rattle.offset_patch.specs.Splicing.{count_of}
use Rattle.offset_patch.specs.Splicing.{own_handlers}
use Rattle.offset_patch.proofs.handlers.put_own.Given as goal

abbrev pub invariant-loop-left : goal.invariant-loop-left
invariant-loop-left l = record {
  so_far : l.list ++ own_handlers l.begin l.left ≡ l.fn.list ++ own_handlers 0 l.sites;
  sites : AllByRecursion IsSite l.left;
  count : l.begin + count_of l.left ≡ count_of l.sites;
}

abbrev pub decreases-loop-left : goal.decreases-loop-left
decreases-loop-left l = length l.left
