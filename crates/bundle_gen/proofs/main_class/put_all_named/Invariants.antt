use Rattle.std.proofs.Common.{◌≡◌, ◌+◌, ◌++◌}
use Rattle.bundle_gen.specs.Generated.{named_from}
use Rattle.bundle_gen.proofs.main_class.put_all_named.Given as goal

abbrev pub invariant-loop-left : goal.invariant-loop-left
invariant-loop-left l = record {
  so_far : l.pool ++ named_from l.index l.left ≡ l.fn.pool ++ named_from 0 l.fn.classes;
  count : l.index + l.left ≡ l.fn.classes;
}

abbrev pub decreases-loop-left : goal.decreases-loop-left
decreases-loop-left l = l.left
