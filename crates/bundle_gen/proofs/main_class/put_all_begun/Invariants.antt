use Rattle.std.proofs.Common.{◌≡◌, ◌+◌, ◌++◌}
use Rattle.bundle_gen.specs.Generated.{begun_from}
use Rattle.bundle_gen.proofs.main_class.put_all_begun.Given as goal

abbrev pub invariant-loop-left : goal.invariant-loop-left
invariant-loop-left l = record {
  so_far : l.code ++ begun_from l.index l.left ≡ l.fn.code ++ begun_from 0 l.fn.classes;
  count : l.index + l.left ≡ l.fn.classes;
}

abbrev pub decreases-loop-left : goal.decreases-loop-left
decreases-loop-left l = l.left
