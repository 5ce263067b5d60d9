use Rattle.std.proofs.Common.{◌≡◌, ◌+◌, ◌++◌}
use Rattle.bundle_gen.specs.Generated.{classes_from}
use Rattle.bundle_gen.proofs.bundle.put_classes.Given as goal

abbrev pub invariant-loop-left : goal.invariant-loop-left
invariant-loop-left l = record {
  so_far : l.files ++ classes_from l.index l.state l.sites l.left ≡ l.fn.files ++ classes_from 0 l.fn.seed l.fn.sites l.fn.classes;
  count : l.index + l.left ≡ l.fn.classes;
}

abbrev pub decreases-loop-left : goal.decreases-loop-left
decreases-loop-left l = l.left
