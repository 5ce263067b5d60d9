use Rattle.std.proofs.Common.{◌≡◌, ◌+◌, length}
use Rattle.class_linking.specs.Linking.{static_main}
use Rattle.class_linking.proofs.linking.static_main.Given as goal

abbrev pub invariant-loop-left : goal.invariant-loop-left
invariant-loop-left l = record {
  so_far : static_main l.class l.pool l.method l.left ≡ static_main l.class l.pool 0 l.file.methods;
  count : l.method + length l.left ≡ length l.file.methods;
}

abbrev pub decreases-loop-left : goal.decreases-loop-left
decreases-loop-left l = length l.left
