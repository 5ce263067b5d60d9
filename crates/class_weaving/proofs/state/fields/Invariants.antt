use Rattle.std.proofs.Common.{◌≡◌, ◌+◌, ◌++◌, length}
use Rattle.class_weaving.specs.State.{fields_from}
use Rattle.class_weaving.proofs.state.fields.Given as goal

abbrev pub invariant-loop-left : goal.invariant-loop-left
invariant-loop-left l = record {
  so_far : l.fields ++ fields_from l.index l.left ≡ fields_from 0 l.vars;
  count : l.index + length l.left ≡ length l.vars;
}

abbrev pub decreases-loop-left : goal.decreases-loop-left
decreases-loop-left l = length l.left
