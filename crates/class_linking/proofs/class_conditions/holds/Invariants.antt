use Rattle.std.proofs.Common.{◌≡◌, length}
use Rattle.bytecode_model.specs.Conditions.{holds}
use Rattle.class_linking.proofs.class_conditions.holds.Given as goal

abbrev pub invariant-loop-left : goal.invariant-loop-left
invariant-loop-left l = holds l.part l.left ≡ holds l.part l.text

abbrev pub decreases-loop-left : goal.decreases-loop-left
decreases-loop-left l = length l.left
