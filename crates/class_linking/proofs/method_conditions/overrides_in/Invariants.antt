use Rattle.std.proofs.Common.{◌≡◌, length}
use Rattle.bytecode_model.specs.Conditions.{overrides_in}
use Rattle.class_linking.proofs.method_conditions.overrides_in.Given as goal

abbrev pub invariant-loop-left : goal.invariant-loop-left
invariant-loop-left l = overrides_in l.index.listing l.id l.left ≡ overrides_in l.index.listing l.id l.order

abbrev pub decreases-loop-left : goal.decreases-loop-left
decreases-loop-left l = length l.left
