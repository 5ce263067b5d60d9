use Rattle.std.proofs.Common.{◌≡◌, length}
use Rattle.cert_format.specs.declared.typing.VType.TheVariants.{UninitThis}
use Rattle.bytecode_model.specs.Rules.{has_object}
use Rattle.frame_types.proofs.uninitialised.has_this.Given as goal

abbrev pub invariant-loop-left : goal.invariant-loop-left
invariant-loop-left l =
    has_object UninitThis l.left ≡ has_object UninitThis l.fn.types

abbrev pub decreases-loop-left : goal.decreases-loop-left
decreases-loop-left l = length l.left
