use Rattle.std.proofs.Common.{◌≡◌, length}
use Rattle.cert_format.specs.declared.typing.VType.TheVariants.{Uninit}
use Rattle.bytecode_model.specs.Rules.{has_object}
use Rattle.frame_types.proofs.uninitialised.has_new.Given as goal

abbrev pub invariant-loop-left : goal.invariant-loop-left
invariant-loop-left l =
    has_object (Uninit l.at) l.left ≡ has_object (Uninit l.at) l.fn.types

abbrev pub decreases-loop-left : goal.decreases-loop-left
decreases-loop-left l = length l.left
