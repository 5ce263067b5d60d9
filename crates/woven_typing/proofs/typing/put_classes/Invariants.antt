-- The frames so far, and after them those of what is left.
use Rattle.std.proofs.Common.{◌≡◌, ◌+◌, ◌++◌, length}
use Rattle.std.specs.List.{AllByRecursion}
use Rattle.bytecode_model.specs.Sound.{IsSoundClass}
use Rattle.woven_typing.specs.Framing.{classes_typed}
use Rattle.woven_typing.proofs.typing.put_classes.Given as goal

abbrev pub invariant-loop-classes : goal.invariant-loop-classes
invariant-loop-classes l =
    (l.made ++ classes_typed l.weaving.program.now l.weaving.items.now.policy l.weaving.items.now.mode l.own l.classes l.told
    ≡ l.fn.made ++ classes_typed l.weaving.program.now l.weaving.items.now.policy l.weaving.items.now.mode 0 l.fn.classes l.fn.told)
    × (l.own + length l.classes ≡ length l.fn.classes) × AllByRecursion IsSoundClass l.classes

abbrev pub decreases-loop-classes : goal.decreases-loop-classes
decreases-loop-classes l = length l.classes
