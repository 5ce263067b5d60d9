-- The frames so far, and after them those of what is left.
use Rattle.std.proofs.Common.{◌≡◌, ◌++◌, length}
use Rattle.std.specs.List.{AllByRecursion}
use Rattle.bytecode_model.specs.Sound.{IsSoundMethod}
use Rattle.woven_typing.specs.Framing.{methods_typed}
use Rattle.woven_typing.proofs.typing.put_methods.Given as goal

abbrev pub invariant-loop-methods : goal.invariant-loop-methods
invariant-loop-methods l =
    (l.made ++ methods_typed l.weaving.program.now l.weaving.items.now.policy l.weaving.items.now.mode l.own l.class l.methods l.told
    ≡ l.fn.made ++ methods_typed l.weaving.program.now l.weaving.items.now.policy l.weaving.items.now.mode l.own l.class l.fn.methods l.fn.told)
    × AllByRecursion IsSoundMethod l.methods

abbrev pub decreases-loop-methods : goal.decreases-loop-methods
decreases-loop-methods l = length l.methods
