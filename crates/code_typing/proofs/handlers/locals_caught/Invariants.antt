use Rattle.std.proofs.Common.{◌≡◌, ◌+◌, length}
use Rattle.bytecode_model.specs.Rules.{local_caught, locals_fit}
use Rattle.code_typing.proofs.handlers.locals_caught.Given as goal

abbrev pub invariant-loop-left : goal.invariant-loop-left
invariant-loop-left l =
    (locals_fit l.fn.program (local_caught l.fn.locals) l.j l.left ≡ locals_fit l.fn.program (local_caught l.fn.locals) 0 l.fn.to) × (l.j + length l.left ≡ length l.fn.to)

abbrev pub decreases-loop-left : goal.decreases-loop-left
decreases-loop-left l = length l.left
