use Rattle.std.proofs.Common.{◌≡◌, ◌+◌, length}
use Rattle.code_typing.specs.Changing.{local_told}
use Rattle.bytecode_model.specs.Rules.{locals_fit}
use Rattle.code_typing.proofs.locals.changed_fit.Given as goal

abbrev pub invariant-loop-left : goal.invariant-loop-left
invariant-loop-left l =
    (locals_fit l.fn.program (local_told l.shape l.change l.fn.locals l.fn.taken) l.j l.left ≡ locals_fit l.fn.program (local_told l.shape l.change l.fn.locals l.fn.taken) 0 l.fn.to)
    × (l.j + length l.left ≡ length l.fn.to)

abbrev pub decreases-loop-left : goal.decreases-loop-left
decreases-loop-left l = length l.left
