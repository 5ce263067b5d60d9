use Rattle.std.proofs.Common.{◌≡◌, ◌+◌, length}
use Rattle.bytecode_model.specs.Makes.{type_at}
use Rattle.bytecode_model.specs.Rules.{locals_fit}
use Rattle.code_typing.proofs.locals.locals_fit.Given as goal

abbrev pub invariant-loop-left : goal.invariant-loop-left
invariant-loop-left l =
    (locals_fit l.fn.program (type_at l.fn.from) l.j l.left ≡ locals_fit l.fn.program (type_at l.fn.from) 0 l.fn.to) × (l.j + length l.left ≡ length l.fn.to)

abbrev pub decreases-loop-left : goal.decreases-loop-left
decreases-loop-left l = length l.left
