use Rattle.std.proofs.Common.{◌≡◌, length, map}
use Rattle.bytecode_model.specs.Makes.{moved_from}
use Rattle.bytecode_model.specs.Rules.{stack_fits}
use Rattle.code_typing.proofs.yielded.form_fits.Given as goal

abbrev pub invariant-loop-order : goal.invariant-loop-order
invariant-loop-order l =
    stack_fits l.fn.program (map (moved_from l.depth l.fn.taken) l.order) l.to ≡ stack_fits l.fn.program (map (moved_from l.depth l.fn.taken) l.fn.order) l.fn.to

abbrev pub decreases-loop-order : goal.decreases-loop-order
decreases-loop-order l = length l.order
