use Rattle.std.proofs.Common.{◌≡◌, length, map}
use Rattle.code_typing.specs.Changing.{change_told}
use Rattle.bytecode_model.specs.Rules.{stack_fits}
use Rattle.code_typing.proofs.following.changed_fit.Given as goal

abbrev pub invariant-loop-from : goal.invariant-loop-from
invariant-loop-from l =
    stack_fits l.fn.program (map (change_told l.change) l.from) l.to ≡ stack_fits l.fn.program (map (change_told l.change) l.fn.from) l.fn.to

abbrev pub decreases-loop-from : goal.decreases-loop-from
decreases-loop-from l = length l.from
