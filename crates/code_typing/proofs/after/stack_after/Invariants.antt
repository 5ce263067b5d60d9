use Rattle.std.proofs.Common.{◌≡◌, map, take}
use Rattle.code_typing.specs.Changing.{change_told}
use Rattle.code_typing.proofs.after.stack_after.Given as goal

abbrev pub invariant-loop-t : goal.invariant-loop-t
invariant-loop-t l = l.stack ≡ map (change_told l.change) (take l.t-index l.below)
