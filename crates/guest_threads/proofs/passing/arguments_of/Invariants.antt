use Rattle.std.proofs.Common.{◌≡◌, ◌++◌, reverse, take}
use Rattle.guest_threads.proofs.passing.arguments_of.Given as goal

abbrev pub invariant-loop-left : goal.invariant-loop-left
invariant-loop-left l = l.arguments ++ reverse (take l.left l.fn.stack.items) ≡ reverse (take l.fn.count l.fn.stack.items)

abbrev pub decreases-loop-left : goal.decreases-loop-left
decreases-loop-left l = l.left
