use Rattle.std.proofs.Common.{◌≡◌, ◌+◌, length}
use Rattle.guest_model.specs.Ending.{some_can_step}
use Rattle.guest_step.proofs.ending.some_can_step.Given as goal

abbrev pub invariant-loop-left : goal.invariant-loop-left
invariant-loop-left l =
    (some_can_step l.fn.guest l.fn.machine l.number l.left ≡ some_can_step l.fn.guest l.fn.machine 0 l.fn.machine.threads)
    × (l.number + length l.left ≡ length l.fn.machine.threads)

abbrev pub decreases-loop-left : goal.decreases-loop-left
decreases-loop-left l = length l.left
