use Rattle.std.proofs.Common.{◌≡◌, length}
use Rattle.guest_model.specs.Monitors.{all_given_up}
use Rattle.guest_model.specs.Throwing.{locks_left, unwound}
use Rattle.guest_threads.proofs.throwing.unwind.Given as goal

abbrev pub invariant-loop-thrown : goal.invariant-loop-thrown
invariant-loop-thrown l =
    (unwound l.fn.program l.fn.thrown l.fn.class l.frames ≡ unwound l.fn.program l.fn.thrown l.fn.class l.fn.frames)
    × (all_given_up l.monitors l.fn.number (locks_left l.fn.program l.fn.thrown l.fn.class l.frames) ≡ all_given_up l.fn.monitors l.fn.number (locks_left l.fn.program l.fn.thrown l.fn.class l.fn.frames))

abbrev pub decreases-loop-thrown : goal.decreases-loop-thrown
decreases-loop-thrown l = length l.frames
