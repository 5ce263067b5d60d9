use Rattle.std.proofs.Common.{◌≡◌, length}
use Rattle.guest_model.specs.Changes.{locks_of}
use Rattle.guest_model.specs.Monitors.{all_given_up}
use Rattle.guest_threads.proofs.going.give_up_all.Given as goal

abbrev pub invariant-loop-monitors : goal.invariant-loop-monitors
invariant-loop-monitors l = all_given_up l.monitors l.fn.number (locks_of l.frames) ≡ all_given_up l.fn.monitors l.fn.number (locks_of l.fn.frames)

abbrev pub decreases-loop-monitors : goal.decreases-loop-monitors
decreases-loop-monitors l = length l.frames
