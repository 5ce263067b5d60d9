use Rattle.std.proofs.Common.{◌≡◌, length}
use Rattle.std.specs.Prelude.{find}
use Rattle.guest_model.specs.Throwing.{catches}
use Rattle.guest_threads.proofs.throwing.first_catching.Given as goal

abbrev pub invariant-loop-handler : goal.invariant-loop-handler
invariant-loop-handler l = find (catches l.fn.program l.fn.at l.fn.class) l.near ≡ find (catches l.fn.program l.fn.at l.fn.class) l.fn.handlers

abbrev pub decreases-loop-handler : goal.decreases-loop-handler
decreases-loop-handler l = length l.near
