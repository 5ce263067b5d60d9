use Rattle.std.proofs.Common.{◌≡◌, length}
use Rattle.std.specs.Prelude.{find}
use Rattle.guest_model.specs.Asking.{is_enabled}
use Rattle.guest_step.proofs.turns.first_enabled.Given as goal

abbrev pub invariant-loop-left : goal.invariant-loop-left
invariant-loop-left l = find (is_enabled l.guest l.machine) l.left ≡ find (is_enabled l.guest l.machine) l.numbers

abbrev pub decreases-loop-left : goal.decreases-loop-left
decreases-loop-left l = length l.left
