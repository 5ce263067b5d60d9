use Rattle.std.proofs.Common.{◌≡◌, length}
use Rattle.std.specs.Prelude.{max}
use Rattle.guest_step.specs.Rooms.{longest_name}
use Rattle.guest_step.proofs.making_room.longest_name.Given as goal

abbrev pub invariant-loop-left : goal.invariant-loop-left
invariant-loop-left l = max l.longest (longest_name l.left) ≡ longest_name l.classes

abbrev pub decreases-loop-left : goal.decreases-loop-left
decreases-loop-left l = length l.left
