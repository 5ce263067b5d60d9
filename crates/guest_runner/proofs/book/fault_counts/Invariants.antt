use Rattle.std.proofs.Common.{◌≡◌, take}
use Rattle.std.specs.Prelude.{map}
use Rattle.guest_runner.proofs.book.fault_counts.Given as goal

abbrev pub invariant-loop-slot : goal.invariant-loop-slot
invariant-loop-slot g l = l.counts ≡ map (λ slot. g.D.ApiDevice.faults slot.device) (take l.slot-index l.slots)
