use Rattle.std.proofs.Common.{◌≡◌, [], length}
use Rattle.event_record.specs.Value.{bytes_from}
use Rattle.event_record.proofs.value.bytes_of.Given as goal

abbrev pub invariant-loop-left : goal.invariant-loop-left
invariant-loop-left l = bytes_from l.bytes l.left ≡ bytes_from [] l.text

abbrev pub decreases-loop-left : goal.decreases-loop-left
decreases-loop-left l = length l.left
