use Rattle.std.proofs.Common.{◌≡◌, ◌+◌, ◌*◌, ◌≤◌, ◌^◌, length}
use Rattle.offset_patch.specs.Fits.{calls_in}
use Rattle.offset_patch.specs.Length.{part_end}
use Rattle.offset_patch.proofs.length.part_end.Given as goal

abbrev pub invariant-loop-left : goal.invariant-loop-left
invariant-loop-left l = record {
  so_far : part_end l.own l.end l.left ≡ part_end l.own l.at l.part;
  bound : l.end + 4 * length l.left + 2 ^ 36 * calls_in l.left ≤ l.at + 4 * 2 ^ 32 + 2 ^ 36;
}

abbrev pub decreases-loop-left : goal.decreases-loop-left
decreases-loop-left l = length l.left
