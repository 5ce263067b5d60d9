use Rattle.std.proofs.Common.{◌≡◌, ◌+◌, length}
use Rattle.std.specs.Option.{option_or}
use Rattle.std.specs.List.{position_from}
use Rattle.offset_patch.specs.declared.constants.Added.{Added}
use Rattle.offset_patch.specs.Added.{const_of}
use Rattle.offset_patch.specs.Entries.{same, place_of}
use Rattle.offset_patch.specs.Growth.{found_at}
use Rattle.offset_patch.proofs.growth.places_of.Given as goal

abbrev pub invariant-loop-left : goal.invariant-loop-left
invariant-loop-left l = record {
  so_far : (q : Added) → option_or (found_at l.places q) (position_from (same (const_of q)) l.at l.left) ≡ place_of (const_of q) l.pool;
  count : l.at + length l.left ≡ length l.pool;
}

abbrev pub decreases-loop-left : goal.decreases-loop-left
decreases-loop-left l = length l.left
