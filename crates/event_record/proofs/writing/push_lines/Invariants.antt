use Rattle.std.proofs.Common.{◌≡◌, ◌+◌, ◌++◌, ◌≤◌, length}
use Rattle.std.specs.List.{flat_map}
use Rattle.event_record.specs.Joined.{lines_after}
use Rattle.event_record.specs.Writing.{entries_of, entry_line}
use Rattle.event_record.proofs.writing.push_lines.Given as goal

abbrev pub invariant-loop-left : goal.invariant-loop-left
invariant-loop-left l = record {
  text : l.out ++ lines_after l.listing.methods l.joined (entries_of l.left) ≡ l.fn.out ++ flat_map (entry_line l.listing.methods) (entries_of l.lines);
  count : l.joined.count + length l.left ≤ length l.lines;
}

abbrev pub decreases-loop-left : goal.decreases-loop-left
decreases-loop-left l = length l.left
