use Rattle.std.proofs.Common.{◌≡◌, ◌+◌, length}
use Rattle.event_record.specs.Library.{library_in}
use Rattle.event_record.specs.Record.{after_lines, empty_record}
use Rattle.event_record.proofs.reading.read_lines.Given as goal

abbrev pub invariant-loop-line : goal.invariant-loop-line
invariant-loop-line l = record {
  same : after_lines (library_in l.names) l.number l.so_far l.lines ≡ after_lines (library_in l.names) 1 empty_record l.fn.lines;
  count : l.number + length l.lines ≡ length l.fn.lines + 1;
}

abbrev pub decreases-loop-line : goal.decreases-loop-line
decreases-loop-line l = length l.lines
