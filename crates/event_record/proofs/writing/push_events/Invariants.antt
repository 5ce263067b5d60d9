use Rattle.std.proofs.Common.{◌≡◌, ◌++◌, take}
use Rattle.std.specs.List.{flat_map}
use Rattle.event_record.specs.Printing.{event_line}
use Rattle.event_record.proofs.writing.push_events.Given as goal

abbrev pub invariant-loop-event : goal.invariant-loop-event
invariant-loop-event l = l.out ≡ l.fn.out ++ flat_map (event_line l.listing.methods) (take l.event-index l.events)
