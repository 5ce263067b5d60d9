use Rattle.std.proofs.Common.{◌≡◌, ◌++◌, replicate}
use Rattle.event_record.specs.Record.{plain}
use Rattle.event_record.proofs.reading.push_plain.Given as goal

abbrev pub invariant-loop : goal.invariant-loop
invariant-loop l = l.steps ≡ l.fn.steps ++ replicate l.counter (plain l.thread)
