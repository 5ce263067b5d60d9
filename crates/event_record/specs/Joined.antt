-- Plain steps of a thread that are joined and not written yet, while a record is written. (docs/RECORDS.md)
use Rattle.std.specs.Prelude.{◌≡◌, ℕ, zero, suc, ◌==◌, ◌++◌, List, [], codes, if◌then◌else◌}
use Rattle.std.specs.Fmt.{signed_decimal}
use Rattle.std.specs.List.{flat_map}
use Rattle.api_listing.specs.declared.types.ListedMethod.{ListedMethod}
use Rattle.event_record.specs.declared.entry.Entry.{Entry}
use Rattle.event_record.specs.declared.writing.EndLine.{EndLine}
use Rattle.event_record.specs.declared.writing.EndLine.TheVariants as ends
use Rattle.event_record.specs.declared.writing.Joined.{Joined}
use Rattle.event_record.specs.Printing.{following}
use Rattle.event_record.specs.Writing.{entry_line, go_line, plain_before}

-- so many plain steps of a thread before these entries
abbrev pub plains_before : ℕ → ℕ → List Entry → List Entry
plains_before thread zero entries = entries
plains_before thread (suc count) entries = plain_before thread (plains_before thread count entries)

-- the line of joined steps, where there are any
abbrev pub joined_line : ℕ → ℕ → List ℕ
joined_line thread count = if count == 0 then [] else go_line thread count

-- the lines of the entries after joined steps
abbrev pub lines_after : List ListedMethod → Joined → List Entry → List ℕ
lines_after methods joined entries = flat_map (entry_line methods) (plains_before joined.thread joined.count entries)

-- Whatever entries follow: what is written and joined now is what was before, with what is put before those entries.
abbrev pub WritesOn : List ListedMethod → List ℕ → Joined → (List Entry → List Entry) → List ℕ → Joined → Type 0
WritesOn methods old was before new now = (entries : List Entry) → new ++ lines_after methods now entries ≡ old ++ lines_after methods was (before entries)

-- the end line up to the number of the steps
abbrev pub end_head : EndLine → List ℕ
end_head ends.Finished = codes "end finished"
end_head ends.Deadlock = codes "end deadlock"
end_head (ends.Stopped value) = codes "end stopped" ++ following (signed_decimal value)
end_head ends.Budget = codes "end budget"
end_head ends.Device = codes "end device"
end_head ends.Running = codes "end running"
