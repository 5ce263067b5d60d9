-- Which texts have the same fault: those that agree up to its line. (docs/RECORDS.md)
use Rattle.std.specs.Prelude.{◌≡◌, ℕ, ◌+◌, ◌≤◌, List, [], ◌∷◌, ◌++◌, length, Err}
use Rattle.api_listing.specs.Words.{IsLines, pieces}
use Rattle.api_listing.specs.declared.types.Listing.{Listing}
use Rattle.event_record.specs.declared.entry.Entry.{Entry}
use Rattle.event_record.specs.declared.fault.RecordFault.TheVariants.{Line}
use Rattle.event_record.specs.Library.{library_of}
use Rattle.event_record.specs.Record.{reading}
use Rattle.event_record.specs.Encoding.{AreEntries, record_of}

-- A fault at line n stays, whatever stands after the first n lines.
abbrev pub FaultStays : Type 0
FaultStays = (listing : Listing) (n : ℕ) (front a b : List ℕ) → IsLines n front
    → reading (front ++ a) listing ≡ Err (Line n) → reading (front ++ b) listing ≡ Err (Line n)

-- After good lines, none of which is the end line, the next one is at fault where no newline is after it, as where there is none.
abbrev pub EndIsMissed : Type 0
EndIsMissed = (listing : Listing) (text last : List ℕ) (lines : List (List ℕ)) (entries : List Entry)
    → pieces 10 text ≡ lines ++ last ∷ [] → AreEntries (library_of listing) lines entries → length (record_of entries).steps ≤ 1000000
    → reading text listing ≡ Err (Line (length lines + 1))
