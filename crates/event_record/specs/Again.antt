-- What is printed of events is read again: a line, and a whole record. (docs/RECORDS.md)
use Rattle.std.specs.Prelude.{◌≡◌, ℕ, List, [], ◌∷◌, ◌++◌, Ok, Some, slice_get}
use Rattle.std.specs.List.{AllByRecursion, flat_map, join_with_byte}
use Rattle.api_listing.specs.Words.{pieces}
use Rattle.api_listing.specs.declared.events.Event.{Event}
use Rattle.api_listing.specs.declared.types.ListedMethod.{ListedMethod}
use Rattle.api_listing.specs.declared.types.Listing.{Listing}
use Rattle.event_record.specs.declared.entry.Entry.TheVariants.{Seen}
use Rattle.event_record.specs.Entry.{entry_of}
use Rattle.event_record.specs.Library.{Library, library_of}
use Rattle.event_record.specs.Printing.{IsEventOf, IsInWords, event_line, event_text, method_listed}
use Rattle.event_record.specs.Record.{reading}
use Rattle.event_record.specs.Encoding.{Ending, IsEnding, ending_words}

-- The event is of a method that the methods have under its index and the library finds there, and that is named in words.
pub record IsPrinted (library : Library) (methods : List ListedMethod) (event : Event) : Type 0 where
  pub method : ListedMethod
  pub there : slice_get methods (method_listed event) ≡ Some method
  pub is : IsEventOf library method.id event
  pub words : IsInWords method.id

-- The line of an event is read as that event.
abbrev pub EventIsReadAgain : Type 0
EventIsReadAgain = (library : Library) (methods : List ListedMethod) (event : Event)
    → IsPrinted library methods event → entry_of library (pieces 32 (event_text methods event)) ≡ Ok (Seen event)

-- the line of an end
abbrev pub end_line : Ending → List ℕ
end_line ending = join_with_byte 32 (ending_words ending) ++ 10 ∷ []

-- The lines of events and an end line after them are read as the record of these events, without steps.
abbrev pub EventsAreReadAgain : Type 0
EventsAreReadAgain = (listing : Listing) (events : List Event) (ending : Ending)
    → AllByRecursion (IsPrinted (library_of listing) listing.methods) events → IsEnding ending
    → reading (flat_map (event_line listing.methods) events ++ end_line ending) listing ≡ Ok (record { steps = []; events = events })
