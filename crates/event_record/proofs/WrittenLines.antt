-- What a line shows that can be written: names that are words, texts that are made of bytes, and places of 32 bits.
use Rattle.std.specs.Prelude.{◌≢◌, ◌<◌, ◌^◌, IfSome, ℕ, List, [], Some, None}
use Rattle.std.specs.List.{AllByRecursion}
use Rattle.api_listing.specs.declared.events.ApiAnswer.{ApiAnswer}
use Rattle.api_listing.specs.declared.events.ApiAnswer.TheVariants as answers
use Rattle.api_listing.specs.declared.events.ApiValue.{ApiValue}
use Rattle.api_listing.specs.declared.events.ApiValue.TheVariants as api
use Rattle.api_listing.specs.declared.events.Event.{Event}
use Rattle.api_listing.specs.declared.events.Event.TheVariants as events
use Rattle.guest_model.specs.declared.machine.Choice.{Choice}
use Rattle.guest_model.specs.declared.machine.Choice.TheVariants as choices
use Rattle.event_record.specs.declared.writing.Line.{Line}
use Rattle.event_record.specs.Printing.{HasNoBreak}

-- A text is made of bytes, and a place is a number of 32 bits.
abbrev pub IsWritten : ApiAnswer → Type 0
IsWritten answers.Nothing = Unit {0}
IsWritten (answers.Int n) = Unit {0}
IsWritten answers.Null = Unit {0}
IsWritten (answers.Text bytes) = AllByRecursion (λ b. b < 256) bytes
IsWritten (answers.Fresh class) = Unit {0}
IsWritten (answers.Arg place) = place < 2 ^ 32
IsWritten answers.Receiver = Unit {0}
IsWritten (answers.Throws class) = Unit {0}

abbrev pub IsChoiceWritten : Choice → Type 0
IsChoiceWritten choices.Plain = Unit {0}
IsChoiceWritten (choices.Answer answer) = IsWritten answer

-- The name is a word.
abbrev pub IsNamed : List ℕ → Type 0
IsNamed name = (name ≢ []) × HasNoBreak name

-- The names of classes are words, and texts are made of bytes.
abbrev pub ShowsWords : ApiValue → Type 0
ShowsWords (api.Int n) = Unit {0}
ShowsWords api.Null = Unit {0}
ShowsWords (api.Text bytes) = AllByRecursion (λ b. b < 256) bytes
ShowsWords (api.Obj class at) = IsNamed class
ShowsWords (api.Class class) = IsNamed class

abbrev pub IsEventWritten : Event → Type 0
IsEventWritten (events.Call thread method arguments) = AllByRecursion ShowsWords arguments
IsEventWritten (events.Return thread method None) = Unit {0}
IsEventWritten (events.Return thread method (Some value)) = ShowsWords value
IsEventWritten (events.Except thread method) = Unit {0}

pub record IsLineWritten (line : Line) : Type 0 where
  pub choice : IsChoiceWritten line.step.choice
  pub event : IfSome line.event IsEventWritten
