-- Whose the events are: an event is of the thread that makes the step; and what is returned. (docs/MACHINE.md)
use Rattle.std.specs.Prelude.{◌≡◌, ℕ, true, IsSome, IsSomeAnd, List, Option, Some, None, is_some, slice_get}
use Rattle.std.specs.List.{AllByRecursion}
use Rattle.api_listing.specs.declared.descriptor.FieldType.{FieldType}
use Rattle.api_listing.specs.declared.events.ApiValue.{ApiValue}
use Rattle.api_listing.specs.declared.events.ApiValue.TheVariants as api
use Rattle.api_listing.specs.declared.events.Event.{Event}
use Rattle.api_listing.specs.declared.events.Event.TheVariants as events
use Rattle.api_listing.specs.declared.types.ListedMethod.{ListedMethod}
use Rattle.bytecode_model.specs.declared.program.Program.{Program}
use Rattle.guest_model.specs.declared.machine.Machine.{Machine}
use Rattle.guest_model.specs.declared.machine.Step.{Step}
use Rattle.guest_model.specs.Answers.{fits_number}
use Rattle.guest_model.specs.Calls.{types_of}
use Rattle.guest_model.specs.Runs.{trace}
use Rattle.guest_model.specs.ClosedPlaces.{method_of}
use Rattle.guest_model.specs.Stepping.{stepped}

-- the thread that an event is of
abbrev pub thread_of : Event → ℕ
thread_of (events.Call thread method arguments) = thread
thread_of (events.Return thread method value) = thread
thread_of (events.Except thread method) = thread

-- What the library sees of a step is of the thread that makes it.
abbrev pub EventsAreOfTheirThread : Type 0
EventsAreOfTheirThread =
    (program : Program) (machine after : Machine) (step : Step) (event : Event) → stepped program machine step ≡ Some (after, Some event)
    → thread_of event ≡ step.thread

-- A number that is returned is one of the result's type.
abbrev pub IsNumberFor : Option FieldType → Option ApiValue → Type 0
IsNumberFor result None = Unit {0}
IsNumberFor result (Some (api.Int n)) = fits_number result n ≡ true
IsNumberFor result (Some api.Null) = Unit {0}
IsNumberFor result (Some (api.Text text)) = Unit {0}
IsNumberFor result (Some (api.Obj class at)) = Unit {0}
IsNumberFor result (Some (api.Class name)) = Unit {0}

-- A method that gives something returns a value, and any other returns none; a number is one of the method's type.
abbrev pub IsGivenSo : Program → Event → Type 0
IsGivenSo program (events.Call thread method arguments) = Unit {0}
IsGivenSo program (events.Return thread method value) =
    IsSomeAnd (slice_get program.listing.methods method)
    (λ (listed : ListedMethod). (is_some value ≡ is_some (types_of listed.id.desc).result) × IsNumberFor (types_of listed.id.desc).result value)
IsGivenSo program (events.Except thread method) = Unit {0}

-- Whatever the steps are, each event is so.
abbrev pub SeesGiven : Program → Type 0
SeesGiven program = (steps : List Step) → AllByRecursion (IsGivenSo program) (trace program steps)

-- The event is of a method of the listing.
abbrev pub IsOfListed : Program → Event → Type 0
IsOfListed program event = IsSome (slice_get program.listing.methods (method_of event))

abbrev pub SeesListed : Program → Type 0
SeesListed program = (steps : List Step) → AllByRecursion (IsOfListed program) (trace program steps)
