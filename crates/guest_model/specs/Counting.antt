-- How a machine grows: by at most one object and one thread a step; and which numbers of objects the library sees.
-- (docs/MACHINE.md)
use Rattle.std.specs.Prelude.{◌≡◌, ℕ, suc, ◌+◌, ◌≤◌, ◌<◌, List, length, Option, Some, None}
use Rattle.std.specs.List.{AllByRecursion}
use Rattle.api_listing.specs.declared.events.ApiValue.{ApiValue}
use Rattle.api_listing.specs.declared.events.ApiValue.TheVariants as api
use Rattle.api_listing.specs.declared.events.Event.{Event}
use Rattle.api_listing.specs.declared.events.Event.TheVariants as events
use Rattle.bytecode_model.specs.declared.program.Program.{Program}
use Rattle.guest_model.specs.declared.machine.Machine.{Machine}
use Rattle.guest_model.specs.declared.machine.Step.{Step}
use Rattle.guest_model.specs.Runs.{exec, trace}
use Rattle.guest_model.specs.Stepping.{stepped}

-- ---- how much there is

-- A step adds at most one object and at most one thread.
abbrev pub StepsAddOne : Type 0
StepsAddOne =
    (program : Program) (machine after : Machine) (step : Step) (event : Option Event) → stepped program machine step ≡ Some (after, event)
    → (length after.heap ≤ suc (length machine.heap)) × (length after.threads ≤ suc (length machine.threads))

-- At the start there are an object for each field of the listing and the array that main takes, and one thread; so this is how
-- many there are after so many steps.
abbrev pub FewAreAdded : Type 0
FewAreAdded =
    (program : Program) (steps : List Step)
    → (length (exec program steps).heap ≤ suc (length program.listing.fields) + length steps)
    × (length (exec program steps).threads ≤ suc (length steps))

-- ---- what the library sees

-- Its number is below this one, if it is an object.
abbrev pub IsNumberedBelow : ℕ → ApiValue → Type 0
IsNumberedBelow n (api.Int value) = Unit {0}
IsNumberedBelow n api.Null = Unit {0}
IsNumberedBelow n (api.Text text) = Unit {0}
IsNumberedBelow n (api.Obj class at) = at < n
IsNumberedBelow n (api.Class name) = Unit {0}

abbrev pub IsResultBelow : ℕ → Option ApiValue → Type 0
IsResultBelow n None = Unit {0}
IsResultBelow n (Some value) = IsNumberedBelow n value

-- The objects that an event shows have numbers below this one.
abbrev pub ShowsBelow : ℕ → Event → Type 0
ShowsBelow n (events.Call thread method arguments) = AllByRecursion (IsNumberedBelow n) arguments
ShowsBelow n (events.Return thread method value) = IsResultBelow n value
ShowsBelow n (events.Except thread method) = Unit {0}

-- What the library sees of objects are numbers of the heap, and so fewer than there are objects.
abbrev pub SeesFewObjects : Type 0
SeesFewObjects =
    (program : Program) (steps : List Step) → AllByRecursion (ShowsBelow (suc (length program.listing.fields) + length steps)) (trace program steps)
