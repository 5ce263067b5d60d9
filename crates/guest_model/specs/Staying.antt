-- What a step leaves as it was. (docs/MACHINE.md)
use Rattle.std.specs.Prelude.{◌≡◌, ◌≢◌, ℕ, ◌<◌, length, slice_get, Option, Some}
use Rattle.api_listing.specs.declared.events.Event.{Event}
use Rattle.bytecode_model.specs.declared.program.Program.{Program}
use Rattle.guest_model.specs.declared.machine.Machine.{Machine}
use Rattle.guest_model.specs.declared.machine.Step.{Step}
use Rattle.guest_model.specs.Stepping.{stepped}

-- A step changes no thread but its own.
abbrev pub OtherThreadsStay : Type 0
OtherThreadsStay =
    (program : Program) (machine : Machine) (step : Step) (made : Machine × Option Event) (other : ℕ) → stepped program machine step ≡ Some made
    → other ≢ step.thread → other < length machine.threads → slice_get made.0.threads other ≡ slice_get machine.threads other
