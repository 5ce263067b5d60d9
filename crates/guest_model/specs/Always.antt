-- What holds of every run. (docs/MACHINE.md)
use Rattle.std.specs.Prelude.{◌≡◌, Bool, IsTrue, List, [], ◌++◌, Some}
use Rattle.std.specs.Option.{option_to_list}
use Rattle.api_listing.specs.declared.events.Event.{Event}
use Rattle.bytecode_model.specs.declared.program.Program.{Program}
use Rattle.guest_model.specs.declared.machine.Machine.{Machine}
use Rattle.guest_model.specs.declared.machine.Step.{Step}
use Rattle.guest_model.specs.Changes.{Change, applied}
use Rattle.guest_model.specs.Runs.{start_of, exec, trace}
use Rattle.guest_model.specs.Stepping.{changed}

-- It holds at the start, and each change by a step keeps it: of the machine, and of what the library saw so far.
pub record IsKeptBySteps (program : Program) (holds : Machine → List Event → Bool) : Type 0 where
  pub first : IsTrue (holds (start_of program) [])
  pub kept : (machine : Machine) (events : List Event) (step : Step) (change : Change) → IsTrue (holds machine events)
      → changed program machine step ≡ Some change
      → IsTrue (holds (applied step.thread machine change) (events ++ option_to_list change.event))

-- It holds after every list of steps.
abbrev pub HoldsAlways : Program → (Machine → List Event → Bool) → Type 0
HoldsAlways program holds = (steps : List Step) → IsTrue (holds (exec program steps) (trace program steps))
