-- What a step did that is made in place, beside what the machine's definition says. (docs/MACHINE.md)
use Rattle.std.specs.Prelude.{◌≡◌, Option, Some, None, Result, Ok, Err}
use Rattle.api_listing.specs.declared.events.Event.{Event}
use Rattle.guest_model.specs.declared.fault.StepFault.{StepFault}
use Rattle.guest_model.specs.declared.fault.StepFault.TheVariants as faults
use Rattle.guest_model.specs.declared.machine.Machine.{Machine}

-- The step was made, as the definition says, and the library saw this; or it is not enabled, or memory ran out, and the
-- machine is as it was.
abbrev pub Did : Result (Option Event) StepFault → Machine → Machine → Option (Machine × Option Event) → Type 0
Did (Ok event) old new made = made ≡ Some (new, event)
Did (Err faults.NotEnabled) old new made = (made ≡ None) × (new ≡ old)
Did (Err faults.Memory) old new made = new ≡ old
