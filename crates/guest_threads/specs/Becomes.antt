-- What became of a part of the machine, beside what the machine's definition says. (docs/MACHINE.md)
use Rattle.std.specs.Prelude.{◌≡◌, Option, Some, None, Result, Ok, Err}
use Rattle.guest_model.specs.declared.fault.StepFault.{StepFault}
use Rattle.guest_model.specs.declared.fault.StepFault.TheVariants as faults

-- The part was changed, as the definition says; or that is not enabled, or memory ran out, and it is as it was.
abbrev pub Becomes : {A : Type 0} → Result (Unit {0}) StepFault → A → A → Option A → Type 0
Becomes (Ok done) old new made = made ≡ Some new
Becomes (Err faults.NotEnabled) old new made = (made ≡ None) × (new ≡ old)
Becomes (Err faults.Memory) old new made = new ≡ old
