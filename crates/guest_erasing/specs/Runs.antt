-- A run of the woven program for a run of its client: the same events, and machines that mirror each other. (docs/TRANSPARENCY.md)
use Rattle.std.specs.Prelude.{◌≡◌, ⊤, List, [], ◌∷◌, Option, Some}
use Rattle.std.specs.Option.{IsSomeAnd}
use Rattle.api_listing.specs.declared.events.Event.{Event}
use Rattle.bytecode_model.specs.declared.program.Program.{Program}
use Rattle.guest_model.specs.declared.machine.Machine.{Machine}
use Rattle.guest_model.specs.declared.machine.Step.{Step}
use Rattle.guest_model.specs.Runs.{exec_from, trace_from}
use Rattle.guest_model.specs.Stepping.{stepped}

-- Each step is made in its place.
abbrev pub AreMadeFrom : Program → Machine → List Step → Type 0
AreMadeFrom program machine [] = ⊤
AreMadeFrom program machine (step ∷ steps) = IsSomeAnd (stepped program machine step) (λ (made : Machine × Option Event). AreMadeFrom program made.0 steps)

-- The program makes these steps, and these events are seen; it comes to this machine.
pub record Ran (program : Program) (before : Machine) (steps : List Step) (events : List Event) (after : Machine) : Type 0 where
  pub made : AreMadeFrom program before steps
  pub seen : trace_from program before steps ≡ events
  pub comes : exec_from program before steps ≡ after

-- The steps go on so, from one state to the next: each is allowed where it is made.
abbrev pub GoOn : {D : Type 0} → (D → Machine → Step → Machine × Option Event → D → Type 0) → Program → D → Machine → List Step → D → Type 0
GoOn Allowed program state machine [] end = state ≡ end
GoOn {D = D} Allowed program state machine (step ∷ steps) end =
    (made : Machine × Option Event) × ((stepped program machine step ≡ Some made)
    × ((next : D) × (Allowed state machine step made next × GoOn Allowed program next made.0 steps end)))
