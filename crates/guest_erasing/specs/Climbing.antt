-- Plain steps of one thread, of which nothing is seen: how it goes up to a call, and out of a block. (docs/TRANSPARENCY.md)
use Rattle.std.specs.Prelude.{◌≡◌, ◌≤◌, ℕ, zero, suc, Bool, true, false, List, [], ◌∷◌, Option, Some, None}
use Rattle.api_listing.specs.declared.events.Event.{Event}
use Rattle.bytecode_model.specs.declared.program.Method.{Method}
use Rattle.bytecode_model.specs.declared.program.Program.{Program}
use Rattle.guest_model.specs.declared.machine.Machine.{Machine}
use Rattle.guest_model.specs.declared.machine.Step.{Step}
use Rattle.guest_model.specs.Stepping.{stepped}
use Rattle.guest_erasing.specs.Lifting.{goes_out, goes_up, most_steps, plain_step}
use Rattle.guest_erasing.specs.Places.{Sites}

-- so many plain steps of the thread of this number
abbrev pub plain_steps : ℕ → ℕ → List Step
plain_steps number zero = []
plain_steps number (suc k) = plain_step number ∷ plain_steps number k

-- The thread goes on for so many steps, of which nothing is seen, and then no more.
abbrev pub Climbs : Program → (Machine → ℕ → Bool) → ℕ → ℕ → Machine → Machine → Type 0
Climbs woven goes number zero machine end = (goes machine number ≡ false) × (machine ≡ end)
Climbs woven goes number (suc k) machine end =
    (goes machine number ≡ true) × ((next : Machine) × ((stepped woven machine (plain_step number) ≡ Some (next, None)) × Climbs woven goes number k next end))

-- The thread goes up to the call of its block, makes the step, and goes out of the block.
pub record Lifts (sites_of : Method → Sites) (client woven : Program) (before : Machine) (step : Step) (event : Option Event) (after : Machine) : Type 0 where
  pub up : ℕ
  pub there : Machine
  pub climbs : Climbs woven (goes_up sites_of client woven) step.thread up before there
  pub few : up ≤ most_steps sites_of client woven before step.thread
  pub made : Machine
  pub steps : stepped woven there step ≡ Some (made, event)
  pub out : ℕ
  pub leaves : Climbs woven (goes_out sites_of client woven) step.thread out made after
  pub few_out : out ≤ most_steps sites_of client woven made step.thread
