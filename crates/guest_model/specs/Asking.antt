-- What is asked of a machine before a step is made, and that it is what the rules say. (docs/MACHINE.md)
use Rattle.std.specs.Prelude.{◌≡◌, ◌↔◌, ℕ, ◌&&◌, Bool, true, false, not, List, slice_get, is_some}
use Rattle.std.specs.Option.{option_map_or}
use Rattle.api_listing.specs.declared.events.ApiAnswer.{ApiAnswer}
use Rattle.bytecode_model.specs.declared.program.Program.{Program}
use Rattle.guest_heap.specs.declared.object.Object.{Object}
use Rattle.guest_heap.specs.declared.thread.Doing.{Doing}
use Rattle.guest_heap.specs.declared.thread.Doing.TheVariants as doings
use Rattle.guest_heap.specs.declared.thread.Thread.{Thread}
use Rattle.guest_model.specs.declared.machine.Choice.{Choice}
use Rattle.guest_model.specs.declared.machine.Choice.TheVariants as choices
use Rattle.guest_model.specs.declared.machine.Machine.{Machine}
use Rattle.guest_model.specs.Answering.{method_takes}
use Rattle.guest_model.specs.Enabled.{IsEnabled}
use Rattle.guest_model.specs.Ending.{can_step}
use Rattle.guest_model.specs.Stepping.{is_on_null}

-- whether the thread with this number can, if there is one and the program goes on
abbrev pub is_enabled : Program → Machine → ℕ → Bool
is_enabled program machine number =
    not (is_some machine.stopped) && option_map_or (λ (t : Thread). can_step program machine number t.frames t.doing) (slice_get machine.threads number) false

-- whether what a thread does takes the answer
abbrev pub doing_takes : Program → List Object → Doing → ApiAnswer → Bool
doing_takes program heap doings.Running answer = false
doing_takes program heap (doings.InCall method receiver arguments) answer =
    not (is_on_null receiver) && method_takes program heap method receiver arguments answer
doing_takes program heap doings.Ended answer = false

-- whether the answer fits the call that the thread with this number is in
abbrev pub takes_answer : Program → Machine → ℕ → ApiAnswer → Bool
takes_answer program machine number answer =
    not (is_some machine.stopped) && option_map_or (λ (t : Thread). doing_takes program machine.heap t.doing answer) (slice_get machine.threads number) false

-- ---- what it is

-- A thread can make a step exactly where the rules enable one with some choice.
abbrev pub EnabledAreSteps : Type 0
EnabledAreSteps = (program : Program) (machine : Machine) (number : ℕ)
    → is_enabled program machine number ≡ true ↔ (choice : Choice) × IsEnabled program machine (record { thread = number; choice = choice })

-- An answer fits exactly where the rules enable the step that takes it.
abbrev pub FittingAreSteps : Type 0
FittingAreSteps = (program : Program) (machine : Machine) (number : ℕ) (answer : ApiAnswer)
    → takes_answer program machine number answer ≡ true ↔ IsEnabled program machine (record { thread = number; choice = choices.Answer answer })
