-- How a run ended, by the rules alone: the program was stopped, each thread has ended, or none can make a step. (docs/MACHINE.md)
use Rattle.std.specs.Prelude.{◌≡◌, ◌↔◌, ℕ, ◌+◌, ◌||◌, Bool, false, not, if◌then◌else◌, List, [], ◌∷◌, slice_get, Option, Some, None, is_some}
use Rattle.std.specs.List.{list_all}
use Rattle.std.specs.Option.{option_map_or}
use Rattle.bytecode_model.specs.declared.program.Program.{Program}
use Rattle.guest_heap.specs.declared.frame.Frame.{Frame}
use Rattle.guest_heap.specs.declared.thread.Doing.{Doing}
use Rattle.guest_heap.specs.declared.thread.Doing.TheVariants as doings
use Rattle.guest_heap.specs.declared.thread.Thread.{Thread}
use Rattle.guest_model.specs.declared.machine.End.{End}
use Rattle.guest_model.specs.declared.machine.End.TheVariants as ends
use Rattle.guest_model.specs.declared.machine.Machine.{Machine}
use Rattle.guest_model.specs.declared.machine.Step.{Step}
use Rattle.guest_model.specs.Calling.{is_ended}
use Rattle.guest_model.specs.Enabled.{IsEnabled, waits}
use Rattle.guest_model.specs.Stepping.{is_on_null}

-- ---- who can make a step

-- whether a thread can make one: where it runs, one that waits for nothing; in a call, one whose receiver is null, which
-- throws, or whose method is listed, since some answer fits then
abbrev pub can_step : Program → Machine → ℕ → List Frame → Doing → Bool
can_step program machine number frames doings.Running = not (waits program machine number frames)
can_step program machine number frames (doings.InCall method receiver arguments) = is_on_null receiver || is_some (slice_get program.listing.methods method)
can_step program machine number frames doings.Ended = false

-- whether one of these threads can, the first of which has this number
abbrev pub some_can_step : Program → Machine → ℕ → List Thread → Bool
some_can_step program machine number [] = false
some_can_step program machine number (thread ∷ threads) =
    can_step program machine number thread.frames thread.doing || some_can_step program machine (number + 1) threads

-- ---- the end

abbrev pub have_ended : List Thread → Bool
have_ended threads = list_all (λ (t : Thread). is_ended t.doing) threads

-- the end where the program was not stopped; none while a thread can make a step
abbrev pub end_of_threads : Program → Machine → Option End
end_of_threads program machine =
    if have_ended machine.threads then Some ends.Finished
    else if some_can_step program machine 0 machine.threads then None
    else Some ends.Deadlock

abbrev pub end_of : Program → Machine → Option End
end_of program machine = option_map_or (λ value. Some (ends.Stopped value)) machine.stopped (end_of_threads program machine)

-- ---- what it is

-- A step is enabled by the rules.
abbrev pub SomeIsEnabled : Program → Machine → Type 0
SomeIsEnabled program machine = (step : Step) × IsEnabled program machine step

-- A machine has not ended exactly where some step is enabled by the rules.
abbrev pub EndsWhereNoneIsEnabled : Type 0
EndsWhereNoneIsEnabled = (program : Program) (machine : Machine) → end_of program machine ≡ None ↔ SomeIsEnabled program machine
