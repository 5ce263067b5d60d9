-- Making the steps of a list, one after the other. (docs/MACHINE.md)
use Rattle.std.specs.Prelude.{◌≡◌, ℕ, ◌+◌, List, [], ◌∷◌, ◌++◌, length, None, Result, Ok, Err, IsOk, IsSomeAnd}
use Rattle.std.specs.Option.{option_map_or, option_to_list}
use Rattle.mon_base.specs.Reading.{◌>>=◌}
use Rattle.api_listing.specs.declared.events.Event.{Event}
use Rattle.bytecode_model.specs.declared.program.Program.{Program}
use Rattle.guest_model.specs.declared.machine.Machine.{Machine}
use Rattle.guest_model.specs.declared.machine.Step.{Step}
use Rattle.guest_model.specs.Runs.{start_of, exec, trace}
use Rattle.guest_model.specs.Stepping.{stepped}
use Rattle.guest_replay.specs.declared.replaying.Replayed.{Replayed}
use Rattle.guest_replay.specs.declared.replaying.ReplayFault.{ReplayFault}
use Rattle.guest_replay.specs.declared.replaying.ReplayFault.TheVariants as faults

-- ---- the recursion

-- what was seen so far, and the machine now
abbrev pub run_to : List Event → Machine → Replayed
run_to events machine = record { events = events; machine = machine }

-- a run after one more step, which has this index; each event is put after those before it
abbrev pub after_step : Program → ℕ → Replayed → Step → Result Replayed ReplayFault
after_step program index run step =
    option_map_or (λ made. Ok (run_to (run.events ++ option_to_list made.1) made.0)) (stepped program run.machine step) (Err (faults.NotEnabled index))

-- a run after these steps, the first of which has this index; the first that is not enabled in its place is told
abbrev pub replayed_from : Program → ℕ → Replayed → List Step → Result Replayed ReplayFault
replayed_from program index run [] = Ok run
replayed_from program index run (step ∷ steps) = after_step program index run step >>= λ next. replayed_from program (index + 1) next steps

abbrev pub replayed : Program → List Step → Result Replayed ReplayFault
replayed program steps = replayed_from program 0 (run_to [] (start_of program)) steps

-- ---- what it is

-- Each step is enabled in its place.
abbrev pub AreMade : Program → Machine → List Step → Type 0
AreMade program machine [] = Unit {0}
AreMade program machine (step ∷ steps) = IsSomeAnd (stepped program machine step) (λ made. AreMade program made.0 steps)

-- The step of this index is not enabled in its place, and all before it are.
pub record StopsAt (program : Program) (steps : List Step) (index : ℕ) : Type 0 where
  pub before : List Step
  pub step : Step
  pub later : List Step
  pub whole : steps ≡ before ++ step ∷ later
  pub place : length before ≡ index
  pub made : AreMade program (start_of program) before
  pub refused : stepped program (exec program before) step ≡ None

-- All steps are made, and the events and the machine are those of the run; or this is the first that is not.
abbrev pub TellsRun : Program → List Step → Result Replayed ReplayFault → Type 0
TellsRun program steps (Ok run) = AreMade program (start_of program) steps × (run.events ≡ trace program steps) × (run.machine ≡ exec program steps)
TellsRun program steps (Err (faults.NotEnabled index)) = StopsAt program steps index
TellsRun program steps (Err faults.Memory) = ⊥

-- It is so of every list of steps; and where each is enabled in its place, all are made.
abbrev pub ReplaysAreRuns : Type 0
ReplaysAreRuns = (program : Program) (steps : List Step)
    → TellsRun program steps (replayed program steps) × (AreMade program (start_of program) steps → IsOk (replayed program steps))
