-- What making the steps of a list comes to.
use Rattle.std.proofs.Common.{◌≡◌, ℕ, ◌+◌, List, [], ◌∷◌, ◌++◌, length, Option, Some, None, Result, Ok, Err, refl, sym, ap, subst, ◌∙◌, arith}
use Rattle.std.specs.Prelude.{IsOk}
use Rattle.std.specs.Option.{option_to_list}
use Rattle.std.proofs.lemmas.List.{append-nil, append_assoc}
use Rattle.api_listing.specs.declared.events.Event.{Event}
use Rattle.bytecode_model.specs.declared.program.Program.{Program}
use Rattle.guest_model.specs.declared.machine.Machine.{Machine}
use Rattle.guest_model.specs.declared.machine.Step.{Step}
use Rattle.guest_model.specs.Runs.{exec_from, start_of, trace_from}
use Rattle.guest_model.specs.Stepping.{stepped}
use Rattle.guest_replay.specs.declared.replaying.Replayed.{Replayed}
use Rattle.guest_replay.specs.declared.replaying.ReplayFault.{ReplayFault}
use Rattle.guest_replay.specs.declared.replaying.ReplayFault.TheVariants as faults
use Rattle.guest_replay.specs.Replaying.{AreMade, ReplaysAreRuns, TellsRun, replayed, replayed_from, run_to}

-- ---- from any machine

-- the same as of a whole run, of steps from a machine on
record StopsFrom (program : Program) (index : ℕ) (machine : Machine) (steps : List Step) (told : ℕ) : Type 0 where
  pub before : List Step
  pub step : Step
  pub later : List Step
  pub whole : steps ≡ before ++ step ∷ later
  pub place : index + length before ≡ told
  pub made : AreMade program machine before
  pub refused : stepped program (exec_from program machine before) step ≡ None

abbrev TellsFrom : Program → ℕ → Replayed → List Step → Result Replayed ReplayFault → Type 0
TellsFrom program index run steps (Ok now) =
    AreMade program run.machine steps × (now.events ≡ run.events ++ trace_from program run.machine steps) × (now.machine ≡ exec_from program run.machine steps)
TellsFrom program index run steps (Err (faults.NotEnabled told)) = StopsFrom program index run.machine steps told
TellsFrom program index run steps (Err faults.Memory) = ⊥

module _ (program : Program) where
  -- what a step comes to
  abbrev Stepped : Type 0
  Stepped = Option (Machine × Option Event)

  -- a step that is made, before others
  module _ (index : ℕ) (run : Replayed) (step : Step) (steps : List Step) (machine : Machine) (event : Option Event) (made : stepped program run.machine step ≡ Some (machine, event)) where
    moved : (before : List Step) → exec_from program run.machine (step ∷ before) ≡ exec_from program machine before
    moved before = rw made refl

    following : (result : Result Replayed ReplayFault) → TellsFrom program (index + 1) (run_to (run.events ++ option_to_list event) machine) steps result
        → TellsFrom program index run (step ∷ steps) result
    following (Ok now) tells = rw made (tells.0, tells.1 ∙ append_assoc run.events (option_to_list event) (trace_from program machine steps), tells.2)
    following (Err (faults.NotEnabled told)) stops = record {
      before = step ∷ stops.before;
      step = stops.step;
      later = stops.later;
      whole = ap (λ ss. step ∷ ss) stops.whole;
      place = omega (arith, stops.place);
      made = rw made stops.made;
      refused = subst (λ (m : Machine). stepped program m stops.step ≡ None) (sym (moved stops.before)) stops.refused;
    }
    following (Err faults.Memory) none = none

  tells_from : (steps : List Step) (index : ℕ) (run : Replayed) → TellsFrom program index run steps (replayed_from program index run steps)
  tells_from [] index run = (tt, sym (append-nil run.events), refl)
  tells_from (step ∷ steps) index run = by (λ next. tells_from steps (index + 1) next) (stepped program run.machine step) refl where
    by : ((next : Replayed) → TellsFrom program (index + 1) next steps (replayed_from program (index + 1) next steps))
        → (o : Stepped) → stepped program run.machine step ≡ o → TellsFrom program index run (step ∷ steps) (replayed_from program index run (step ∷ steps))
    by tells None is = rw is (record { before = []; step = step; later = steps; whole = refl; place = omega arith; made = tt; refused = is })
    by tells (Some (machine, event)) is =
        let next : Replayed = run_to (run.events ++ option_to_list event) machine in
        let told = following index run step steps machine event is (replayed_from program (index + 1) next steps) (tells next) in
        rw is told

  made_from : (steps : List Step) (index : ℕ) (run : Replayed) → AreMade program run.machine steps → IsOk (replayed_from program index run steps)
  made_from [] index run made = refl
  made_from (step ∷ steps) index run made = by (λ next rest. made_from steps (index + 1) next rest) made (stepped program run.machine step) refl where
    by : ((next : Replayed) → AreMade program next.machine steps → IsOk (replayed_from program (index + 1) next steps)) → AreMade program run.machine (step ∷ steps)
        → (o : Stepped) → stepped program run.machine step ≡ o → IsOk (replayed_from program index run (step ∷ steps))
    by later made None is = let none : ⊥ = rw is at made in absurd none
    by later made (Some (machine, event)) is =
        let rest : AreMade program machine steps = rw is at made in
        rw is (later (run_to (run.events ++ option_to_list event) machine) rest)

-- ---- from the start

whole : (program : Program) (steps : List Step) (result : Result Replayed ReplayFault) → TellsFrom program 0 (run_to [] (start_of program)) steps result → TellsRun program steps result
whole program steps (Ok now) tells = tells
whole program steps (Err (faults.NotEnabled told)) stops = record {
  before = stops.before;
  step = stops.step;
  later = stops.later;
  whole = stops.whole;
  place = omega (arith, stops.place);
  made = stops.made;
  refused = stops.refused;
}
whole program steps (Err faults.Memory) none = none

pub replays_are_runs : ReplaysAreRuns
replays_are_runs program steps =
    (whole program steps (replayed program steps) (tells_from program steps 0 (run_to [] (start_of program))), λ made. made_from program steps 0 (run_to [] (start_of program)) made)
