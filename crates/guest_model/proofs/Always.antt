-- What holds at the start and is kept by each change that a step makes holds after every list of steps.
use Rattle.std.proofs.Common.{◌≡◌, Bool, List, [], ◌∷◌, ◌++◌, Option, Some, None, refl, sym, subst}
use Rattle.std.specs.Prelude.{IsTrue, option_map}
use Rattle.std.specs.Option.{option_map_or, option_to_list}
use Rattle.std.proofs.lemmas.List.{append-nil, append_assoc}
use Rattle.api_listing.specs.declared.events.Event.{Event}
use Rattle.bytecode_model.specs.declared.program.Program.{Program}
use Rattle.guest_model.specs.declared.machine.Machine.{Machine}
use Rattle.guest_model.specs.declared.machine.Step.{Step}
use Rattle.guest_model.specs.Always.{IsKeptBySteps, HoldsAlways}
use Rattle.guest_model.specs.Changes.{Change, applied}
use Rattle.guest_model.specs.Runs.{start_of, stepped_or_same, seen, exec_from, trace_from, exec, trace}
use Rattle.guest_model.specs.Stepping.{changed}

-- over any predicate of the machine and of the events so far
module _ (program : Program) (Holds : Machine → List Event → Type 0) where
  -- each change that a step makes keeps it
  abbrev pub EachChangeKeeps : Type 0
  EachChangeKeeps =
      (machine : Machine) (events : List Event) (step : Step) (change : Change) → Holds machine events
      → changed program machine step ≡ Some change → Holds (applied step.thread machine change) (events ++ option_to_list change.event)

  -- the machine and the event of a change
  abbrev made_of : Machine → Step → Change → Machine × Option Event
  made_of machine step change = (applied step.thread machine change, change.event)

  -- by whether the step is enabled
  same_or : (machine : Machine) (events : List Event) (step : Step) (change : Option Change) → Holds machine events
      → ((c : Change) → change ≡ Some c → Holds (applied step.thread machine c) (events ++ option_to_list c.event))
      → Holds (option_map_or (λ (m : Machine × Option Event). m.0) (option_map (made_of machine step) change) machine)
      (events ++ option_map_or (λ (m : Machine × Option Event). option_to_list m.1) (option_map (made_of machine step) change) [])
  same_or machine events step None holds next = subst (Holds machine) (sym (append-nil events)) holds
  same_or machine events step (Some c) holds next = next c refl

  holds_from : EachChangeKeeps → (steps : List Step) (machine : Machine) (events : List Event) → Holds machine events
      → Holds (exec_from program machine steps) (events ++ trace_from program machine steps)
  holds_from keeps [] machine events holds = subst (Holds machine) (sym (append-nil events)) holds
  holds_from keeps (step ∷ steps) machine events holds =
      let next : Machine = stepped_or_same program machine step in
      let saw : List Event = seen program machine step in
      let after = same_or machine events step (changed program machine step) holds (λ c e. keeps machine events step c holds e) in
      subst (Holds (exec_from program next steps)) (append_assoc events saw (trace_from program next steps))
      (holds_from keeps steps next (events ++ saw) after)

  pub holds_always : Holds (start_of program) [] → EachChangeKeeps → (steps : List Step) → Holds (exec program steps) (trace program steps)
  holds_always first keeps steps = holds_from keeps steps (start_of program) [] first

pub test_holds : (program : Program) (holds : Machine → List Event → Bool) → IsKeptBySteps program holds → HoldsAlways program holds
test_holds program holds kept steps = holds_always program (λ machine events. IsTrue (holds machine events)) kept.first kept.kept steps
