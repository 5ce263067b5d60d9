-- Whatever the steps are, the library sees only what is called at a place of the set.
use Rattle.std.proofs.Common.{List, [], ◌∷◌, ◌++◌, Option, Some, None}
use Rattle.std.specs.Prelude.{is_some, slice_get}
use Rattle.std.specs.List.{AllByRecursion}
use Rattle.std.specs.Option.{option_to_list}
use Rattle.api_listing.specs.declared.events.Event.{Event}
use Rattle.bytecode_model.specs.declared.program.Program.{Program}
use Rattle.guest_model.specs.declared.machine.Machine.{Machine}
use Rattle.guest_model.specs.declared.machine.Step.{Step}
use Rattle.guest_model.specs.ClosedPlaces.{Places, HasInsns, IsCalled, method_of, IsClosed, SeesOnlyCalled}
use Rattle.guest_model.specs.Changes.{Change}
use Rattle.guest_model.specs.Runs.{start_of, initialisers}
use Rattle.guest_model.specs.Stepping.{changed}
use Rattle.guest_model.proofs.Always.{EachChangeKeeps, holds_always}
use Rattle.guest_model.proofs.Going.{Well, SeenWell, Good, rests_well}
use Rattle.guest_model.proofs.Options.{IfThere, if_none, if_either, if_then, is_there, all_get, all_append}
use Rattle.guest_model.proofs.Staying.{threads_keep}
use Rattle.guest_model.proofs.Stepping.{thread_good}

module _ (program : Program) (reached : Places) (sound : HasInsns program) (closed : IsClosed program reached) where
  abbrev IsGood : Change → Type 0
  IsGood change = Good program reached change

  abbrev GoodIf : Option Change → Type 0
  GoodIf change = IfThere IsGood change

  abbrev Called : Event → Type 0
  Called event = IsCalled program reached (method_of event)

  -- each thread is well, and each event is of a method that is called at a place of the set
  record Holds (machine : Machine) (events : List Event) : Type 0 where
    pub well : AllByRecursion (Well program reached) machine.threads
    pub seen : AllByRecursion Called events

  changed_good : (machine : Machine) (step : Step) → AllByRecursion (Well program reached) machine.threads
      → GoodIf (changed program machine step)
  changed_good machine step well =
      if_either IsGood (is_some machine.stopped) _ _ (if_none IsGood)
      (if_then IsGood _ (slice_get machine.threads step.thread)
      (λ thread e. thread_good program reached sound closed machine step.thread thread step.choice
      (all_get (Well program reached) machine.threads step.thread thread well e)))

  seen_called : (event : Option Event) → SeenWell program reached event → AllByRecursion Called (option_to_list event)
  seen_called None h = tt
  seen_called (Some event) h = (h, tt)

  change_keeps : EachChangeKeeps program Holds
  change_keeps machine events step change holds e =
      let good = is_there IsGood (changed program machine step) change (changed_good machine step holds.well) e in
      record {
        well = threads_keep (Well program reached) step.thread machine change holds.well good.well good.begins;
        seen = all_append Called events (option_to_list change.event) holds.seen (seen_called change.event good.seen);
      }

  holds_first : Holds (start_of program) []
  holds_first =
      let to_begin = initialisers program ++ (program.main_class, program.main_method) ∷ [] in
      record { well = (rests_well program reached sound closed to_begin, tt); seen = tt }

  pub sees_only_called : SeesOnlyCalled program reached
  sees_only_called steps = (holds_always program Holds holds_first change_keeps steps).seen
