-- Every run of a typed program: the machine fits the typing, what is enabled is made, and the library sees a number wherever a
-- method takes one.
use Rattle.std.proofs.Common.{◌≡◌, ℕ, cond, List, [], ◌∷◌, Option, Some, None, refl}
use Rattle.std.specs.Prelude.{IsSome, is_some, option_map, slice_get, slice_set}
use Rattle.std.specs.List.{AllByRecursion}
use Rattle.std.specs.Option.{option_map_or, option_to_list}
use Rattle.api_listing.specs.declared.events.Event.{Event}
use Rattle.cert_format.specs.declared.typing.Typing.{Typing}
use Rattle.bytecode_model.specs.declared.program.Program.{Program}
use Rattle.bytecode_model.specs.Uses.{UsesAreShaped}
use Rattle.guest_heap.specs.declared.frame.Frame.{Frame}
use Rattle.guest_heap.specs.declared.thread.Doing.{Doing}
use Rattle.guest_heap.specs.declared.thread.Doing.TheVariants as doings
use Rattle.guest_heap.specs.declared.thread.Thread.{Thread}
use Rattle.guest_model.specs.declared.machine.Choice.{Choice}
use Rattle.guest_model.specs.declared.machine.Choice.TheVariants as choices
use Rattle.guest_model.specs.declared.machine.Machine.{Machine}
use Rattle.guest_model.specs.declared.machine.Step.{Step}
use Rattle.guest_model.proofs.Options.{IfThere, all_append, all_get, all_set, and_then_of, if_none}
use Rattle.guest_model.specs.Changes.{Change, applied, world_of}
use Rattle.guest_model.specs.Enabled.{IsEnabled, MayStep}
use Rattle.guest_model.specs.Moving.{CanRun, EnabledIsMade, IsAble}
use Rattle.guest_model.specs.Runs.{exec_from, seen, start_of, stepped_or_same, trace, trace_from}
use Rattle.guest_model.specs.Stepping.{changed, doing_stepped, frames_stepped, stepped}
use Rattle.typed_runs.specs.Frames.{AreRunning}
use Rattle.typed_runs.specs.Machines.{FramesFit, MachineFits, ThreadFits}
use Rattle.typed_runs.specs.Programs.{IsTypedProgram}
use Rattle.typed_runs.specs.Runs.{NeverStuck, RunsFit}
use Rattle.typed_runs.proofs.Able.{can_run}
use Rattle.typed_runs.proofs.Acting.{CallsOperate, frames_fit}
use Rattle.typed_runs.proofs.Beginning.{start_fits}
use Rattle.typed_runs.proofs.Calling.Called.{call_stepped_fits, can_take}
use Rattle.typed_runs.proofs.Changed.{ChangeFits, PassesNumbers, WorldFits}
use Rattle.typed_runs.proofs.Growing.{all_also, begins_grown, grows_itself, thread_grown}

unless_some : {A B : Type 0} (stop : Option B) (o : Option A) (x : A) → cond (is_some stop) None o ≡ Some x → o ≡ Some x
unless_some None o x e = e
unless_some (Some s) o x e = absurd cc

is_mapped : {A B : Type 0} (f : A → B) (o : Option A) → IsSome o → IsSome (option_map f o)
is_mapped f None e = e
is_mapped f (Some x) e = refl

module _ (program : Program) (typing : Typing) (ok : IsTypedProgram program typing) (shaped : UsesAreShaped) (calls_operate : CallsOperate program typing) where
  module _ (machine : Machine) (m : MachineFits program typing machine) where
    abbrev Fits : Change → Type 0
    Fits change = ChangeFits program typing machine.heap change

    shared_fits : WorldFits program machine.heap (world_of machine)
    shared_fits = record { grows = grows_itself machine.heap; objects = m.heap; statics = m.statics }

    -- ---- a step of a thread

    module _ (number : ℕ) (thread : Thread) (fits : ThreadFits program typing machine.heap thread) where
      runs_fit_in : (frames : List Frame) → AreRunning program typing machine.heap frames → IfThere Fits (frames_stepped program machine number thread frames)
      runs_fit_in [] r = absurd r
      runs_fit_in (frame ∷ under) r = frames_fit program typing ok machine m number thread fits.to_begin frame under r.0 r.1 shaped calls_operate

      doing_fits : (doing : Doing) → FramesFit program typing machine.heap thread.frames doing → (choice : Choice)
          → IfThere Fits (doing_stepped program machine number thread doing choice)
      unfolding IfThere
      doing_fits doings.Running f choices.Plain = runs_fit_in thread.frames f
      doing_fits doings.Running f (choices.Answer answer) = if_none Fits
      doing_fits (doings.InCall method receiver arguments) f choice =
          call_stepped_fits program typing ok (world_of machine) shared_fits m.first number thread fits.to_begin method receiver arguments f.0 f.1 choice
      doing_fits doings.Ended f choice = if_none Fits

      can_run_in : (frames : List Frame) → AreRunning program typing machine.heap frames → CanRun program machine number thread frames
      can_run_in [] r = absurd r
      can_run_in (frame ∷ under) r = can_run program typing ok machine m number thread fits.to_begin frame under r.0 r.1 shaped calls_operate

      -- What it needs is there.
      able : (doing : Doing) → FramesFit program typing machine.heap thread.frames doing → (choice : Choice)
          → MayStep program machine number thread.frames doing choice → IsAble program machine number thread doing choice
      able doings.Running f choice may = can_run_in thread.frames f
      able (doings.InCall method receiver arguments) f choices.Plain may = tt
      able (doings.InCall method receiver arguments) f (choices.Answer answer) may =
          can_take program typing ok (world_of machine) shared_fits m.first number thread fits.to_begin method receiver arguments f.0 f.1 answer may.1
      able doings.Ended f choice may = tt

    -- ---- the machine after a change

    applied_fits : (number : ℕ) (change : Change) → Fits change → MachineFits program typing (applied number machine change)
    applied_fits number change fits =
        let new = change.world.heap in
        let grown = all_also (ThreadFits program typing machine.heap) (ThreadFits program typing new) machine.threads
        (thread_grown machine.heap new fits.world.grows program typing) m.threads in
        record {
          heap = fits.world.objects;
          first = begins_grown machine.heap new fits.world.grows program m.first;
          statics = fits.world.statics;
          threads = all_append (ThreadFits program typing new) (slice_set machine.threads number change.thread) (option_to_list change.begins)
              (all_set (ThreadFits program typing new) machine.threads number change.thread grown fits.thread) fits.begins;
        }

    changed_fits : (step : Step) (change : Change) → changed program machine step ≡ Some change → Fits change
    unfolding IfThere
    changed_fits step change e =
        let t = and_then_of (λ (thread : Thread). doing_stepped program machine step.thread thread thread.doing step.choice) (slice_get machine.threads step.thread)
        change (unless_some machine.stopped _ change e) in
        let fits = all_get (ThreadFits program typing machine.heap) machine.threads step.thread t.0 m.threads t.1 in
        doing_fits step.thread t.0 fits t.0.doing fits.frames step.choice change t.2

    kept : (step : Step) (o : Option Change) → changed program machine step ≡ o
        → MachineFits program typing
        (option_map_or (λ (made : Machine × Option Event). made.0) (option_map (λ (change : Change). (applied step.thread machine change, change.event)) o) machine)
    kept step None e = m
    kept step (Some change) e = applied_fits step.thread change (changed_fits step change e)

    step_kept : (step : Step) → MachineFits program typing (stepped_or_same program machine step)
    step_kept step = kept step (changed program machine step) refl

    seen_in : (step : Step) (o : Option Change) → changed program machine step ≡ o
        → AllByRecursion (PassesNumbers program)
        (option_map_or (λ (made : Machine × Option Event). option_to_list made.1) (option_map (λ (change : Change). (applied step.thread machine change, change.event)) o) [])
    seen_in step None e = tt
    seen_in step (Some change) e = (changed_fits step change e).seen

    step_seen : (step : Step) → AllByRecursion (PassesNumbers program) (seen program machine step)
    step_seen step = seen_in step (changed program machine step) refl

    made : EnabledIsMade → (step : Step) → IsEnabled program machine step → IsSome (stepped program machine step)
    made law step enabled =
        let fits = all_get (ThreadFits program typing machine.heap) machine.threads step.thread enabled.thread m.threads enabled.there in
        is_mapped (λ (change : Change). (applied step.thread machine change, change.event)) (changed program machine step)
        (law program machine step ok.links.linked.standing enabled (able step.thread enabled.thread fits enabled.thread.doing fits.frames step.choice enabled.may))

  -- ---- every run

  exec_fits : (steps : List Step) (machine : Machine) → MachineFits program typing machine → MachineFits program typing (exec_from program machine steps)
  exec_fits [] machine m = m
  exec_fits (step ∷ steps) machine m = exec_fits steps (stepped_or_same program machine step) (step_kept machine m step)

  trace_seen : (steps : List Step) (machine : Machine) → MachineFits program typing machine
      → AllByRecursion (PassesNumbers program) (trace_from program machine steps)
  trace_seen [] machine m = tt
  trace_seen (step ∷ steps) machine m =
      let next = stepped_or_same program machine step in
      all_append (PassesNumbers program) (seen program machine step) (trace_from program next steps) (step_seen machine m step)
      (trace_seen steps next (step_kept machine m step))

module _ (shaped : UsesAreShaped) (calls_operate : (program : Program) (typing : Typing) → IsTypedProgram program typing → CallsOperate program typing) where
  pub runs_fit : RunsFit
  runs_fit program typing ok steps = exec_fits program typing ok shaped (calls_operate program typing ok) steps (start_of program) (start_fits program typing ok)

  pub runs_pass_numbers : (program : Program) (typing : Typing) → IsTypedProgram program typing → (steps : List Step)
      → AllByRecursion (PassesNumbers program) (trace program steps)
  runs_pass_numbers program typing ok steps =
      trace_seen program typing ok shaped (calls_operate program typing ok) steps (start_of program) (start_fits program typing ok)

  pub never_stuck : EnabledIsMade → NeverStuck
  never_stuck law program typing ok steps step enabled =
      made program typing ok shaped (calls_operate program typing ok) _ (runs_fit program typing ok steps) law step enabled
