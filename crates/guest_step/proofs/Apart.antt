-- A thread whose doing stands apart while it acts.
use Rattle.std.proofs.Common.{◌≡◌, ℕ, ◌<◌, cond, List, [], ◌∷◌, length, Option, Some, None, Result, Ok, Err, refl, sym, ap, ◌∙◌, subst}
use Rattle.std.specs.Prelude.{IfOk, IfSome, IsSomeAnd, is_err, if◌then◌else◌, slice_get, slice_set, option_and_then}
use Rattle.std.specs.Option.{option_map_or}
use Rattle.api_listing.specs.declared.events.ApiAnswer.{ApiAnswer}
use Rattle.api_listing.specs.declared.events.Event.{Event}
use Rattle.api_listing.specs.declared.types.ListedMethod.{ListedMethod}
use Rattle.bytecode_model.specs.declared.program.Program.{Program}
use Rattle.bytecode_model.specs.SearchOrder.{Name}
use Rattle.guest_heap.specs.declared.frame.Frame.{Frame}
use Rattle.guest_heap.specs.declared.thread.Doing.{Doing}
use Rattle.guest_heap.specs.declared.thread.Doing.TheVariants as doings
use Rattle.guest_heap.specs.declared.thread.Thread.{Thread}
use Rattle.guest_heap.specs.declared.value.Value.{Value}
use Rattle.guest_model.specs.declared.machine.Choice.{Choice}
use Rattle.guest_model.specs.declared.machine.Choice.TheVariants as choices
use Rattle.guest_model.specs.declared.machine.Machine.{Machine}
use Rattle.guest_model.specs.declared.machine.Step.{Step}
use Rattle.guest_model.specs.Calls.{types_of}
use Rattle.guest_model.specs.Answering.{answer_fits, answered_well, given, returned_by, thrown_by, thrown_by_library}
use Rattle.guest_model.specs.Changes.{Change, World, returned, world_of}
use Rattle.guest_model.specs.Seeing.{EventsAreOfTheirThread, thread_of}
use Rattle.guest_model.specs.Stepping.{call_stepped, doing_stepped, is_on_null, stepped}
use Rattle.guest_model.specs.declared.fault.StepFault.{StepFault}
use Rattle.guest_model.specs.declared.fault.StepFault.TheVariants as faults
use Rattle.guest_threads.specs.Acts.{ActsIn, IsDone}
use Rattle.guest_step.specs.Turns.{doing_this}
use Rattle.guest_model.specs.Did.{Did}
use Rattle.guest_step.proofs.Alike.{with_threads}
use Rattle.guest_step.proofs.Putting.{did, has_place}

module _ (program : Program) (number : ℕ) (t : Thread) where
  abbrev out : Thread
  out = doing_this t doings.Running

  returned_apart : (world : World) (frames : List Frame) (value : Option Value) (event : Option Event)
      → returned program world out frames value event ≡ returned program world t frames value event
  returned_apart world [] value event = refl
  returned_apart world (caller ∷ below) value event = refl

  well_apart : (world : World) (method : ℕ) (o : Option Name) (gave : Option (World × Option Value))
      → option_map_or (thrown_by_library program world number out method) o (option_and_then (returned_by program number out method) gave)
      ≡ option_map_or (thrown_by_library program world number t method) o (option_and_then (returned_by program number t method) gave)
  well_apart world method (Some class) gave = refl
  well_apart world method None None = refl
  well_apart world method None (Some gave) = returned_apart gave.0 t.frames gave.1 _

  answered_apart : (world : World) (method : ℕ) (receiver : Option Value) (arguments : List Value) (answer : ApiAnswer) (listed : Option ListedMethod)
      → option_and_then (λ (l : ListedMethod). cond (answer_fits program world.heap (types_of l.id.desc).result receiver arguments answer) (answered_well program world number out method receiver arguments answer) None) listed
      ≡ option_and_then (λ (l : ListedMethod). cond (answer_fits program world.heap (types_of l.id.desc).result receiver arguments answer) (answered_well program world number t method receiver arguments answer) None) listed
  answered_apart world method receiver arguments answer None = refl
  answered_apart world method receiver arguments answer (Some l) =
      ap (λ (o : Option Change). cond (answer_fits program world.heap (types_of l.id.desc).result receiver arguments answer) o None)
      (well_apart world method (thrown_by answer) (given world receiver arguments answer))

  call_apart : (world : World) (method : ℕ) (receiver : Option Value) (arguments : List Value) (choice : Choice)
      → call_stepped program world number out method receiver arguments choice ≡ call_stepped program world number t method receiver arguments choice
  call_apart world method receiver arguments choices.Plain = refl
  call_apart world method receiver arguments (choices.Answer answer) =
      ap (λ (o : Option Change). cond (is_on_null receiver) None o) (answered_apart world method receiver arguments answer (slice_get program.listing.methods method))

doing_apart : (program : Program) (m : Machine) (number : ℕ) (t : Thread) (choice : Choice)
    → doing_stepped program m number (doing_this t doings.Running) t.doing choice ≡ doing_stepped program m number t t.doing choice
doing_apart program m number t choice = by t.doing refl where
  by : (doing : Doing) → t.doing ≡ doing → doing_stepped program m number (doing_this t doings.Running) doing choice ≡ doing_stepped program m number t doing choice
  by doings.Running is = ap (λ (x : Thread). doing_stepped program m number x doings.Running choice) (ap (doing_this t) (sym is))
  by (doings.InCall method receiver arguments) is = call_apart program number t (world_of m) method receiver arguments choice
  by doings.Ended is = refl

pub acts_as : (program : Program) (m new : Machine) (number : ℕ) (t apart left final : Thread) (doing : Doing) (choice : Choice) (result : Result (Option Event) StepFault)
    → apart ≡ doing_this t doings.Running → doing ≡ t.doing → ActsIn result m new apart left (doing_stepped program m number apart doing choice)
    → final ≡ (if is_err result then doing_this left doing else left) → ActsIn result m new t final (doing_stepped program m number t t.doing choice)
acts_as program m new number t apart left final doing choice result out_is doing_is acts final_is = by result acts final_is where
  made_is : doing_stepped program m number apart doing choice ≡ doing_stepped program m number t t.doing choice
  made_is =
      ap (λ (x : Thread). doing_stepped program m number x doing choice) out_is
      ∙ ap (λ (d : Doing). doing_stepped program m number (doing_this t doings.Running) d choice) doing_is ∙ doing_apart program m number t choice

  again : left ≡ apart → doing_this left doing ≡ t
  again e = ap (λ (x : Thread). doing_this x doing) (e ∙ out_is) ∙ ap (doing_this t) doing_is

  by : (r : Result (Option Event) StepFault) → ActsIn r m new apart left (doing_stepped program m number apart doing choice)
      → final ≡ (if is_err r then doing_this left doing else left) → ActsIn r m new t final (doing_stepped program m number t t.doing choice)
  by (Ok event) acts e =
      subst (λ (x : Thread). IsSomeAnd (doing_stepped program m number t t.doing choice) (λ (change : Change). IsDone change m new x event)) (sym e)
      (subst (λ (o : Option Change). IsSomeAnd o (λ (change : Change). IsDone change m new left event)) made_is acts)
  by (Err faults.NotEnabled) acts e = (sym made_is ∙ acts.0, acts.1, e ∙ again acts.2)
  by (Err faults.Memory) acts e = (acts.0, e ∙ again acts.1)

-- ---- the step

module _ (program : Program) (m : Machine) (step : Step) (t idle left : Thread) (new : Machine)
    (there : slice_get m.threads step.thread ≡ Some t) (goes : m.stopped ≡ None) (idles : idle.doing ≡ doings.Running)
    (threads : List Thread) (threads_are : threads ≡ slice_set m.threads step.thread idle) (result : Result (Option Event) StepFault)
    (acts : ActsIn result (with_threads m threads) new t left (doing_stepped program (with_threads m threads) step.thread t t.doing step.choice)) where
  acts_out : ActsIn result (with_threads m (slice_set m.threads step.thread idle)) new t left (doing_stepped program (with_threads m (slice_set m.threads step.thread idle)) step.thread t t.doing step.choice)
  acts_out =
      subst (λ (zs : List Thread). ActsIn result (with_threads m zs) new t left (doing_stepped program (with_threads m zs) step.thread t t.doing step.choice)) threads_are acts

  pub stands : step.thread < length new.threads
  stands = has_place program m step t idle left new there goes idles result acts_out

  pub did_step : (put : List Thread) → put ≡ slice_set new.threads step.thread left → Did result m (with_threads new put) (stepped program m step)
  did_step put is =
      subst (λ (zs : List Thread). Did result m (with_threads new zs) (stepped program m step)) (sym is) (did program m step t idle left new there goes idles result acts_out)

-- what the library saw of it is of the thread of the step
pub sees_own : EventsAreOfTheirThread → (program : Program) (m new : Machine) (step : Step) (result : Result (Option Event) StepFault)
    → Did result m new (stepped program m step) → IfOk result (λ seen. IfSome seen (λ event. thread_of event ≡ step.thread))
sees_own law program m new step (Ok None) did = tt
sees_own law program m new step (Ok (Some event)) did = law program m new step event did
sees_own law program m new step (Err fault) did = tt
