-- The law: a step of the client at an instruction without a block is a step of the woven program.
use Rattle.std.proofs.Common.{◌≡◌, ℕ, zero, suc, Bool, true, false, List, [], ◌∷◌, ◌++◌, Option, Some, None, refl, sym, ap, ◌∙◌, subst}
use Rattle.std.specs.Prelude.{is_some, not, slice_get, slice_set, option_map, option_and_then}
use Rattle.std.specs.List.{AllByRecursion}
use Rattle.std.specs.Option.{option_to_list}
use Rattle.api_listing.specs.declared.events.Event.{Event}
use Rattle.bytecode_model.specs.declared.program.Method.{Method}
use Rattle.bytecode_model.specs.declared.program.Program.{Program}
use Rattle.guest_heap.specs.declared.frame.Frame.{Frame}
use Rattle.guest_heap.specs.declared.thread.Doing.{Doing}
use Rattle.guest_heap.specs.declared.thread.Doing.TheVariants as doings
use Rattle.guest_heap.specs.declared.thread.Thread.{Thread}
use Rattle.guest_model.specs.declared.machine.Choice.{Choice}
use Rattle.guest_model.specs.declared.machine.Choice.TheVariants as choices
use Rattle.guest_model.specs.declared.machine.Machine.{Machine}
use Rattle.guest_model.specs.declared.machine.Step.{Step}
use Rattle.guest_model.specs.Changes.{Change, applied, world_of}
use Rattle.guest_model.specs.Places.{method_at}
use Rattle.guest_model.specs.Stepping.{changed, doing_stepped, frames_stepped, stepped}
use Rattle.guest_model.proofs.Options.{all_get, map_of, some_is}
use Rattle.guest_erasing.specs.Changing.{BeginAlike}
use Rattle.guest_erasing.specs.Laid.{TellAlike}
use Rattle.guest_erasing.specs.Mirrors.{AreAlike, AreBelow, AreFrames, FramesMirror, HoldsClientValues, IsAtCall, IsAtFront, IsClientMachine, IsClientThread, Mirrors, PassesClientValues, ThreadMirrors}
use Rattle.guest_erasing.specs.Places.{Sites, has_block}
use Rattle.guest_erasing.specs.Steps.{AreRoomy, ClientStepsAreAlike, IsAlone, IsMadeAlike, is_alone}
use Rattle.guest_erasing.proofs.Alike.{alike_at, alike_none, like_if}
use Rattle.guest_erasing.proofs.Answering.{call_alike}
use Rattle.guest_erasing.proofs.Calling.{are_clients, world_goes}
use Rattle.guest_erasing.proofs.Changing.{Changed, Made}
use Rattle.guest_erasing.proofs.Framing.{front_below}
use Rattle.guest_erasing.proofs.Stepping.{frames_alike}

-- ---- lists of which the items belong together

module _ {X Y : Type 0} (Belong : X → Y → Type 0) where
  pub got_alike : (xs : List X) (ys : List Y) (i : ℕ) (x : X) → AreAlike Belong xs ys → slice_get xs i ≡ Some x
      → (y : Y) × (slice_get ys i ≡ Some y) × Belong x y
  got_alike [] [] i x all e = absurd cc
  got_alike [] (z ∷ ys) i x all e = absurd all
  got_alike (w ∷ xs) [] i x all e = absurd all
  got_alike (w ∷ xs) (z ∷ ys) zero x all e = (z, refl, subst (λ (v : X). Belong v z) (some_is w x e) all.0)
  got_alike (w ∷ xs) (z ∷ ys) (suc i) x all e = got_alike xs ys i x all.1 e

  pub set_alike : (xs : List X) (ys : List Y) (i : ℕ) (x : X) (y : Y) → AreAlike Belong xs ys → Belong x y
      → AreAlike Belong (slice_set xs i x) (slice_set ys i y)
  set_alike [] [] i x y all b = tt
  set_alike [] (z ∷ ys) i x y all b = absurd all
  set_alike (w ∷ xs) [] i x y all b = absurd all
  set_alike (w ∷ xs) (z ∷ ys) zero x y all b = (b, all.1)
  set_alike (w ∷ xs) (z ∷ ys) (suc i) x y all b = (all.0, set_alike xs ys i x y all.1 b)

  pub append_alike : (xs vs : List X) (ys ws : List Y) → AreAlike Belong xs ys → AreAlike Belong vs ws → AreAlike Belong (xs ++ vs) (ys ++ ws)
  append_alike [] vs [] ws all b = b
  append_alike [] vs (z ∷ ys) ws all b = absurd all
  append_alike (w ∷ xs) vs [] ws all b = absurd all
  append_alike (w ∷ xs) vs (z ∷ ys) ws all b = (all.0, append_alike xs vs ys ws all.1 b)

module _ (sites_of : Method → Sites) (client woven : Program) where
  begun_alike : (o p : Option Thread) → BeginAlike sites_of client woven o p
      → AreAlike (ThreadMirrors sites_of client woven) (option_to_list o) (option_to_list p)
  begun_alike None None b = tt
  begun_alike None (Some u) b = absurd b
  begun_alike (Some t) None b = absurd b
  begun_alike (Some t) (Some u) b = (b, tt)

  -- ---- a frame at an instruction without a block

  pub lone : (frame : Frame) (old : Method) → method_at client frame.class frame.method ≡ Some old → is_alone sites_of client frame ≡ true
      → has_block (sites_of old) frame.at ≡ false
  lone frame old there e = by (has_block (sites_of old) frame.at) (rw there at e) where
    by : (b : Bool) → not b ≡ true → b ≡ false
    by true h = absurd cc
    by false h = refl

  running_below : (frames others : List Frame) (frame : Frame)
      → AreFrames sites_of client woven (IsAtFront sites_of client woven) frames others
      → slice_get frames 0 ≡ Some frame → is_alone sites_of client frame ≡ true → AreBelow sites_of client woven frames others
  running_below [] [] frame f e alone = tt
  running_below [] (other ∷ others) frame f e alone = absurd f
  running_below (top ∷ below) [] frame f e alone = absurd f
  running_below (top ∷ below) (other ∷ others) frame f e alone =
      let own : is_alone sites_of client top ≡ true = ap (is_alone sites_of client) (some_is top frame e) ∙ alone in
      (front_below sites_of client woven top other f.0 (lone top f.0.mirrors.old f.0.mirrors.there own), f.1)

  calling_below : (frames others : List Frame) (frame : Frame)
      → AreFrames sites_of client woven (IsAtCall sites_of client woven) frames others
      → slice_get frames 0 ≡ Some frame → is_alone sites_of client frame ≡ true → AreBelow sites_of client woven frames others
  calling_below [] [] frame f e alone = tt
  calling_below [] (other ∷ others) frame f e alone = absurd f
  calling_below (top ∷ below) [] frame f e alone = absurd f
  calling_below (top ∷ below) (other ∷ others) frame f e alone =
      let own : is_alone sites_of client top ≡ true = ap (is_alone sites_of client) (some_is top frame e) ∙ alone in
      (record { mirrors = f.0.mirrors; at = f.0.at; alone = lone top f.0.mirrors.old f.0.mirrors.there own }, f.1)

module _ (sites_of : Method → Sites) (client woven : Program) (tell : TellAlike sites_of client woven) (roomy : AreRoomy client)
    (machine other : Machine) (m : Mirrors sites_of client woven machine other) (ours : IsClientMachine client machine) where
  abbrev Moves : Change → Change → Type 0
  Moves = Changed sites_of client woven (world_of other)

  abbrev Does : Option Change → Option Change → Type 0
  Does = Made sites_of client woven (world_of other)

  -- ---- a thread

  module _ (number : ℕ) (thread more : Thread) (mirrors : ThreadMirrors sites_of client woven thread more)
      (own : IsClientThread client thread)
      (frame : Frame) (top : slice_get thread.frames 0 ≡ Some frame) (alone : is_alone sites_of client frame ≡ true) where
    frames_step : (frames others : List Frame) → AreBelow sites_of client woven frames others
        → AllByRecursion (HoldsClientValues client) frames
        → Does (frames_stepped client machine number thread frames) (frames_stepped woven other number more others)
    frames_step [] [] b holds = alike_none Moves None
    frames_step [] (o ∷ others) b holds = absurd b
    frames_step (f ∷ below) [] b holds = absurd b
    frames_step (f ∷ below) (o ∷ others) b holds =
        frames_alike sites_of client woven tell roomy machine other m ours number thread more mirrors.to_begin own.begins f o b.0 below
        others b.1 holds.0 holds.1

    does_alike : (doing : Doing) (choice : Choice) → FramesMirror sites_of client woven doing thread.frames more.frames
        → PassesClientValues client doing
        → Does (doing_stepped client machine number thread doing choice) (doing_stepped woven other number more doing choice)
    does_alike doings.Running choices.Plain frames passes =
        frames_step thread.frames more.frames
        (running_below sites_of client woven thread.frames more.frames frame frames top alone) own.frames
    does_alike doings.Running (choices.Answer answer) frames passes = alike_none Moves None
    does_alike (doings.InCall method receiver arguments) choice frames passes =
        call_alike sites_of client woven tell roomy (world_of other) (world_of machine) (world_of other)
        (world_goes sites_of client woven machine other m)
        (are_clients client machine.heap ours.objects) number thread more mirrors.to_begin
        (calling_below sites_of client woven thread.frames more.frames frame frames top alone) own.begins own.frames method receiver
        arguments passes.0 passes.1 choice
    does_alike doings.Ended choice frames passes = alike_none Moves None

    thread_alike : (choice : Choice)
        → Does (doing_stepped client machine number thread thread.doing choice) (doing_stepped woven other number more more.doing choice)
    thread_alike choice =
        subst (λ (doing : Doing). Does (doing_stepped client machine number thread thread.doing choice)
        (doing_stepped woven other number more doing choice)) (sym mirrors.doing)
        (does_alike thread.doing choice mirrors.frames own.passes)

  -- ---- the program

  changed_alike : (step : Step) → IsAlone sites_of client machine step → Does (changed client machine step) (changed woven other step)
  changed_alike step alone =
      like_if Moves (is_some machine.stopped) (is_some other.stopped) _ _ _ _ (ap is_some m.stopped) (λ e. alike_none Moves None)
      (λ e.
      let u = got_alike (ThreadMirrors sites_of client woven) machine.threads other.threads step.thread alone.thread m.threads
      alone.there in
      subst (λ (t : Option Thread). Does
      (option_and_then (λ (thread : Thread). doing_stepped client machine step.thread thread thread.doing step.choice) t)
      (option_and_then (λ (thread : Thread). doing_stepped woven other step.thread thread thread.doing step.choice)
      (slice_get other.threads step.thread))) (sym alone.there)
      (subst (λ (t : Option Thread). Does (doing_stepped client machine step.thread alone.thread alone.thread.doing step.choice)
      (option_and_then (λ (thread : Thread). doing_stepped woven other step.thread thread thread.doing step.choice) t)) (sym u.1)
      (thread_alike step.thread alone.thread u.0 u.2
      (all_get (IsClientThread client) machine.threads step.thread alone.thread ours.threads alone.there)
      alone.frame alone.top alone.alone step.choice)))

  -- the machines mirror each other again once alike changes are applied
  applied_mirror : (number : ℕ) (change new : Change) → Moves change new
      → Mirrors sites_of client woven (applied number machine change) (applied number other new)
  applied_mirror number change new made = record {
    heap = made.world.heap;
    statics = made.world.statics;
    classes = made.world.classes;
    monitors = made.world.monitors;
    threads =
        append_alike (ThreadMirrors sites_of client woven) _ (option_to_list change.begins) _ (option_to_list new.begins)
        (set_alike (ThreadMirrors sites_of client woven) machine.threads other.threads number change.thread new.thread m.threads
        made.thread)
        (begun_alike sites_of client woven change.begins new.begins made.begins);
    stopped = made.stops;
  }

  step_alike : (step : Step) (made : Machine × Option Event) → IsAlone sites_of client machine step
      → stepped client machine step ≡ Some made
      → IsMadeAlike sites_of client woven other step made
  step_alike step made alone e =
      let its = map_of (λ (change : Change). (applied step.thread machine change, change.event)) (changed client machine step) made e in
      let new = alike_at Moves (changed client machine step) (changed woven other step) its.0 (changed_alike step alone) its.1 in
      let machine_is : applied step.thread machine its.0 ≡ made.0 = ap (λ (p : Machine × Option Event). p.0) its.2 in
      let event_is : its.0.event ≡ made.1 = ap (λ (p : Machine × Option Event). p.1) its.2 in
      record {
        after = applied step.thread other new.0;
        steps =
            ap (option_map (λ (change : Change). (applied step.thread other change, change.event))) new.1
            ∙ ap (λ (event : Option Event). Some (applied step.thread other new.0, event)) (new.2.event ∙ event_is);
        mirrors = subst (λ (after : Machine). Mirrors sites_of client woven after (applied step.thread other new.0)) machine_is
            (applied_mirror step.thread its.0 new.0 new.2);
        keeps = record { fields = new.2.keeps.fields; monitor = new.2.keeps.monitor };
      }

pub client_steps_alike : ClientStepsAreAlike
client_steps_alike sites_of client woven tell roomy machine other m ours step made alone e =
    step_alike sites_of client woven tell roomy machine other m ours step made alone e
