-- The thread that acted, put back among the others.
use Rattle.std.proofs.Common.{◌≡◌, ℕ, zero, suc, ◌<◌, List, [], ◌∷◌, ◌++◌, length, Option, Some, None, Result, Ok, Err, refl, sym, ap, ◌∙◌, arith}
use Rattle.std.specs.Prelude.{IsSomeAnd, slice_get, slice_set, option_map}
use Rattle.std.specs.Option.{option_or, option_to_list}
use Rattle.std.proofs.lemmas.List.{append-nil, length-append, length-set, set-append_left}
use Rattle.std.proofs.lemmas.Option.{slice_get_within}
use Rattle.api_listing.specs.declared.events.Event.{Event}
use Rattle.bytecode_model.specs.declared.program.Program.{Program}
use Rattle.guest_heap.specs.declared.thread.Doing.TheVariants as doings
use Rattle.guest_heap.specs.declared.thread.Thread.{Thread}
use Rattle.guest_model.specs.declared.machine.Machine.{Machine}
use Rattle.guest_model.specs.declared.machine.Step.{Step}
use Rattle.guest_model.specs.Changes.{Change, applied}
use Rattle.guest_model.specs.Stepping.{changed, doing_stepped, stepped}
use Rattle.guest_model.specs.declared.fault.StepFault.{StepFault}
use Rattle.guest_model.specs.declared.fault.StepFault.TheVariants as faults
use Rattle.guest_threads.specs.Acts.{ActsIn, IsDone, with_begun}
use Rattle.guest_model.specs.Did.{Did}
use Rattle.guest_step.proofs.Alike.{doing_alike, with_threads}
use Rattle.guest_threads.proofs.Held.{set_same}

set_set : {X : Type 0} (xs : List X) (n : ℕ) (x y : X) → slice_set (slice_set xs n x) n y ≡ slice_set xs n y
set_set [] n x y = refl
set_set (z ∷ zs) zero x y = refl
set_set (z ∷ zs) (suc n) x y = ap (λ (ws : List _). z ∷ ws) (set_set zs n x y)

-- the threads with the one that acted in its place, and the one that begins after them
put_back : (threads : List Thread) (n : ℕ) (idle left : Thread) (begins : Option Thread) → n < length threads
    → slice_set (with_begun (slice_set threads n idle) begins) n left ≡ slice_set threads n left ++ option_to_list begins
put_back threads n idle left None lt = set_set threads n idle left ∙ sym (append-nil (slice_set threads n left))
put_back threads n idle left (Some begun) lt =
    set-append_left (slice_set threads n idle) (begun ∷ []) n left (omega (arith, lt, length-set threads n idle))
    ∙ ap (λ (zs : List Thread). zs ++ begun ∷ []) (set_set threads n idle left)

-- it still has a place
longer : (threads : List Thread) (n : ℕ) (idle : Thread) (begins : Option Thread) → n < length threads → n < length (with_begun (slice_set threads n idle) begins)
longer threads n idle None lt = omega (arith, lt, length-set threads n idle)
longer threads n idle (Some begun) lt = omega (arith, lt, length-set threads n idle, length-append (slice_set threads n idle) (begun ∷ []))

module _ (program : Program) (m : Machine) (step : Step) (t idle left : Thread) (new : Machine)
    (there : slice_get m.threads step.thread ≡ Some t) (goes : m.stopped ≡ None) (idles : idle.doing ≡ doings.Running) where
  abbrev taken_out : Machine
  taken_out = with_threads m (slice_set m.threads step.thread idle)

  abbrev final : Machine
  final = with_threads new (slice_set new.threads step.thread left)

  abbrev made : Option Change
  made = doing_stepped program taken_out step.thread t t.doing step.choice

  lt : step.thread < length m.threads
  lt = slice_get_within m.threads step.thread t there

  is_changed : changed program m step ≡ made
  is_changed = simp (goes, there) (sym (doing_alike program m step.thread t idle step.choice there idles))

  pub has_place : (result : Result (Option Event) StepFault) → ActsIn result taken_out new t left made → step.thread < length new.threads
  has_place (Ok event) acts = by made acts where
    by : (o : Option Change) → IsSomeAnd o (λ (change : Change). IsDone change taken_out new left event) → step.thread < length new.threads
    by None h = absurd h
    by (Some change) h = omega (arith, longer m.threads step.thread idle change.begins lt, ap length h.begins)
  has_place (Err faults.NotEnabled) acts = omega (arith, lt, length-set m.threads step.thread idle, ap (λ (x : Machine). length x.threads) acts.1)
  has_place (Err faults.Memory) acts = omega (arith, lt, length-set m.threads step.thread idle, ap (λ (x : Machine). length x.threads) acts.0)

  same_stop : (o : Option _) → option_or o m.stopped ≡ o
  same_stop None = goes
  same_stop (Some n) = refl

  restored : new ≡ taken_out → left ≡ t → final ≡ m
  restored same thread =
      ap (λ (x : Machine). with_threads x (slice_set x.threads step.thread left)) same
      ∙ ap (λ (zs : List Thread). with_threads m zs) (set_set m.threads step.thread idle left ∙ ap (slice_set m.threads step.thread) thread ∙ set_same m.threads step.thread t there)

  pub did : (result : Result (Option Event) StepFault) → ActsIn result taken_out new t left made → Did result m final (stepped program m step)
  did (Ok event) acts = by made refl acts where
    by : (o : Option Change) → made ≡ o → IsSomeAnd o (λ (change : Change). IsDone change taken_out new left event) → stepped program m step ≡ Some (final, event)
    by None is h = absurd h
    by (Some change) is h =
        ap (option_map (λ (c : Change). (applied step.thread m c, c.event))) (is_changed ∙ is)
        ∙ done where
          threads_are : slice_set m.threads step.thread change.thread ++ option_to_list change.begins ≡ slice_set new.threads step.thread left
          threads_are =
              ap (λ (x : Thread). slice_set m.threads step.thread x ++ option_to_list change.begins) (sym h.thread)
              ∙ sym (put_back m.threads step.thread idle left change.begins lt)
              ∙ ap (λ (zs : List Thread). slice_set zs step.thread left) (sym h.begins)

          stops_are : change.stops ≡ new.stopped
          stops_are = sym (h.stops ∙ same_stop change.stops)

          done : ◌≡◌ {A = Option (Machine × Option Event)} (Some (applied step.thread m change, change.event)) (Some (final, event))
          done = simp (threads_are, stops_are, h.event_is, sym h.world) refl
  did (Err faults.NotEnabled) acts =
      (ap (option_map (λ (c : Change). (applied step.thread m c, c.event))) (is_changed ∙ acts.0), restored acts.1 acts.2)
  did (Err faults.Memory) acts = restored acts.0 acts.1
