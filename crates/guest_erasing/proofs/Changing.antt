-- Threads that go on, throw or end change alike in both programs.
use Rattle.std.proofs.Common.{◌≡◌, ℕ, List, [], ◌∷◌, ◌++◌, length, Option, Some, None, refl, sym, subst}
use Rattle.std.specs.Prelude.{option_map, IfSome}
use Rattle.std.specs.List.{AllByRecursion}
use Rattle.std.specs.Option.{option_map_or, option_to_list}
use Rattle.api_listing.specs.declared.events.Event.{Event}
use Rattle.bytecode_model.specs.declared.program.Method.{Method}
use Rattle.bytecode_model.specs.declared.program.Program.{Program}
use Rattle.bytecode_model.specs.SearchOrder.{Name}
use Rattle.guest_heap.specs.declared.frame.Frame.{Frame}
use Rattle.guest_heap.specs.declared.object.Object.{Object}
use Rattle.guest_heap.specs.declared.thread.Thread.{Thread}
use Rattle.guest_heap.specs.declared.value.Value.{Value}
use Rattle.guest_heap.specs.declared.value.Value.TheVariants as values
use Rattle.guest_model.specs.Changes.{Change, World, ended_thread, ends_thread, goes, locks_of, throws, throws_new, with_event, with_monitors, with_object}
use Rattle.guest_model.specs.Finding.{Given}
use Rattle.guest_model.specs.Monitors.{all_given_up}
use Rattle.guest_model.specs.Parts.{running, thrown_thread}
use Rattle.guest_model.specs.Throwing.{bare_object, caught_in, locks_left, unwound}
use Rattle.guest_model.proofs.Options.{all_append}
use Rattle.guest_erasing.specs.Changing.{ChangeMirrors}
use Rattle.guest_erasing.specs.Laid.{IsClientName, TellAlike}
use Rattle.guest_erasing.specs.Mirrors.{AreBelow, AreFrames, HoldsClientValues, IsAtFront, IsClientValue, ThreadMirrors}
use Rattle.guest_erasing.specs.Places.{Sites}
use Rattle.guest_erasing.proofs.Alike.{Alike, alike_map}
use Rattle.guest_erasing.proofs.Handling.{locks_alike, unwound_alike}
use Rattle.guest_erasing.proofs.Worlds.{Goes, given_up_alike, held_goes, with_object_goes}

-- ---- locks are of the client

module _ (client : Program) where
  pub all_of_option : (o : Option Value) → IfSome o (IsClientValue client) → AllByRecursion (IsClientValue client) (option_to_list o)
  all_of_option None h = tt
  all_of_option (Some v) h = (h, tt)

  locks_or : (o : Option Frame) (locks : List Value) → AllByRecursion (IsClientValue client) locks
      → AllByRecursion (IsClientValue client) (option_map_or (λ (f : Frame). []) o locks)
  locks_or None locks all = all
  locks_or (Some f) locks all = tt

  pub locks_left_hold : (thrown : Value) (class : Name) (frames : List Frame) → AllByRecursion (HoldsClientValues client) frames
      → AllByRecursion (IsClientValue client) (locks_left client thrown class frames)
  locks_left_hold thrown class [] all = tt
  locks_left_hold thrown class (frame ∷ below) all =
      locks_or (caught_in client thrown class frame) (option_to_list frame.lock ++ locks_left client thrown class below)
      (all_append (IsClientValue client) (option_to_list frame.lock) (locks_left client thrown class below)
      (all_of_option frame.lock all.0.lock)
      (locks_left_hold thrown class below all.1))

  pub locks_hold : (frames : List Frame) → AllByRecursion (HoldsClientValues client) frames
      → AllByRecursion (IsClientValue client) (locks_of frames)
  locks_hold [] all = tt
  locks_hold (frame ∷ below) all =
      all_append (IsClientValue client) (option_to_list frame.lock) (locks_of below) (all_of_option frame.lock all.0.lock)
      (locks_hold below all.1)

module _ (sites_of : Method → Sites) (client woven : Program) where
  abbrev pub Front : Frame → Frame → Type 0
  Front = IsAtFront sites_of client woven

  abbrev pub Below : List Frame → List Frame → Type 0
  Below = AreBelow sites_of client woven

  abbrev pub Frames : List Frame → List Frame → Type 0
  Frames = AreFrames sites_of client woven Front

  pub same_locks : (frames others : List Frame) → Below frames others → locks_of others ≡ locks_of frames
  same_locks [] [] b = refl
  same_locks [] (other ∷ others) b = absurd b
  same_locks (frame ∷ below) [] b = absurd b
  same_locks (frame ∷ below) (other ∷ others) b = rw (b.0.mirrors.lock, same_locks below others b.1) refl

  -- ---- threads

  pub running_mirrors : (frames others : List Frame) (to_begin more : List Given) → more ≡ to_begin → Frames frames others
      → ThreadMirrors sites_of client woven (running frames to_begin) (running others more)
  running_mirrors frames others to_begin more same f = record { doing = refl; to_begin = same; frames = f }

  pub ended_mirrors : ThreadMirrors sites_of client woven ended_thread ended_thread
  ended_mirrors = record { doing = refl; to_begin = refl; frames = (refl, refl) }

  thrown_mirrors : (frames others : List Frame) (to_begin more : List Given) → more ≡ to_begin → Frames frames others
      → ThreadMirrors sites_of client woven (thrown_thread frames to_begin) (thrown_thread others more)
  thrown_mirrors [] [] to_begin more same f = ended_mirrors
  thrown_mirrors [] (other ∷ others) to_begin more same f = absurd f
  thrown_mirrors (frame ∷ below) [] to_begin more same f = absurd f
  thrown_mirrors (frame ∷ below) (other ∷ others) to_begin more same f =
      running_mirrors (frame ∷ below) (other ∷ others) to_begin more same f

  module _ (before : World) where
    abbrev pub Changed : Change → Change → Type 0
    Changed = ChangeMirrors sites_of client woven before

    abbrev pub Made : Option Change → Option Change → Type 0
    Made = Alike Changed

    pub event_mirrors : (change other : Change) (event : Option Event) → Changed change other
        → Changed (with_event change event) (with_event other event)
    event_mirrors change other event m = record {
      world = m.world;
      keeps = m.keeps;
      thread = m.thread;
      begins = m.begins;
      stops = m.stops;
      event = refl;
    }

    module _ (world other : World) (g : Goes client before world other) (thread more : Thread)
        (same : more.to_begin ≡ thread.to_begin) where
      pub goes_mirror : (frames others : List Frame) → Frames frames others → Changed (goes world thread frames) (goes other more others)
      goes_mirror frames others f = record {
        world = g.mirrors;
        keeps = g.keeps;
        thread = running_mirrors frames others thread.to_begin more.to_begin same f;
        begins = tt;
        stops = refl;
        event = refl;
      }

      -- the first frame goes on, in front of those that wait
      pub went_on : (below others : List Frame) → Below below others → (frame next : Option Frame) → Alike Front frame next
          → Made (option_map (λ (f : Frame). goes world thread (f ∷ below)) frame)
          (option_map (λ (f : Frame). goes other more (f ∷ others)) next)
      went_on below others b frame next a =
          alike_map Front Changed _ _ frame next a (λ f h e k at. goes_mirror (f ∷ below) (h ∷ others) (at, b))

      module _ (number : ℕ) (frames others : List Frame) (b : Below frames others)
          (holds : AllByRecursion (HoldsClientValues client) frames) where
        pub ends_mirror : Changed (ends_thread world number frames) (ends_thread other number others)
        ends_mirror =
            let given = held_goes client before world other g (all_given_up world.monitors number (locks_of frames))
            (all_given_up other.monitors number (locks_of frames))
            (given_up_alike client before world other g number (locks_of frames) (locks_hold client frames holds)) in
            let moved : Goes client before (with_monitors world (all_given_up world.monitors number (locks_of frames)))
            (with_monitors other (all_given_up other.monitors number (locks_of others))) =
            subst (λ (ls : List Value). Goes client before (with_monitors world (all_given_up world.monitors number (locks_of frames)))
            (with_monitors other (all_given_up other.monitors number ls)))
            (sym (same_locks frames others b)) given in
            record { world = moved.mirrors; keeps = moved.keeps; thread = ended_mirrors; begins = tt; stops = refl; event = refl }

module _ (sites_of : Method → Sites) (client woven : Program) (tell : TellAlike sites_of client woven) (before : World) where
  module _ (world other : World) (g : Goes client before world other) (thread more : Thread) (same : more.to_begin ≡ thread.to_begin)
      (number : ℕ) (frames others : List Frame) (b : AreBelow sites_of client woven frames others)
      (holds : AllByRecursion (HoldsClientValues client) frames) where
    pub throws_mirror : (thrown : Value) (class : Name) (event : Option Event) → IsClientName class
        → Changed sites_of client woven before (throws client world number thread frames thrown class event)
        (throws woven other number more others thrown class event)
    throws_mirror thrown class event own =
        let locks = locks_left client thrown class frames in
        let given = held_goes client before world other g (all_given_up world.monitors number locks)
        (all_given_up other.monitors number locks)
        (given_up_alike client before world other g number locks (locks_left_hold client thrown class frames holds)) in
        let moved : Goes client before (with_monitors world (all_given_up world.monitors number locks))
        (with_monitors other (all_given_up other.monitors number (locks_left woven thrown class others))) =
        subst (λ (ls : List Value). Goes client before (with_monitors world (all_given_up world.monitors number locks))
        (with_monitors other (all_given_up other.monitors number ls)))
        (sym (locks_alike sites_of client woven tell class own thrown frames others b holds)) given in
        record {
          world = moved.mirrors;
          keeps = moved.keeps;
          thread = thrown_mirrors sites_of client woven (unwound client thrown class frames)
              (unwound woven thrown class others) thread.to_begin more.to_begin same
              (unwound_alike sites_of client woven tell class own thrown frames others b holds);
          begins = tt;
          stops = refl;
          event = refl;
        }

  -- a new object of the class is thrown
  pub throws_new_mirrors : (world other : World) → Goes client before world other → (thread more : Thread) → more.to_begin ≡ thread.to_begin
      → (number : ℕ) (frames others : List Frame) → AreBelow sites_of client woven frames others
      → AllByRecursion (HoldsClientValues client) frames
      → (class : Name) (event : Option Event) → IsClientName class
      → Changed sites_of client woven before (throws_new client world number thread frames class event)
      (throws_new woven other number more others class event)
  throws_new_mirrors world other g thread more same number frames others b holds class event own =
      subst (λ (heap : List Object). Changed sites_of client woven before (throws_new client world number thread frames class event)
      (throws woven (with_object other (bare_object class)) number more others (values.Ref (length heap)) class event)) (sym g.mirrors.heap)
      (throws_mirror (with_object world (bare_object class)) (with_object other (bare_object class))
      (with_object_goes client before world other g (bare_object class))
      thread more same number frames others b holds (values.Ref (length world.heap)) class event own)
