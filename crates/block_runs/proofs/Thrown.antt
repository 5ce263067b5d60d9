-- A call with a block that throws is lifted: the woven program goes through the block's handler, if it has one, and throws on.
use Rattle.std.proofs.Common.{◌≡◌, ◌≢◌, ◌∙◌, ◌<◌, ℕ, ◌+◌, Bool, true, false, cond, List, [], ◌∷◌, ◌++◌, length, map, take, Option, Some, None, refl, sym, ap, subst, append-nil, inl, inr, arith}
use Rattle.std.specs.Prelude.{filter, option_map, slice_get, slice_set}
use Rattle.std.specs.Option.{option_map_or, option_to_list}
use Rattle.std.proofs.lemmas.List.{take-set-le}
use Rattle.std.proofs.lemmas.Option.{slice_get_within}
use Rattle.api_listing.specs.declared.events.Event.{Event}
use Rattle.api_listing.specs.declared.events.Event.TheVariants as events
use Rattle.bytecode_model.specs.declared.program.Program.{Program}
use Rattle.bytecode_model.specs.SearchOrder.{Name}
use Rattle.cert_format.specs.declared.certificate.Mode.{Mode}
use Rattle.cert_format.specs.declared.certificate.Mode.TheVariants.{Release}
use Rattle.conspec_tree.specs.declared.types.Phase.TheVariants.{Exceptional}
use Rattle.conspec_automaton.specs.declared.policy.Clause.{Clause}
use Rattle.conspec_automaton.specs.declared.policy.Policy.{Policy}
use Rattle.conspec_automaton.specs.Next.{Values, moment, next_by}
use Rattle.conspec_automaton.specs.Range.{in_range}
use Rattle.conspec_automaton.proofs.Ranges.{next_keeps}
use Rattle.offset_patch.specs.declared.block.Block.{Block}
use Rattle.offset_patch.specs.declared.block.BlockInsn.{BlockInsn}
use Rattle.offset_patch.specs.declared.block.BlockInsn.TheVariants.{Call}
use Rattle.offset_patch.specs.Splicing.{call_place}
use Rattle.block_template.specs.Blocks.{block_with, bools_of, called, catches, clause_at, clauses_of, front, is_locked}
use Rattle.guest_heap.specs.declared.frame.Frame.{Frame}
use Rattle.guest_heap.specs.declared.object.Monitor.{Monitor}
use Rattle.guest_heap.specs.declared.object.Object.{Object}
use Rattle.guest_heap.specs.declared.thread.Doing.TheVariants as doings
use Rattle.guest_heap.specs.declared.thread.Thread.{Thread}
use Rattle.guest_heap.specs.declared.value.Value.{Value}
use Rattle.guest_heap.specs.declared.value.Value.TheVariants as values
use Rattle.guest_frames.specs.Stepping.{moved_to}
use Rattle.guest_model.specs.declared.machine.Choice.{Choice}
use Rattle.guest_model.specs.declared.machine.Machine.{Machine}
use Rattle.guest_model.specs.declared.machine.Step.{Step}
use Rattle.guest_model.specs.Changes.{Change, World, applied, throws, throws_new, with_monitors, with_object, world_of}
use Rattle.guest_model.specs.Kinds.{class_of_object, class_of_value}
use Rattle.guest_model.specs.Monitors.{all_given_up}
use Rattle.guest_model.specs.Parts.{running, thrown_thread}
use Rattle.guest_model.specs.Stepping.{changed}
use Rattle.guest_model.specs.Throwing.{bare_object, locks_left, unwound}
use Rattle.guest_model.proofs.Options.{all_get, some_is}
use Rattle.guest_erasing.specs.Erasing.{is_clients}
use Rattle.guest_erasing.specs.Laid.{IsClientName}
use Rattle.guest_erasing.specs.Lifting.{goes_out}
use Rattle.guest_erasing.specs.Mirrors.{AreBelow, FrameMirrors, IsAtCall, IsClientMachine, IsClientThread}
use Rattle.guest_erasing.specs.Steps.{AreRoomy}
use Rattle.guest_erasing.proofs.Calling.{world_goes}
use Rattle.guest_erasing.proofs.Changing.{locks_left_hold}
use Rattle.guest_erasing.proofs.Resting.{rests_out}
use Rattle.guest_erasing.proofs.Worlds.{Goes, given_up_alike, with_object_goes}
use Rattle.block_runs.specs.Joining.{IsAllowed, IsLifted, IsWovenBy, LockIs, MirrorsIn, callers, is_calling, sites, state_of}
use Rattle.block_runs.specs.Made.{plain_step}
use Rattle.block_runs.specs.Reaching.{InBlock, IsInBlock, ReachesThrow}
use Rattle.block_runs.specs.Spots.{Calls, Spot, Throws, block_insn_stepped}
use Rattle.block_runs.specs.Steps.{held_by, is_lock, locks_in}
use Rattle.block_runs.specs.Transparent.{Holds}
use Rattle.block_runs.proofs.Callers.{lock_ends, twice_not}
use Rattle.block_runs.proofs.Caught.{ThrowsAt, locks_same, own_catches, thread_alike}
use Rattle.block_runs.proofs.Joined.{joined, stepped_is}
use Rattle.block_runs.proofs.Laying.{call_there}
use Rattle.block_runs.proofs.Locals.{set_there}
use Rattle.block_runs.proofs.Made.{set_twice}
use Rattle.block_runs.proofs.Reaching.{throws_are_reached}
use Rattle.block_runs.proofs.Returns.{code, waits_up}
use Rattle.block_runs.proofs.Standing.{IsAtBlock, begin, call_inside, climbs_on, few_steps, goes_out_between, most_are, out_is, out_there, place, stand_is}
use Rattle.block_runs.proofs.Told.{clause_is_of}
use Rattle.block_runs.proofs.Whole.{no_handler}

last_there : {X : Type 0} (xs : List X) (x : X) → slice_get (xs ++ x ∷ []) (length xs) ≡ Some x
last_there [] x = refl
last_there (y ∷ xs) x = last_there xs x

after_some : (x : Bool) (n h : ℕ) → ◌≡◌ {A = Option ℕ} (cond x (Some (n + 1)) None) (Some h) → 0 < h
after_some true n h e =
    let same : n + 1 ≡ h = cc in
    omega (arith, same)
after_some false n h e = absurd cc

-- ---- a frame that waits at the call of a block

module _ (policy : Policy) (mode : Mode) (client woven : Program) (w : IsWovenBy policy mode client woven) (roomy : AreRoomy client)
    (now new : Values)
    (machine other : Machine) (m : MirrorsIn policy mode client woven now machine other) (ours : IsClientMachine client machine)
    (number : ℕ) (frame next : Frame) (below others : List Frame) (to_begin more_begin : List (ℕ × ℕ))
    (listed : ℕ) (receiver : Option Value) (arguments : List Value)
    (there : slice_get machine.threads number ≡ Some
    (record { frames = frame ∷ below; to_begin = to_begin; doing = doings.InCall listed receiver arguments }))
    (woven_there : slice_get other.threads number ≡ Some
    (record { frames = next ∷ others; to_begin = more_begin; doing = doings.InCall listed receiver arguments }))
    (same : more_begin ≡ to_begin)
    (at : IsAtCall (sites policy mode) client woven frame next) (bs : AreBelow (sites policy mode) client woven below others)
    (b : IsAtBlock policy mode client woven frame next at.mirrors listed)
    (class : Name) (own : IsClientName class) where
  abbrev mm : FrameMirrors (sites policy mode) client woven frame next
  mm = at.mirrors

  abbrev from : ℕ
  from = begin policy mode client woven frame next mm listed b

  abbrev to : ℕ
  to = place policy mode client woven frame next mm listed b

  abbrev its : Thread
  its = record { frames = frame ∷ below; to_begin = to_begin; doing = doings.InCall listed receiver arguments }

  abbrev more : Thread
  more = record { frames = next ∷ others; to_begin = more_begin; doing = doings.InCall listed receiver arguments }

  abbrev object : Object
  object = bare_object class

  -- what is thrown
  abbrev v : Value
  v = values.Ref (length machine.heap)

  abbrev event : Event
  event = events.Except number listed

  abbrev world : World
  world = with_object (world_of machine) object

  abbrev change : Change
  change = throws client world number its (frame ∷ below) v class (Some event)

  abbrev state : ℕ
  state = (state_of client).number

  thread_ours : IsClientThread client its
  thread_ours = all_get (IsClientThread client) machine.threads number its ours.threads there

  here : next.at ≡ from + to
  here = at.at ∙ stand_is policy mode client woven frame next mm listed b

  not_calling : (frames : List Frame) (begins : List (ℕ × ℕ)) → is_calling policy (thrown_thread frames begins).doing ≡ false
  not_calling [] begins = refl
  not_calling (f ∷ frames) begins = refl

  lock : (locks_in state other.monitors ≡ held_by state number (is_locked mode))
      × ((end : List Monitor) → end ≡ [] → LockIs state mode (callers policy 0 (slice_set machine.threads number change.thread)) end)
  lock = lock_ends policy state machine.threads number its change.thread there mode (locks_in state other.monitors)
      m.lock b.clauses (not_calling (unwound client v class (frame ∷ below)) to_begin)

  -- ---- where it is thrown on

  abbrev At : Frame → Type 0
  At = ThrowsAt policy mode client woven w frame next mm listed b class own

  module _ (from_world : World) (goes : Goes client from_world world from_world) (s : Values)
      (fields : slice_get from_world.statics (length client.classes) ≡ Some (map values.Int s))
      (free : locks_in state from_world.monitors ≡ []) (ranged : in_range policy s ≡ true) (f : Frame) (t : At f) (end : Machine)
      (heap : end.heap ≡ from_world.heap) (statics : end.statics ≡ from_world.statics)
      (monitors : end.monitors ≡ all_given_up from_world.monitors number (locks_left woven v class (f ∷ others)))
      (threads : end.threads ≡ slice_set other.threads number (thrown_thread (unwound woven v class (f ∷ others)) more_begin))
      (on : end.stopped ≡ None) where
    thrown_ends : MirrorsIn policy mode client woven s (applied number machine change) end
    thrown_ends =
        let locks : List Value = locks_left client v class (frame ∷ below) in
        let held = given_up_alike client from_world world from_world goes number locks
        (locks_left_hold client v class (frame ∷ below) thread_ours.frames) in
        let given : end.monitors ≡ all_given_up from_world.monitors number locks =
        monitors ∙ ap (all_given_up from_world.monitors number)
        (locks_same policy mode client woven w frame next mm listed b class own f t thread_ours.frames.0.room v below others bs
        thread_ours.frames.1) in
        let none : locks_in state end.monitors ≡ [] =
        ap (locks_in state) given ∙ sym (twice_not (is_lock state) (all_given_up from_world.monitors number locks)) ∙ held.states
        ∙ twice_not (is_lock state) from_world.monitors ∙ free in
        joined policy mode client woven machine other m.mirrors number s change end
        (record {
          its = thrown_thread (unwound woven v class (f ∷ others)) more_begin;
          begins = refl;
          heap = heap ∙ goes.mirrors.heap;
          statics = ap (take (length client.classes)) statics ∙ goes.mirrors.statics;
          classes = goes.mirrors.classes;
          monitors = ap (filter (is_clients client)) given ∙ held.theirs;
          threads = threads;
          thread =
              thread_alike policy mode client woven w frame next mm listed b class own f t thread_ours.frames.0.room v below others bs
              thread_ours.frames.1
              to_begin more_begin same;
          stopped = on;
          fields = ap (λ (st : List (List Value)). slice_get st (length client.classes)) statics ∙ fields;
          ranged = ranged;
          lock = lock.1 (locks_in state end.monitors) none;
        })

  -- ---- the step that throws

  module _ (choice : Choice)
      (thrown : changed woven other (record { thread = number; choice = choice }) ≡ Some
      (throws_new woven (world_of other) number more (next ∷ others) class (Some event)))
      (allowed : IsAllowed policy mode client now machine (record { thread = number; choice = choice })
      (applied number machine change, change.event) new) where
    abbrev step : Step
    step = record { thread = number; choice = choice }

    abbrev thrown_world : World
    thrown_world = with_object (world_of other) object

    thrown_same : changed woven other step ≡ Some (throws woven thrown_world number more (next ∷ others) v class (Some event))
    thrown_same =
        thrown ∙ ap (λ (h : List Object). Some
        (throws woven thrown_world number more (next ∷ others) (values.Ref (length h)) class (Some event))) m.mirrors.heap

    -- ---- a block without a handler

    module _ (none : b.made.handler ≡ None) where
      abbrev end_bare : Machine
      end_bare = applied number other (throws woven thrown_world number more (next ∷ others) v class (Some event))

      needs : (mode ≡ Release) × (clause_at policy listed Exceptional ≡ None)
      needs = no_handler policy mode listed mm.old.max_locals b.made b.is none

      stays : new ≡ now
      stays =
          some_is new now (sym allowed.accepts
          ∙ ap (λ (o : Option Clause). option_map_or (λ (c : Clause). next_by c (moment now event)) o (Some now))
          (clause_is_of policy listed Exceptional event refl refl ∙ needs.1))

      bare_goes : Goes client thrown_world world thrown_world
      bare_goes = record {
        mirrors = (with_object_goes client (world_of other) (world_of machine) (world_of other)
            (world_goes (sites policy mode) client woven machine other m.mirrors) object).mirrors;
        keeps = record { fields = refl; monitor = refl };
      }

      bare_ends : MirrorsIn policy mode client woven now (applied number machine change) end_bare
      bare_ends =
          thrown_ends thrown_world bare_goes now m.fields
          (lock.0 ∙ ap (λ (x : Mode). held_by state number (is_locked x)) needs.0) m.ranged next
          (record {
            k = to;
            less = call_inside policy mode client woven frame next mm listed b;
            free = inr none;
            in_class = refl;
            in_method = refl;
            at = here;
            lock = refl;
            size = refl;
            locals = mm.locals;
            wide = mm.wide;
          })
          end_bare refl refl refl
          (append-nil (slice_set other.threads number (thrown_thread (unwound woven v class (next ∷ others)) more_begin))) refl

      bare_lifted : IsLifted policy mode client woven other step (applied number machine change, change.event) new
      bare_lifted =
          subst (λ (s : Values). IsLifted policy mode client woven other step (applied number machine change, change.event) s) (sym stays)
          (record {
            after = end_bare;
            lifts = record {
              up = 0;
              there = other;
              climbs = (
                waits_up policy mode client woven w roomy now new machine other m ours number frame next below others to_begin more_begin
                    listed receiver arguments there woven_there same at bs b,
                refl,
              );
              few = omega arith;
              made = end_bare;
              steps = stepped_is woven other step (throws woven thrown_world number more (next ∷ others) v class (Some event)) thrown_same;
              out = 0;
              leaves = (rests_out (sites policy mode) client woven (applied number machine change) end_bare bare_ends.mirrors number, refl);
              few_out = omega arith;
            };
            mirrors = bare_ends;
          })

    -- ---- a block with a handler

    module _ (h : ℕ) (has : b.made.handler ≡ Some h) where
      handler_after : 0 < h
      handler_after =
          let made : Block = block_with mode (bools_of policy) mm.old.max_locals (clauses_of policy listed) in
          let is : made ≡ b.made = some_is made b.made (sym (ap (λ (x : Bool). cond x (Some made) None) b.clauses) ∙ b.is) in
          let before : ℕ = length (front mode (bools_of policy) mm.old.max_locals (clauses_of policy listed).before) in
          after_some (catches mode (clauses_of policy listed).exceptional)
          (before + length (called mode (bools_of policy) mm.old.max_locals before (clauses_of policy listed))) h
          (ap (λ (x : Block). x.handler) is ∙ has)

      abbrev caught : Frame
      caught = moved_to next (from + h) next.locals (v ∷ [])

      abbrev thrown_with : Option Frame → Change
      thrown_with o = record {
        world = with_monitors thrown_world
            (all_given_up other.monitors number
            (option_map_or (λ (f : Frame). []) o (option_to_list next.lock ++ locks_left woven v class others)));
        thread = thrown_thread (option_map_or (λ (f : Frame). f ∷ others) o (unwound woven v class others)) more_begin;
        begins = None;
        stops = None;
        event = Some event;
      }

      thrown_caught : changed woven other step ≡ Some (thrown_with (Some caught))
      thrown_caught =
          thrown_same ∙ ap (λ (o : Option Frame). Some (thrown_with o))
          (own_catches policy mode client woven w frame next mm listed b class own h v has here)

      abbrev mid : Machine
      mid = applied number other (thrown_with (Some caught))

      mid_threads : mid.threads ≡ slice_set other.threads number (running (caught ∷ others) more_begin)
      mid_threads = append-nil (slice_set other.threads number (running (caught ∷ others) more_begin))

      mid_there : slice_get mid.threads number ≡ Some (running (caught ∷ others) more_begin)
      mid_there =
          ap (λ (ts : List Thread). slice_get ts number) mid_threads
          ∙ set_there other.threads number (running (caught ∷ others) more_begin) (slice_get_within other.threads number more woven_there)

      abbrev in_block : InBlock
      in_block = record {
        program = woven;
        state = state_of client;
        policy = policy;
        mode = mode;
        method = listed;
        base = mm.old.max_locals;
        made = b.made;
        begin = from;
        number = number;
        frame = caught;
        below = others;
        to_begin = more_begin;
        machine = mid;
      }

      abbrev spot : Spot
      spot = record {
        stack = record { items = v ∷ []; size = next.stack.size };
        locals = next.locals;
        fields = map values.Int now;
        locked = is_locked mode;
      }

      stands : IsInBlock in_block h spot
      stands = record {
        known = w.state;
        sound = w.sound;
        is_block = b.is;
        code = code policy mode client woven w roomy now new machine other m ours number frame next below others to_begin more_begin
            listed receiver arguments there woven_there same at bs b;
        stands = record {
          thread = mid_there;
          goes_on = refl;
          stands = record { place = refl; stack = refl; locals = refl; fields = m.fields; lock = lock.0 };
        };
      }

      holds : Holds mm.old.max_locals 0 now (is_locked mode) spot
      holds = record {
        fields = refl;
        lock = refl;
        locals = omega (arith, mm.wide, mm.laid.locals);
        room = omega (arith, b.put.stack, mm.room);
      }

      t : ReachesThrow in_block h spot new v
      t =
          throws_are_reached in_block h spot stands has event now new
          (record { method_is = refl; phase_is = refl; ranged = m.ranged }) v holds refl refl allowed.accepts

      abbrev last : Machine
      last = t.reaches.end

      abbrev came : Frame
      came = moved_to caught (from + t.place) t.reaches.after.locals t.reaches.after.stack.items

      abbrev change_on : Change
      change_on = throws woven (world_of last) number (running (came ∷ others) more_begin) (came ∷ others) v class None

      classed : class_of_value last.heap v ≡ Some class
      classed =
          ap (λ (os : List Object). class_of_value os v) t.reaches.come.heap
          ∙ ap (λ (os : List Object). option_map class_of_object (slice_get (other.heap ++ object ∷ []) (length os))) (sym m.mirrors.heap)
          ∙ ap (option_map class_of_object) (last_there other.heap object)

      throws_on : changed woven last (plain_step number) ≡ Some change_on
      throws_on =
          t.throws_on
          ∙ ap (option_map (λ (c : Name). throws woven (world_of last) number (running (came ∷ others) more_begin)
          (came ∷ others) v c None)) classed

      abbrev end : Machine
      end = applied number last change_on

      -- it is not thrown at the call
      calls_never : (insn : BlockInsn) → slice_get b.made.insns (call_place b.made.insns) ≡ Some insn
          → block_insn_stepped state (call_place b.made.insns + 1) t.reaches.after insn ≡ Throws v → ⊥
      calls_never insn is throwing =
          let same_insn : insn ≡ Call = some_is insn Call (sym is ∙ call_there b.made.insns b.is_block.once) in
          let e : Calls ≡ Throws v =
          ap (block_insn_stepped state (call_place b.made.insns + 1) t.reaches.after) (sym same_insn) ∙ throwing in cc

      elsewhere : t.place ≢ call_place b.made.insns
      elsewhere e =
          calls_never t.insn (ap (slice_get b.made.insns) (sym e) ∙ t.there)
          (ap (λ (n : ℕ). block_insn_stepped state (n + 1) t.reaches.after t.insn) (sym e) ∙ t.thrown)

      inside : t.place < length b.made.insns
      inside = slice_get_within b.made.insns t.place t.insn t.there

      goes_on : Goes client (world_of last) world (world_of last)
      goes_on = record {
        mirrors = record {
          heap = t.reaches.come.heap ∙ ap (λ (os : List Object). os ++ object ∷ []) m.mirrors.heap;
          statics = ap (take (length client.classes)) t.reaches.come.statics
              ∙ take-set-le (length client.classes) other.statics (length client.classes) t.reaches.after.fields (omega arith)
              ∙ m.mirrors.statics;
          classes = m.mirrors.classes;
          monitors = t.reaches.come.others ∙ m.mirrors.monitors;
        };
        keeps = record { fields = refl; monitor = refl };
      }

      last_there_is : slice_get last.threads number ≡ Some (running (came ∷ others) more_begin)
      last_there_is =
          ap (λ (ts : List Thread). slice_get ts number) t.reaches.come.threads
          ∙ set_there mid.threads number (running (came ∷ others) more_begin)
          (slice_get_within mid.threads number (running (caught ∷ others) more_begin) mid_there)

      ends : MirrorsIn policy mode client woven new (applied number machine change) end
      ends =
          thrown_ends (world_of last) goes_on new
          (ap (λ (st : List (List Value)). slice_get st (length client.classes)) t.reaches.come.statics
          ∙ set_there other.statics (length client.classes) t.reaches.after.fields
          (slice_get_within other.statics (length client.classes) (map values.Int now) m.fields)
          ∙ ap Some t.reaches.is.fields)
          (t.reaches.come.lock ∙ ap (held_by state number) t.reaches.is.lock)
          (next_keeps policy w.sound now new event m.ranged allowed.accepts) came
          (record {
            k = t.place;
            less = inside;
            free = inl elsewhere;
            in_class = refl;
            in_method = refl;
            at = refl;
            lock = refl;
            size = refl;
            locals = t.reaches.is.locals ∙ mm.locals;
            wide = t.reaches.is.count ∙ mm.wide;
          })
          end refl refl refl
          (append-nil (slice_set last.threads number change_on.thread)
          ∙ ap (λ (ts : List Thread). slice_set ts number change_on.thread) t.reaches.come.threads
          ∙ set_twice mid.threads number (running (came ∷ others) more_begin) change_on.thread
          ∙ ap (λ (ts : List Thread). slice_set ts number change_on.thread) mid_threads
          ∙ set_twice other.threads number (running (caught ∷ others) more_begin) change_on.thread) refl

      handled_lifted : IsLifted policy mode client woven other step (applied number machine change, change.event) new
      handled_lifted =
          let most = most_are policy mode client woven frame next mm listed b number mid caught others more_begin mid_there refl refl in
          let few = few_steps policy mode client woven frame next mm listed b in
          record {
            after = end;
            lifts = record {
              up = 0;
              there = other;
              climbs = (
                waits_up policy mode client woven w roomy now new machine other m ours number frame next below others to_begin more_begin
                    listed receiver arguments there woven_there same at bs b,
                refl,
              );
              few = omega arith;
              made = mid;
              steps = stepped_is woven other step (thrown_with (Some caught)) thrown_caught;
              out = t.reaches.count + 1;
              leaves =
                  climbs_on woven (goes_out (sites policy mode) client woven) number caught.class caught.method (from + h) (from + t.place)
                  (λ x between. goes_out_between policy mode client woven frame next mm listed b number h t.place x handler_after
                  (omega (arith, inside)) between)
                  t.reaches.count 1 (t.reaches.count + 1) mid last end refl t.reaches.steps (
                    out_is policy mode client woven frame next mm listed b number last came others more_begin last_there_is refl refl
                        ∙ out_there policy mode client woven frame next mm listed b t.place
                        (omega (arith, handler_after, t.reaches.few)) inside,
                    (
                      end,
                      (
                        stepped_is woven last (plain_step number) change_on throws_on,
                        (rests_out (sites policy mode) client woven (applied number machine change) end ends.mirrors number, refl),
                      ),
                    ),
                  );
              few_out = omega (arith, t.reaches.few, inside, few, most, handler_after);
            };
            mirrors = ends;
          }

    -- The step of a thread that waits, and to which the library throws.
    pub throw_lifted : IsLifted policy mode client woven other step (applied number machine change, change.event) new
    throw_lifted = by b.made.handler refl
      where
        by : (o : Option ℕ) → b.made.handler ≡ o
            → IsLifted policy mode client woven other step (applied number machine change, change.event) new
        by None e = bare_lifted e
        by (Some h) e = handled_lifted h e
