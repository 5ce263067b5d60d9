-- A call with a block is lifted: the woven program goes up to it, with the lock in mode hold, and makes it.
use Rattle.std.proofs.Common.{◌≡◌, ◌∙◌, ◌≤◌, ℕ, ◌+◌, false, List, [], ◌∷◌, length, map, take, Option, Some, None, refl, sym, ap, subst, append-nil, arith}
use Rattle.std.specs.Prelude.{IfSome, option_map, option_and_then, slice_get, slice_set}
use Rattle.std.specs.Option.{option_map_or}
use Rattle.std.proofs.lemmas.List.{take-set-le}
use Rattle.std.proofs.lemmas.Option.{slice_get_within}
use Rattle.api_listing.specs.declared.events.Event.{Event}
use Rattle.api_listing.specs.declared.events.Event.TheVariants as events
use Rattle.api_listing.specs.declared.types.Listing.{Listing}
use Rattle.api_listing.specs.declared.types.ListedMethod.{ListedMethod}
use Rattle.insn_codec.specs.declared.insn.Insn.{Insn}
use Rattle.insn_codec.specs.declared.shape.Heap.TheVariants as heap
use Rattle.insn_codec.specs.Shapes.{shape_of}
use Rattle.bytecode_model.specs.declared.program.Method.{Method}
use Rattle.bytecode_model.specs.declared.program.Program.{Program}
use Rattle.bytecode_model.specs.declared.program.Target.{Target}
use Rattle.bytecode_model.specs.declared.program.Target.TheVariants as target
use Rattle.bytecode_model.specs.SearchOrder.{Name}
use Rattle.cert_format.specs.declared.certificate.Mode.{Mode}
use Rattle.conspec_tree.specs.declared.types.Phase.TheVariants.{Before}
use Rattle.conspec_automaton.specs.declared.policy.Policy.{Policy}
use Rattle.conspec_automaton.specs.Next.{Values}
use Rattle.conspec_automaton.proofs.Ranges.{next_keeps}
use Rattle.offset_patch.specs.Splicing.{aimed, call_place, fronts_of}
use Rattle.block_template.specs.Blocks.{clause_at, is_locked, locals_used}
use Rattle.guest_heap.specs.declared.frame.Frame.{Frame}
use Rattle.guest_heap.specs.Stack.{Operands}
use Rattle.guest_heap.specs.declared.thread.Thread.{Thread}
use Rattle.guest_heap.specs.declared.value.Value.{Value}
use Rattle.guest_heap.specs.declared.value.Value.TheVariants as values
use Rattle.guest_heap.specs.declared.object.Monitor.{Monitor}
use Rattle.guest_heap.specs.declared.object.Object.{Object}
use Rattle.guest_frames.specs.Stepping.{moved_to}
use Rattle.guest_model.specs.declared.machine.Machine.{Machine}
use Rattle.guest_model.specs.Calling.{calls_library, desc_named, is_static_call}
use Rattle.guest_model.specs.Calls.{Taken, arity, taken}
use Rattle.guest_model.specs.Changes.{Change, applied, world_of}
use Rattle.guest_model.specs.Parts.{running}
use Rattle.guest_model.specs.Places.{insn_at, insn_in, method_at}
use Rattle.guest_model.specs.Seen.{values_shown}
use Rattle.guest_model.specs.Stepping.{changed, heap_in, stepped}
use Rattle.guest_model.proofs.Options.{all_get, map_of}
use Rattle.guest_erasing.specs.Mirrors.{AreBelow, FrameMirrors, IsAtFront, IsClientThread}
use Rattle.guest_erasing.specs.Places.{stand}
use Rattle.guest_erasing.specs.Lifting.{goes_up}
use Rattle.guest_erasing.proofs.Aiming.{heap_aimed}
use Rattle.guest_erasing.proofs.Calling.{are_clients}
use Rattle.guest_erasing.proofs.Framing.{moved_mirrors}
use Rattle.guest_erasing.proofs.Passing.{all_shown_alike, taken_passes}
use Rattle.guest_erasing.proofs.Resting.{rests_out}
use Rattle.block_runs.specs.Joining.{IsAllowed, IsLifted, IsWovenBy, LockIs, MirrorsIn, callers, passed_by, passed_in, sites, state_of}
use Rattle.block_runs.specs.Made.{IsCodeOf, plain_step}
use Rattle.block_runs.specs.Passed.{AreOfKinds, ArePassed}
use Rattle.block_runs.specs.Reaching.{InBlock, IsInBlock, Reaches}
use Rattle.block_runs.specs.Spots.{Spot}
use Rattle.block_runs.specs.Steps.{held_by, locks_in}
use Rattle.block_runs.specs.Transparent.{Holds}
use Rattle.block_runs.proofs.Callers.{lock_begins}
use Rattle.block_runs.proofs.Joined.{call_made, call_steps, changed_is, joined, not_stopped, passing, stepped_is}
use Rattle.block_runs.proofs.Locals.{set_there}
use Rattle.block_runs.proofs.Made.{set_twice}
use Rattle.block_runs.proofs.Passing.{if_some_on, passed_so}
use Rattle.block_runs.proofs.Reaching.{calls_are_reached}
use Rattle.block_runs.proofs.Standing.{IsAtBlock, begin, call_inside, climbs_on, few_steps, goes_up_between, most_are, place, stand_is, up_ends, up_is}

-- ---- a frame at the front of a block

module _ (policy : Policy) (mode : Mode) (client woven : Program) (w : IsWovenBy policy mode client woven) (now new : Values)
    (machine other : Machine)
    (m : MirrorsIn policy mode client woven now machine other) (number : ℕ) (frame next : Frame) (below others : List Frame)
    (to_begin more_begin : List (ℕ × ℕ))
    (there : slice_get machine.threads number ≡ Some (running (frame ∷ below) to_begin))
    (woven_there : slice_get other.threads number ≡ Some (running (next ∷ others) more_begin)) (same : more_begin ≡ to_begin)
    (at : IsAtFront (sites policy mode) client woven frame next) (bs : AreBelow (sites policy mode) client woven below others)
    (listed : ℕ) (b : IsAtBlock policy mode client woven frame next at.mirrors listed) where
  abbrev mm : FrameMirrors (sites policy mode) client woven frame next
  mm = at.mirrors

  abbrev from : ℕ
  from = begin policy mode client woven frame next mm listed b

  abbrev to : ℕ
  to = place policy mode client woven frame next mm listed b

  abbrev its : Thread
  its = running (frame ∷ below) to_begin

  abbrev in_block : InBlock
  in_block = record {
    program = woven;
    state = state_of client;
    policy = policy;
    mode = mode;
    method = listed;
    base = mm.old.max_locals;
    made = b.made;
    begin = from;
    number = number;
    frame = next;
    below = others;
    to_begin = more_begin;
    machine = other;
  }

  abbrev spot : Spot
  spot = record { stack = next.stack; locals = next.locals; fields = map values.Int now; locked = false }

  code : IsCodeOf woven (state_of client) next.class next.method from b.made.insns
  code =
      subst (λ (c : ℕ). IsCodeOf woven (state_of client) c next.method from b.made.insns) (sym mm.class)
      (subst (λ (n : ℕ). IsCodeOf woven (state_of client) frame.class n from b.made.insns) (sym mm.method) b.put.code)

  stands : other.stopped ≡ None → locks_in (state_of client).number other.monitors ≡ [] → IsInBlock in_block 0 spot
  stands on free =
      let here : from ≡ from + 0 = omega arith in
      record {
        known = w.state;
        sound = w.sound;
        is_block = b.is;
        code = code;
        stands = record {
          thread = woven_there;
          goes_on = on;
          stands = record { place = at.at ∙ here; stack = refl; locals = refl; fields = m.fields; lock = free };
        };
      }

  holds : length frame.stack.items ≤ frame.stack.size → Holds mm.old.max_locals (locals_used policy listed) now false spot
  holds fits = record {
    fields = refl;
    lock = refl;
    locals = omega (arith, b.put.locals, mm.wide);
    room = omega (arith, b.put.stack, mm.size, mm.room, fits, ap length mm.items);
  }

  -- ---- the call in the woven program

  woven_insn : (g : Frame) → g.class ≡ next.class → g.method ≡ next.method → g.at ≡ from + to
      → insn_at woven g ≡ Some (aimed (fronts_of (sites policy mode mm.old)) b.insn, target.ApiMethod listed)
  woven_insn g class method here =
      let s : ℕ = stand (sites policy mode mm.old) frame.at in
      let insn : Insn = aimed (fronts_of (sites policy mode mm.old)) b.insn in
      ap (λ (c : ℕ). option_and_then (λ (of : Method). insn_in of g.at) (method_at woven c g.method)) (class ∙ mm.class)
      ∙ ap (λ (n : ℕ). option_and_then (λ (of : Method). insn_in of g.at) (method_at woven frame.class n)) (method ∙ mm.method)
      ∙ ap (option_and_then (λ (of : Method). insn_in of g.at)) mm.woven_there
      ∙ ap (insn_in mm.new) (here ∙ sym (stand_is policy mode client woven frame next mm listed b))
      ∙ ap (option_and_then (λ (i : Insn). option_map (λ (ref : Target). (i, ref)) (slice_get mm.new.refs s)))
      (mm.laid.insns frame.at b.insn b.insn_there)
      ∙ ap (option_map (λ (ref : Target). (insn, ref))) (mm.laid.refs frame.at (target.ApiMethod listed) b.ref_there)

  woven_calls : heap_in (shape_of (aimed (fronts_of (sites policy mode mm.old)) b.insn)) ≡ Some (heap.Call b.how)
  woven_calls =
      heap_aimed (fronts_of (sites policy mode mm.old)) (length mm.old.insns) b.insn (mm.laid.jumps frame.at b.insn b.insn_there) ∙ b.calls

  -- ---- the step

  module _ (desc : Name) (named : desc_named client (target.ApiMethod listed) ≡ Some desc) (passed : Taken)
      (takes : taken (is_static_call b.how) (arity desc) frame.stack.items ≡ Some passed) (on : machine.stopped ≡ None) where
    abbrev lib : Change
    lib =
        calls_library client (world_of machine)
        (passing client machine number its frame below b.insn b.how listed b.at b.calls passed) listed

    abbrev event : Event
    event = events.Call number listed (values_shown client machine.heap passed.arguments)

    module _ (allowed : IsAllowed policy mode client now machine (plain_step number) (applied number machine lib, lib.event) new) where
      lock : (locks_in (state_of client).number other.monitors ≡ [])
          × ((after : List Monitor) → after ≡ held_by (state_of client).number number (is_locked mode)
          → LockIs (state_of client).number mode (callers policy 0 (slice_set machine.threads number lib.thread)) after)
      lock =
          lock_begins policy (state_of client).number machine.threads number its lib.thread there mode
          (locks_in (state_of client).number other.monitors)
          (λ hold. allowed.begins hold b.clauses) m.lock b.clauses

      passes : IfSome (clause_at policy listed Before) (λ c. ArePassed c.args event spot.stack.items)
      passes =
          let got : slice_get (applied number machine lib).threads number ≡ Some lib.thread =
          ap (λ (ts : List Thread). slice_get ts number) (append-nil (slice_set machine.threads number lib.thread))
          ∙ set_there machine.threads number lib.thread (slice_get_within machine.threads number its there) in
          let given : passed_in (applied number machine lib) number ≡ passed.arguments =
          ap (λ (o : Option Thread). option_map_or (λ (t : Thread). passed_by t.doing) o []) got in
          if_some_on (λ c. AreOfKinds c.args (passed_in (applied number machine lib) number)) (λ c. ArePassed c.args event spot.stack.items)
          (clause_at policy listed Before)
          (λ c are.
          subst (λ (xs : List Value). ArePassed c.args event xs) (sym mm.items)
          (passed_so client machine.heap (is_static_call b.how) (arity desc) frame.stack.items passed takes c.args
          (subst (AreOfKinds c.args) given are) number listed))
          allowed.fits.kinds

      r : Reaches in_block 0 (call_place b.made.insns) spot new (is_locked mode)
      r = calls_are_reached in_block spot (stands (m.mirrors.stopped ∙ on) lock.0) event now new
          (record { method_is = refl; phase_is = refl; ranged = m.ranged })
          (holds (allowed.fits.fits its frame there refl)) passes allowed.accepts

      abbrev came : Frame
      came = moved_to next (from + to) r.after.locals r.after.stack.items

      came_there : slice_get r.end.threads number ≡ Some (running (came ∷ others) more_begin)
      came_there =
          ap (λ (ts : List Thread). slice_get ts number) r.come.threads
          ∙ set_there other.threads number (running (came ∷ others) more_begin)
          (slice_get_within other.threads number (running (next ∷ others) more_begin) woven_there)

      abbrev lib_there : Change
      lib_there = calls_library woven (world_of r.end)
          (passing woven r.end number (running (came ∷ others) more_begin) came others
          (aimed (fronts_of (sites policy mode mm.old)) b.insn) b.how listed
          (woven_insn came refl refl refl) woven_calls passed) listed

      calls_there : changed woven r.end (plain_step number) ≡ Some lib_there
      calls_there =
          changed_is woven r.end (plain_step number) (running (came ∷ others) more_begin) r.come.goes_on came_there
          ∙ call_steps woven r.end number (running (came ∷ others) more_begin) came others
          (aimed (fronts_of (sites policy mode mm.old)) b.insn) b.how listed
          (woven_insn came refl refl refl) woven_calls desc passed
          (ap (λ (l : Listing). option_map (λ (x : ListedMethod). x.id.desc) (slice_get l.methods listed)) w.tell.listing ∙ named)
          (ap (taken (is_static_call b.how) (arity desc)) (ap (λ (o : Operands). o.items) r.is.stack ∙ mm.items) ∙ takes)

      heap_same : r.end.heap ≡ machine.heap
      heap_same = r.come.heap ∙ m.mirrors.heap

      event_same : lib_there.event ≡ lib.event
      event_same =
          let ours : IsClientThread client its = all_get (IsClientThread client) machine.threads number its allowed.ours.threads there in
          let p = taken_passes client (is_static_call b.how) (arity desc) frame.stack.items ours.frames.0.items passed takes in
          ap (λ vs. Some (events.Call number listed vs))
          (ap (λ (h : List Object). values_shown woven h passed.arguments) heap_same
          ∙ all_shown_alike (sites policy mode) client woven w.tell machine.heap
          (are_clients client machine.heap allowed.ours.objects) passed.arguments p.arguments)

      abbrev end : Machine
      end = applied number r.end lib_there

      ends : MirrorsIn policy mode client woven new (applied number machine lib) end
      ends = joined policy mode client woven machine other m.mirrors number new lib end
          (record {
            its = lib_there.thread;
            begins = refl;
            heap = heap_same;
            statics = ap (take (length client.classes)) r.come.statics
                ∙ take-set-le (length client.classes) other.statics (length client.classes) r.after.fields (omega arith)
                ∙ m.mirrors.statics;
            classes = m.mirrors.classes;
            monitors = r.come.others ∙ m.mirrors.monitors;
            threads = append-nil (slice_set r.end.threads number lib_there.thread)
                ∙ ap (λ (ts : List Thread). slice_set ts number lib_there.thread) r.come.threads
                ∙ set_twice other.threads number (running (came ∷ others) more_begin) lib_there.thread;
            thread = record {
              doing = refl;
              to_begin = same;
              frames = (
                record {
                  mirrors =
                      moved_mirrors (sites policy mode) client woven frame next mm frame.at
                      (from + to) frame.locals r.after.locals passed.beneath
                      (r.is.locals ∙ mm.locals) mm.many (r.is.count ∙ mm.wide);
                  at = sym (stand_is policy mode client woven frame next mm listed b);
                },
                bs,
              );
            };
            stopped = refl;
            fields = ap (λ (st : List (List Value)). slice_get st (length client.classes)) r.come.statics
                ∙ set_there other.statics (length client.classes) r.after.fields
                (slice_get_within other.statics (length client.classes) (map values.Int now) m.fields)
                ∙ ap Some r.is.fields;
            ranged = next_keeps policy w.sound now new event m.ranged allowed.accepts;
            lock = lock.1 (locks_in (state_of client).number r.end.monitors)
                (r.come.lock ∙ ap (held_by (state_of client).number number) r.is.lock);
          })

      lifted : IsLifted policy mode client woven other (plain_step number) (applied number machine lib, lib.event) new
      lifted =
          let least : r.count ≡ r.count + 0 = omega arith in
          let most = most_are policy mode client woven frame next mm listed b number other next others more_begin woven_there refl refl in
          let inside = call_inside policy mode client woven frame next mm listed b in
          let few = few_steps policy mode client woven frame next mm listed b in
          record {
            after = end;
            lifts = record {
              up = r.count;
              there = r.end;
              climbs = climbs_on woven (goes_up (sites policy mode) client woven) number next.class next.method (from + 0) (from + to)
                  (λ x between. goes_up_between policy mode client woven frame next mm listed b number to x (omega arith) between)
                  r.count 0 r.count other r.end r.end least r.steps (
                    up_is policy mode client woven frame next mm listed b number r.end came others more_begin came_there refl refl
                        ∙ up_ends policy mode client woven frame next mm listed b,
                    refl,
                  );
              few = omega (arith, r.few, inside, few, most);
              made = end;
              steps = stepped_is woven r.end (plain_step number) lib_there calls_there
                  ∙ ap (λ (e : Option Event). Some (end, e)) event_same;
              out = 0;
              leaves = (rests_out (sites policy mode) client woven (applied number machine lib) end ends.mirrors number, refl);
              few_out = omega arith;
            };
            mirrors = ends;
          }

  -- The step of a thread that runs, and stands at a call with a block.
  pub call_lifted : (made : Machine × Option Event) → stepped client machine (plain_step number) ≡ Some made
      → IsAllowed policy mode client now machine (plain_step number) made new
      → IsLifted policy mode client woven other (plain_step number) made new
  call_lifted made is allowed =
      let on = not_stopped client machine (plain_step number) made is in
      let change = map_of (λ (c : Change). (applied number machine c, c.event)) (changed client machine (plain_step number)) made is in
      let c = call_made client machine number its frame below b.insn b.how listed b.at b.calls change.0
      (sym (changed_is client machine (plain_step number) its on there) ∙ change.1) in
      let same : (applied number machine (lib c.desc c.named c.passed c.takes on), (lib c.desc c.named c.passed c.takes on).event) ≡ made =
      ap (λ (x : Change). (applied number machine x, x.event)) c.is ∙ change.2 in
      subst (λ (x : Machine × Option Event). IsLifted policy mode client woven other (plain_step number) x new) same
      (lifted c.desc c.named c.passed c.takes on
      (subst (λ (x : Machine × Option Event). IsAllowed policy mode client now machine (plain_step number) x new) (sym same) allowed))
