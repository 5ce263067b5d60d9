-- A call with a block that returns is lifted: the woven program takes the same answer, and leaves the block.
use Rattle.std.proofs.Common.{◌≡◌, ◌∙◌, ◌≤◌, ℕ, ◌+◌, Bool, true, false, cond, List, [], ◌∷◌, ◌++◌, length, map, take, Option, Some, None, refl, sym, ap, subst, append-nil, add-one, arith}
use Rattle.std.specs.Prelude.{IfSome, nat_lt, option_map, option_and_then, slice_get, slice_set}
use Rattle.std.specs.Option.{option_map_or, option_to_list}
use Rattle.std.proofs.lemmas.List.{take-set-le}
use Rattle.std.proofs.lemmas.Option.{slice_get_within}
use Rattle.api_listing.specs.declared.events.ApiAnswer.{ApiAnswer}
use Rattle.api_listing.specs.declared.events.ApiValue.{ApiValue}
use Rattle.api_listing.specs.declared.events.Event.{Event}
use Rattle.api_listing.specs.declared.events.Event.TheVariants as events
use Rattle.api_listing.specs.declared.types.Listing.{Listing}
use Rattle.bytecode_model.specs.declared.program.Program.{Program}
use Rattle.cert_format.specs.declared.certificate.Mode.{Mode}
use Rattle.conspec_tree.specs.declared.types.Phase.TheVariants.{After}
use Rattle.conspec_automaton.specs.declared.policy.Policy.{Policy}
use Rattle.conspec_automaton.specs.Next.{Values}
use Rattle.conspec_automaton.proofs.Ranges.{next_keeps}
use Rattle.offset_patch.specs.Splicing.{call_place}
use Rattle.block_template.specs.Blocks.{clause_at, is_locked, locals_used}
use Rattle.guest_heap.specs.declared.frame.Frame.{Frame}
use Rattle.guest_heap.specs.declared.object.Monitor.{Monitor}
use Rattle.guest_heap.specs.declared.object.Object.{Object}
use Rattle.guest_heap.specs.declared.thread.Doing.TheVariants as doings
use Rattle.guest_heap.specs.declared.thread.Thread.{Thread}
use Rattle.guest_heap.specs.declared.value.Value.{Value}
use Rattle.guest_heap.specs.declared.value.Value.TheVariants as values
use Rattle.guest_heap.specs.Stack.{Operands}
use Rattle.guest_frames.specs.Stepping.{after, moved_to}
use Rattle.guest_model.specs.declared.machine.Choice.TheVariants as choices
use Rattle.guest_model.specs.declared.machine.Machine.{Machine}
use Rattle.guest_model.specs.declared.machine.Step.{Step}
use Rattle.guest_model.specs.Answering.{answer_fits, answered, given, thrown_by}
use Rattle.guest_model.specs.Calls.{types_of}
use Rattle.guest_model.specs.Changes.{Change, World, applied, goes, with_event, world_of}
use Rattle.guest_model.specs.Parts.{running}
use Rattle.guest_model.specs.Seen.{value_shown}
use Rattle.guest_model.specs.Stepping.{changed, is_on_null}
use Rattle.guest_model.proofs.Options.{all_get, map_of}
use Rattle.guest_erasing.specs.Lifting.{frame_run, goes_out, goes_up, sites_at}
use Rattle.guest_erasing.specs.Mirrors.{AreBelow, FrameMirrors, IsAtCall, IsAtFront, IsClientMachine, IsClientThread}
use Rattle.guest_erasing.specs.Places.{front, is_before_call}
use Rattle.guest_erasing.specs.Steps.{AreRoomy, KeepsState}
use Rattle.guest_erasing.proofs.Alike.{alike_at}
use Rattle.guest_erasing.proofs.Answering.{GaveAlike, fits_same, gives_alike, shown_same}
use Rattle.guest_erasing.proofs.Calling.{are_clients, world_goes}
use Rattle.guest_erasing.proofs.Framing.{moved_front}
use Rattle.guest_erasing.proofs.Operating.{AreClients}
use Rattle.guest_erasing.proofs.Resting.{rests_out}
use Rattle.guest_erasing.proofs.Worlds.{Goes}
use Rattle.block_runs.specs.Joining.{GivesKind, IsAllowed, IsLifted, IsWovenBy, LockIs, MirrorsIn, callers, items_of, sites, state_of, top_items}
use Rattle.block_runs.specs.Made.{IsCodeOf}
use Rattle.block_runs.specs.Passed.{IsGiven}
use Rattle.block_runs.specs.Reaching.{InBlock, IsInBlock, Reaches}
use Rattle.block_runs.specs.Spots.{Spot}
use Rattle.block_runs.specs.Steps.{held_by, locks_in}
use Rattle.block_runs.specs.Transparent.{Holds}
use Rattle.block_runs.proofs.Alone.{fields_kept, locks_kept}
use Rattle.block_runs.proofs.Answered as answers
use Rattle.block_runs.proofs.Callers.{lock_ends}
use Rattle.block_runs.proofs.Joined.{changed_is, joined, stepped_is}
use Rattle.block_runs.proofs.Locals.{set_there}
use Rattle.block_runs.proofs.Made.{set_twice}
use Rattle.block_runs.proofs.Passing.{given_of, if_some_on}
use Rattle.block_runs.proofs.Reaching.{ends_are_reached}
use Rattle.block_runs.proofs.Standing.{IsAtBlock, begin, climbs_on, end_is, few_steps, goes_out_between, most_are, place, stand_is}

-- ---- a frame that goes on after its call

-- Its operands fit, and it is the frame that has moved.
went_on : (frame : Frame) (items : List Value) (f : Frame) → after frame items ≡ Some f
    → (length items ≤ frame.stack.size) × (moved_to frame (frame.at + 1) frame.locals items ≡ f)
went_on frame items f e = by (nat_lt frame.stack.size (length items)) refl e
  where
    by : (b : Bool) → nat_lt frame.stack.size (length items) ≡ b
        → cond b None (Some (moved_to frame (frame.at + 1) frame.locals items)) ≡ Some f
        → (length items ≤ frame.stack.size) × (moved_to frame (frame.at + 1) frame.locals items ≡ f)
    by true less e = absurd cc
    by false less e = (grind (arith, less), cc)

fits_there : (size n : ℕ) → n ≤ size → nat_lt size n ≡ false
fits_there size n le = grind (arith)

goes_on_there : (frame : Frame) (items : List Value) → length items ≤ frame.stack.size
    → after frame items ≡ Some (moved_to frame (frame.at + 1) frame.locals items)
goes_on_there frame items le =
    ap (λ (b : Bool). cond b None (Some (moved_to frame (frame.at + 1) frame.locals items))) (fits_there frame.stack.size (length items) le)

-- ---- a frame that waits at the call of a block

module _ (policy : Policy) (mode : Mode) (client woven : Program) (w : IsWovenBy policy mode client woven) (roomy : AreRoomy client)
    (now new : Values)
    (machine other : Machine) (m : MirrorsIn policy mode client woven now machine other) (ours : IsClientMachine client machine)
    (number : ℕ) (frame next : Frame) (below others : List Frame) (to_begin more_begin : List (ℕ × ℕ))
    (listed : ℕ) (receiver : Option Value) (arguments : List Value)
    (there : slice_get machine.threads number ≡ Some
    (record { frames = frame ∷ below; to_begin = to_begin; doing = doings.InCall listed receiver arguments }))
    (woven_there : slice_get other.threads number ≡ Some
    (record { frames = next ∷ others; to_begin = more_begin; doing = doings.InCall listed receiver arguments }))
    (same : more_begin ≡ to_begin)
    (at : IsAtCall (sites policy mode) client woven frame next) (bs : AreBelow (sites policy mode) client woven below others)
    (b : IsAtBlock policy mode client woven frame next at.mirrors listed) where
  abbrev mm : FrameMirrors (sites policy mode) client woven frame next
  mm = at.mirrors

  abbrev from : ℕ
  from = begin policy mode client woven frame next mm listed b

  abbrev to : ℕ
  to = place policy mode client woven frame next mm listed b

  abbrev its : Thread
  its = record { frames = frame ∷ below; to_begin = to_begin; doing = doings.InCall listed receiver arguments }

  abbrev more : Thread
  more = record { frames = next ∷ others; to_begin = more_begin; doing = doings.InCall listed receiver arguments }

  abbrev clients : AreClients machine.heap
  clients = are_clients client machine.heap ours.objects

  abbrev g : Goes client (world_of other) (world_of machine) (world_of other)
  g = world_goes (sites policy mode) client woven machine other m.mirrors

  abbrev Gave : World × Option Value → World × Option Value → Type 0
  Gave = GaveAlike (sites policy mode) client woven w.tell roomy (world_of other) (world_of machine) (world_of other) g clients

  thread_ours : IsClientThread client its
  thread_ours = all_get (IsClientThread client) machine.threads number its ours.threads there

  -- The thread waits: it has no block to go up.
  pub waits_up : goes_up (sites policy mode) client woven other number ≡ false
  waits_up =
      ap (λ (o : Option Thread). option_map_or (λ (f : Frame). is_before_call (sites_at (sites policy mode) client woven f) f.at)
      (option_and_then (λ (t : Thread). frame_run t.doing t.frames) o) false) woven_there

  pub code : IsCodeOf woven (state_of client) next.class next.method from b.made.insns
  code =
      subst (λ (c : ℕ). IsCodeOf woven (state_of client) c next.method from b.made.insns) (sym mm.class)
      (subst (λ (n : ℕ). IsCodeOf woven (state_of client) frame.class n from b.made.insns) (sym mm.method) b.put.code)

  module _ (answer : ApiAnswer) (on : machine.stopped ≡ None) (calls : is_on_null receiver ≡ false) where
    abbrev step : Step
    step = record { thread = number; choice = choices.Answer answer }

    module _ (fit : answers.Fits client (world_of machine) number its listed receiver arguments answer) (none : thrown_by answer ≡ None)
        (gave : World × Option Value) (gives : given (world_of machine) receiver arguments answer ≡ Some gave)
        (fits : length (option_to_list gave.1 ++ frame.stack.items) ≤ frame.stack.size) where
      abbrev items : List Value
      items = option_to_list gave.1 ++ frame.stack.items

      abbrev event : Event
      event = events.Return number listed (option_map (value_shown client gave.0.heap) gave.1)

      abbrev its_next : Frame
      its_next = moved_to frame (frame.at + 1) frame.locals items

      abbrev change : Change
      change = with_event (goes gave.0 its (its_next ∷ below)) (Some event)

      gave_there : (more_gave : World × Option Value) ×
          (given (world_of other) receiver arguments answer ≡ Some more_gave) × Gave gave more_gave
      gave_there =
          alike_at Gave (given (world_of machine) receiver arguments answer) (given (world_of other) receiver arguments answer) gave
          (gives_alike (sites policy mode) client woven w.tell roomy (world_of other) (world_of machine) (world_of other) g clients
          (types_of fit.listed.id.desc).result receiver arguments thread_ours.passes.0 thread_ours.passes.1 answer fit.fits) gives

      abbrev alike : Gave gave gave_there.0
      alike = gave_there.2

      abbrev more_items : List Value
      more_items = option_to_list gave_there.0.1 ++ next.stack.items

      items_same : more_items ≡ items
      items_same =
          ap (λ (o : Option Value). option_to_list o ++ next.stack.items) alike.same
          ∙ ap (λ (xs : List Value). option_to_list gave.1 ++ xs) mm.items

      abbrev more_next : Frame
      more_next = moved_to next (next.at + 1) next.locals more_items

      abbrev more_change : Change
      more_change =
          with_event (goes gave_there.0.0 more (more_next ∷ others))
          (Some (events.Return number listed (option_map (value_shown woven gave_there.0.0.heap) gave_there.0.1)))

      many_items : length more_items ≡ length items
      many_items = ap length items_same

      fit_there : answers.Fits woven (world_of other) number more listed receiver arguments answer
      fit_there = record {
        listed = fit.listed;
        there = ap (λ (l : Listing). slice_get l.methods listed) w.tell.listing ∙ fit.there;
        fits =
            ap (λ (h : List Object). answer_fits woven h (types_of fit.listed.id.desc).result receiver arguments answer) m.mirrors.heap
            ∙ fits_same (sites policy mode) client woven w.tell roomy machine.heap clients
            (types_of fit.listed.id.desc).result receiver arguments answer
            ∙ fit.fits;
      }

      changes_there : changed woven other step ≡ Some more_change
      changes_there =
          changed_is woven other step more (m.mirrors.stopped ∙ on) woven_there
          ∙ ap (λ (x : Bool). cond x None (answered woven (world_of other) number more listed receiver arguments answer)) calls
          ∙ answers.answer_returns woven
          (world_of other) number more listed receiver arguments answer fit_there none gave_there.0 gave_there.1
          ∙ ap (option_map (λ (f : Frame). with_event (goes gave_there.0.0 more (f ∷ others))
          (Some (events.Return number listed (option_map (value_shown woven gave_there.0.0.heap) gave_there.0.1)))))
          (goes_on_there next more_items (omega (arith, many_items, fits, mm.size, mm.room, b.put.stack)))

      event_same : more_change.event ≡ change.event
      event_same =
          ap (λ (o : Option Value). Some (events.Return number listed (option_map (value_shown woven gave_there.0.0.heap) o))) alike.same
          ∙ ap (λ (shown : Option ApiValue). Some (events.Return number listed shown))
          (shown_same (sites policy mode) client woven w.tell roomy (world_of other) (world_of machine)
          (world_of other) g clients gave gave_there.0 alike)

      abbrev mid : Machine
      mid = applied number other more_change

      keeps : KeepsState client other mid
      keeps = record { fields = alike.goes.keeps.fields; monitor = alike.goes.keeps.monitor }

      mid_threads : mid.threads ≡ slice_set other.threads number (running (more_next ∷ others) more_begin)
      mid_threads = append-nil (slice_set other.threads number (running (more_next ∷ others) more_begin))

      mid_there : slice_get mid.threads number ≡ Some (running (more_next ∷ others) more_begin)
      mid_there =
          ap (λ (ts : List Thread). slice_get ts number) mid_threads
          ∙ set_there other.threads number (running (more_next ∷ others) more_begin)
          (slice_get_within other.threads number more woven_there)

      abbrev in_block : InBlock
      in_block = record {
        program = woven;
        state = state_of client;
        policy = policy;
        mode = mode;
        method = listed;
        base = mm.old.max_locals;
        made = b.made;
        begin = from;
        number = number;
        frame = more_next;
        below = others;
        to_begin = more_begin;
        machine = mid;
      }

      abbrev spot : Spot
      spot = record { stack = more_next.stack; locals = next.locals; fields = map values.Int now; locked = is_locked mode }

      fields_there : slice_get mid.statics (length client.classes) ≡ Some (map values.Int now)
      fields_there = fields_kept client other mid keeps ∙ m.fields

      lock : (locks_in (state_of client).number other.monitors ≡ held_by (state_of client).number number (is_locked mode))
          × ((end : List Monitor) → end ≡ [] → LockIs (state_of client).number mode
          (callers policy 0 (slice_set machine.threads number change.thread)) end)
      lock =
          lock_ends policy (state_of client).number machine.threads number its change.thread there mode
          (locks_in (state_of client).number other.monitors)
          m.lock b.clauses refl

      stands : IsInBlock in_block (call_place b.made.insns + 1) spot
      stands =
          let here : next.at ≡ from + to = at.at ∙ stand_is policy mode client woven frame next mm listed b in
          record {
            known = w.state;
            sound = w.sound;
            is_block = b.is;
            code = code;
            stands = record {
              thread = mid_there;
              goes_on = refl;
              stands = record {
                place = omega (arith, here);
                stack = refl;
                locals = refl;
                fields = fields_there;
                lock = locks_kept client other mid keeps ∙ lock.0;
              };
            };
          }

      holds : Holds mm.old.max_locals (locals_used policy listed) now (is_locked mode) spot
      holds = record {
        fields = refl;
        lock = refl;
        locals = omega (arith, b.put.locals, mm.wide);
        room = omega (arith, b.put.stack, mm.size, mm.room, fits, many_items);
      }

      module _ (allowed : IsAllowed policy mode client now machine step (applied number machine change, change.event) new) where
        given_so : IfSome (clause_at policy listed After) (λ c. IsGiven c.result event spot.stack.items)
        given_so =
            let got : slice_get (applied number machine change).threads number ≡ Some change.thread =
            ap (λ (ts : List Thread). slice_get ts number) (append-nil (slice_set machine.threads number change.thread))
            ∙ set_there machine.threads number change.thread (slice_get_within machine.threads number its there) in
            let is : items_of (applied number machine change) number ≡ items = ap
            (λ (o : Option Thread). option_map_or top_items o []) got in
            if_some_on (λ c. GivesKind c.result (option_map (value_shown client gave.0.heap) gave.1)
            (items_of (applied number machine change) number))
            (λ c. IsGiven c.result event spot.stack.items) (clause_at policy listed After)
            (λ c gives_it.
            subst (λ (xs : List Value). IsGiven c.result event xs) (sym items_same)
            (given_of client gave.0.heap c.result gave.1 frame.stack.items number listed
            (subst (GivesKind c.result (option_map (value_shown client gave.0.heap) gave.1)) is gives_it)))
            allowed.fits.kinds

        r : Reaches in_block (call_place b.made.insns + 1) (length b.made.insns) spot new false
        r =
            ends_are_reached in_block spot stands event now new
            (record { method_is = refl; phase_is = refl; ranged = m.ranged }) holds given_so allowed.accepts

        abbrev came : Frame
        came = moved_to more_next (from + length b.made.insns) r.after.locals r.after.stack.items

        front_there : IsAtFront (sites policy mode) client woven its_next came
        front_there =
            let out : from + length b.made.insns ≡ front (sites policy mode mm.old) (frame.at + 1) =
            sym (end_is policy mode client woven frame next mm listed b)
            ∙ ap (front (sites policy mode mm.old)) (sym (add-one frame.at)) in
            subst (λ (xs : List Value). IsAtFront (sites policy mode) client woven its_next
            (moved_to next (from + length b.made.insns) r.after.locals xs))
            (sym (ap (λ (o : Operands). o.items) r.is.stack ∙ items_same))
            (moved_front (sites policy mode) client woven frame next mm (frame.at + 1)
            (from + length b.made.insns) frame.locals r.after.locals items
            (r.is.locals ∙ mm.locals) mm.many (r.is.count ∙ mm.wide) out)

        ends : MirrorsIn policy mode client woven new (applied number machine change) r.end
        ends = joined policy mode client woven machine other m.mirrors number new change r.end
            (record {
              its = running (came ∷ others) more_begin;
              begins = refl;
              heap = r.come.heap ∙ alike.goes.mirrors.heap;
              statics = ap (take (length client.classes)) r.come.statics
                  ∙ take-set-le (length client.classes) mid.statics (length client.classes) r.after.fields (omega arith)
                  ∙ alike.goes.mirrors.statics;
              classes = alike.goes.mirrors.classes;
              monitors = r.come.others ∙ alike.goes.mirrors.monitors;
              threads = r.come.threads ∙ ap (λ (ts : List Thread). slice_set ts number (running (came ∷ others) more_begin)) mid_threads
                  ∙ set_twice other.threads number (running (more_next ∷ others) more_begin) (running (came ∷ others) more_begin);
              thread = record { doing = refl; to_begin = same; frames = (front_there, bs) };
              stopped = r.come.goes_on;
              fields = ap (λ (st : List (List Value)). slice_get st (length client.classes)) r.come.statics
                  ∙ set_there mid.statics (length client.classes) r.after.fields
                  (slice_get_within mid.statics (length client.classes) (map values.Int now) fields_there)
                  ∙ ap Some r.is.fields;
              ranged = next_keeps policy w.sound now new event m.ranged allowed.accepts;
              lock = lock.1 (locks_in (state_of client).number r.end.monitors)
                  (r.come.lock ∙ ap (held_by (state_of client).number number) r.is.lock);
            })

        lifted : IsLifted policy mode client woven other step (applied number machine change, change.event) new
        lifted =
            let most = most_are policy mode client woven frame next mm listed b number mid more_next others more_begin mid_there
            refl refl in
            let few = few_steps policy mode client woven frame next mm listed b in
            let least : r.count ≡ r.count + 0 = omega arith in
            record {
              after = r.end;
              lifts = record {
                up = 0;
                there = other;
                climbs = (waits_up, refl);
                few = omega arith;
                made = mid;
                steps = stepped_is woven other step more_change changes_there ∙ ap (λ (e : Option Event). Some (mid, e)) event_same;
                out = r.count;
                leaves =
                    climbs_on woven (goes_out (sites policy mode) client woven) number more_next.class more_next.method (from + (to + 1))
                    (from + length b.made.insns)
                    (λ x between. goes_out_between policy mode client woven frame next mm listed b number (to + 1) (length b.made.insns) x
                    (omega arith) (omega arith) between)
                    r.count 0 r.count mid r.end r.end least r.steps
                    (rests_out (sites policy mode) client woven (applied number machine change) r.end ends.mirrors number, refl);
                few_out = omega (arith, r.few, few, most);
              };
              mirrors = ends;
            }

    abbrev change_of : World × Option Value → Change
    change_of gave =
        with_event (goes gave.0 its (moved_to frame (frame.at + 1) frame.locals (option_to_list gave.1 ++ frame.stack.items) ∷ below))
        (Some (events.Return number listed (option_map (value_shown client gave.0.heap) gave.1)))

    -- The answer returns.
    pub return_lifted : (made : Machine × Option Event) (change : Change)
        → (r : answers.Returns client (world_of machine) number its listed receiver arguments answer change)
        → (applied number machine change, change.event) ≡ made
        → IsAllowed policy mode client now machine step made new → IsLifted policy mode client woven other step made new
    return_lifted made change r is allowed =
        let f = map_of (λ (f : Frame). with_event (goes r.gave.0 its (f ∷ below))
        (Some (events.Return number listed (option_map (value_shown client r.gave.0.heap) r.gave.1))))
        (after frame (option_to_list r.gave.1 ++ frame.stack.items)) change r.is in
        let went = went_on frame (option_to_list r.gave.1 ++ frame.stack.items) f.0 f.1 in
        let same_made : (applied number machine (change_of r.gave), (change_of r.gave).event) ≡ made =
        ap (λ (x : Frame). (
          applied number machine
              (with_event (goes r.gave.0 its (x ∷ below))
              (Some (events.Return number listed (option_map (value_shown client r.gave.0.heap) r.gave.1)))),
          Some (events.Return number listed (option_map (value_shown client r.gave.0.heap) r.gave.1)),
        )) went.1
        ∙ ap (λ (x : Change). (applied number machine x, x.event)) f.2 ∙ is in
        subst (λ (x : Machine × Option Event). IsLifted policy mode client woven other step x new) same_made
        (lifted r.fit r.none r.gave r.gives went.0
        (subst (λ (x : Machine × Option Event). IsAllowed policy mode client now machine step x new) (sym same_made) allowed))
