-- Each step that a typed client makes is as lifting asks for it: operands fit, and what is passed and given is of the kinds of the clauses.
use Rattle.std.proofs.Common.{◌≡◌, ◌∙◌, ℕ, zero, suc, ◌+◌, Bool, true, false, cond, List, [], ◌∷◌, ◌++◌, length, Option, Some, None, refl, sym, ap, subst, arith, inl, inr}
use Rattle.std.specs.Prelude.{⊤, IfSome, is_some, nat_lt, option_map, option_and_then, slice_get, slice_set}
use Rattle.std.specs.List.{AllByRecursion}
use Rattle.std.specs.Option.{option_map_or, option_to_list}
use Rattle.api_listing.specs.declared.events.ApiAnswer.{ApiAnswer}
use Rattle.api_listing.specs.declared.events.Event.{Event}
use Rattle.api_listing.specs.declared.events.Event.TheVariants as events
use Rattle.cert_format.specs.declared.typing.Typing.{Typing}
use Rattle.insn_codec.specs.declared.shape.Heap.TheVariants as heap
use Rattle.insn_codec.specs.Shapes.{shape_of}
use Rattle.bytecode_model.specs.declared.program.Method.{Method}
use Rattle.bytecode_model.specs.declared.program.Program.{Program}
use Rattle.bytecode_model.specs.declared.program.Target.{Target}
use Rattle.bytecode_model.specs.declared.program.Target.TheVariants as target
use Rattle.bytecode_model.specs.Described.{arguments, result_type}
use Rattle.bytecode_model.specs.SearchOrder.{Name}
use Rattle.bytecode_model.specs.Targets.{Calls, Names}
use Rattle.bytecode_model.specs.Uses.{UsesAreShaped}
use Rattle.conspec_tree.specs.declared.types.Phase.TheVariants.{Before, After}
use Rattle.conspec_automaton.specs.declared.policy.Policy.{Policy}
use Rattle.conspec_automaton.specs.Next.{has_clauses, method_of}
use Rattle.block_template.specs.Blocks.{clause_at}
use Rattle.guest_heap.specs.declared.frame.Frame.{Frame}
use Rattle.guest_heap.specs.declared.thread.Doing.{Doing}
use Rattle.guest_heap.specs.declared.thread.Doing.TheVariants as doings
use Rattle.guest_heap.specs.declared.thread.Thread.{Thread}
use Rattle.guest_heap.specs.declared.value.Value.{Value}
use Rattle.guest_frames.specs.Stepping.{after, moved_to}
use Rattle.guest_model.specs.declared.machine.Choice.{Choice}
use Rattle.guest_model.specs.declared.machine.Choice.TheVariants as choices
use Rattle.guest_model.specs.declared.machine.Machine.{Machine}
use Rattle.guest_model.specs.Calling.{is_static_call}
use Rattle.guest_model.specs.Calls.{Taken, arity, taken, types_of}
use Rattle.guest_model.specs.Changes.{Change, World, applied, goes, returned, throws_new, with_event, world_of}
use Rattle.guest_model.specs.Moving.{StackFits}
use Rattle.guest_model.specs.Parts.{null_pointer}
use Rattle.guest_model.specs.Places.{insn_at, insn_in, method_at}
use Rattle.guest_model.specs.declared.machine.Step.{Step}
use Rattle.guest_model.specs.Runs.{exec, exec_from, start_of, stepped_or_same}
use Rattle.guest_model.specs.Seen.{value_shown}
use Rattle.guest_model.specs.Stepping.{call_stepped, changed, doing_stepped, frames_stepped, is_on_null, stepped}
use Rattle.guest_model.proofs.Options.{all_get, and_then_of, map_of, some_is, unless_of}
use Rattle.typed_runs.specs.Formed.{TellsTypes}
use Rattle.typed_runs.specs.Frames.{AreRunning, IsReady, stands_at}
use Rattle.typed_runs.specs.Machines.{FramesFit, MachineFits, ThreadFits}
use Rattle.typed_runs.specs.Programs.{IsTypedProgram}
use Rattle.typed_runs.specs.Runs.{RunsFit}
use Rattle.typed_runs.proofs.Acting.{heap_shape}
use Rattle.typed_runs.proofs.Answering.{gives_well, type_given}
use Rattle.typed_runs.proofs.Calling.Called.{there_and}
use Rattle.typed_runs.proofs.Calling.Passed.{Arguments, passing, referred_desc, told_listed}
use Rattle.typed_runs.proofs.Calling.Returning.{ResultFits, has_room}
use Rattle.typed_runs.proofs.Changed.{WorldFits}
use Rattle.typed_runs.proofs.Growing.{grows_itself}
use Rattle.typed_runs.proofs.Rows.{insn_is, names}
use Rattle.block_runs.specs.Clients.{ClientsFit}
use Rattle.block_runs.specs.Joining.{AllWait, AreKinds, GivesKind, ListedAreCalled, StandsAtCall, passed_by, top_items}
use Rattle.block_runs.specs.Passed.{AreOfKinds}
use Rattle.block_runs.proofs.Answered.{Returns, answered_is}
use Rattle.block_runs.proofs.Clients.Unasked.{never_asked, others_still, unless}
use Rattle.block_runs.proofs.Waiting.{starts_wait, waits_kept}
use Rattle.block_runs.proofs.Clients.Listed.{listed_called}
use Rattle.block_runs.proofs.Joined.{call_made}
use Rattle.block_runs.proofs.Clients.OfKinds.{are_passed, is_given}
use Rattle.block_runs.proofs.Quiet.{IsUnclaused}

got_set : {X : Type 0} (xs ys : List X) (i : ℕ) (old x : X) → slice_get xs i ≡ Some old → slice_get (slice_set xs i x ++ ys) i ≡ Some x
got_set [] ys i old x e = absurd cc
got_set (y ∷ xs) ys zero old x e = refl
got_set (y ∷ xs) ys (suc i) old x e = got_set xs ys i old x e

after_items : (frame f : Frame) (items : List Value) → after frame items ≡ Some f → items ≡ f.stack.items
after_items frame f items e =
    ap (λ (g : Frame). g.stack.items) (unless_of (nat_lt frame.stack.size (length items))
    (moved_to frame (frame.at + 1) frame.locals items) f e)

module _ (client : Program) (typing : Typing) (ok : IsTypedProgram client typing) (machine : Machine) where
  -- ---- operands

  pub stack_fits : (doing : Doing) (frames : List Frame) → FramesFit client typing machine.heap frames doing
      → (frame : Frame) → slice_get frames 0 ≡ Some frame → StackFits frame
  stack_fits doing [] f frame e = absurd cc
  stack_fits doings.Running (first ∷ below) f frame e = subst StackFits (some_is first frame e) f.0.room
  stack_fits (doings.InCall method receiver arguments) (first ∷ below) f frame e =
      let l = there_and (slice_get client.listing.methods method) f.1 in
      let room = has_room client typing ok machine.heap (result_type l.0.id.desc) (first ∷ below) l.2 in
      subst StackFits (some_is first frame e) (omega (arith, room))
  stack_fits doings.Ended (first ∷ below) f frame e = absurd cc

  module _ (shaped : UsesAreShaped) (called : ListedAreCalled client) (policy : Policy)
      (tells : AllByRecursion (TellsTypes client.listing) policy.clauses)
      (m : MachineFits client typing machine) (number : ℕ) (thread : Thread) where
    -- what the policy's clauses ask of the thread after the event
    abbrev AreOf : Option Event → Thread → Type 0
    AreOf None after = ⊤
    AreOf (Some (events.Call by method arguments)) after = IfSome (clause_at policy method Before)
        (λ c. AreOfKinds c.args (passed_by after.doing))
    AreOf (Some (events.Return by method value)) after = IfSome (clause_at policy method After)
        (λ c. GivesKind c.result value (top_items after))
    AreOf (Some (events.Except by method)) after = ⊤

    abbrev KindsFit : Change → Type 0
    KindsFit change = AreOf change.event change.thread

    pub in_machine : (event : Option Event) (after : Thread) (end : Machine) → slice_get end.threads number ≡ Some after → AreOf event after
        → AreKinds policy event end number
    in_machine None after end there h = tt
    in_machine (Some (events.Call by method arguments)) after end there h =
        subst (λ (o : Option Thread). IfSome (clause_at policy method Before)
        (λ c. AreOfKinds c.args (option_map_or (λ (t : Thread). passed_by t.doing) o []))) (sym there) h
    in_machine (Some (events.Return by method value)) after end there h =
        subst (λ (o : Option Thread). IfSome (clause_at policy method After)
        (λ c. GivesKind c.result value (option_map_or top_items o []))) (sym there) h
    in_machine (Some (events.Except by method)) after end there h = tt

    -- ---- what no policy has clauses for

    quiet_kinds : (event : Option Event) (after : Thread)
        → ((other : Policy) → IfSome event (λ (e : Event). has_clauses other (method_of e) ≡ false)) → AreOf event after
    quiet_kinds None after none = tt
    quiet_kinds (Some event) after none = absurd (never_asked (method_of event) none)

    -- ---- calls

    module _ (frame : Frame) (below : List Frame) (r : IsReady client typing machine.heap frame) (change : Change)
        (e : frames_stepped client machine number thread (frame ∷ below) ≡ Some change) where
      abbrev ref : Target
      ref = (stands_at r.stands).ref

      library_kinds : (listed : ℕ) → ref ≡ target.ApiMethod listed → KindsFit change
      library_kinds listed is =
          let at : insn_at client frame ≡ Some (r.stands.insn, target.ApiMethod listed) =
          insn_is client typing ok frame r.stands ∙ ap (λ (t : Target). Some (r.stands.insn, t)) is in
          let u : Calls client r.stands.class r.stands.insn (target.ApiMethod listed) =
          subst (λ (t : Target). Names client r.stands.class r.stands.insn t) is (names client typing ok frame r.stands) in
          let place = and_then_of (λ (method : Method). insn_in method frame.at) (method_at client frame.class frame.method)
          (r.stands.insn, target.ApiMethod listed) at in
          let calls = called frame.class frame.method place.0 place.1 frame.at listed r.stands.insn place.2 in
          let shape = heap_shape (shape_of r.stands.insn) (heap.Call calls.0) calls.1 in
          let p = passing client typing ok shaped machine.heap frame r calls.0 shape (target.ApiMethod listed)
          (told_listed client typing ok shaped machine.heap frame r calls.0 shape listed u) in
          let c = call_made client machine number thread frame below r.stands.insn calls.0 listed at calls.1 change e in
          let same : p.passed ≡ c.passed =
          some_is p.passed c.passed
          (sym p.is ∙ ap (option_and_then (λ (desc : Name). taken (is_static_call calls.0) (arity desc) frame.stack.items)) c.named
          ∙ c.takes) in
          let desc = referred_desc client typing ok shaped machine.heap frame r calls.0 shape (target.ApiMethod listed) u in
          let args : Arguments client typing ok machine.heap c.passed.arguments (arguments u.told.desc) =
          subst (λ (t : Taken). Arguments client typing ok machine.heap t.arguments (arguments u.told.desc)) same
          (subst (λ (d : Name). Arguments client typing ok machine.heap p.passed.arguments (arguments d)) desc p.told_arguments) in
          subst KindsFit c.is
          (are_passed client typing ok policy tells machine.heap listed _ u.declared c.passed.arguments u.described args)

      other_kinds : (named : Target) → ref ≡ named → ((other : Policy) → IsUnclaused client other named) → KindsFit change
      other_kinds named is free =
          let at : insn_at client frame ≡ Some (r.stands.insn, named) =
          insn_is client typing ok frame r.stands ∙ ap (λ (t : Target). Some (r.stands.insn, t)) is in
          quiet_kinds change.event change.thread
          (λ other. (others_still client machine number thread frame below r.stands.insn named at free change e other).event)

      named_kinds : (named : Target) → ref ≡ named → KindsFit change
      named_kinds (target.ApiMethod listed) is = library_kinds listed is
      named_kinds target.None is = other_kinds target.None is (λ other. tt)
      named_kinds (target.Builtin index) is = other_kinds (target.Builtin index) is (λ other. tt)
      named_kinds (target.Method of index) is = other_kinds (target.Method of index) is (λ other. tt)
      named_kinds (target.Field of index) is = other_kinds (target.Field of index) is (λ other. tt)
      named_kinds (target.ApiField index) is = other_kinds (target.ApiField index) is (λ other. tt)
      named_kinds (target.ClassName name) is = other_kinds (target.ClassName name) is (λ other. tt)
      named_kinds (target.Number n) is = other_kinds (target.Number n) is (λ other. tt)
      named_kinds (target.Literal index) is = other_kinds (target.Literal index) is (λ other. tt)

    -- ---- returns

    module _ (method : ℕ) (receiver : Option Value) (arguments : List Value)
        (f : FramesFit client typing machine.heap thread.frames (doings.InCall method receiver arguments)) where
      same_fits : WorldFits client machine.heap (world_of machine)
      same_fits = record { grows = grows_itself machine.heap; objects = m.heap; statics = m.statics }

      returned_kinds : (answer : ApiAnswer) (change : Change)
          → Returns client (world_of machine) number thread method receiver arguments answer change
          → (frames : List Frame) → thread.frames ≡ frames → StandsAtCall client (doings.InCall method receiver arguments) frames
          → KindsFit change
      returned_kinds answer change back [] is stands = absurd stands
      returned_kinds answer change back (caller ∷ below) is stands =
          let event : Option Event = Some (events.Return number method (option_map (value_shown client back.gave.0.heap) back.gave.1)) in
          let well = gives_well client typing ok machine.heap (world_of machine) same_fits
          (types_of back.fit.listed.id.desc).result receiver arguments f.0 answer
          back.none back.fit.fits in
          let same : well.0 ≡ back.gave = some_is well.0 back.gave (sym well.1 ∙ back.gives) in
          let fit = subst (λ (made : World × Option Value). ResultFits client made.0.heap
          (type_given (types_of back.fit.listed.id.desc).result) made.1) same well.2.result in
          let g = map_of (λ (h : Frame). with_event (goes back.gave.0 thread (h ∷ below)) event)
          (after caller (option_to_list back.gave.1 ++ caller.stack.items)) change
          (ap (λ (frames : List Frame). returned client back.gave.0 thread frames back.gave.1 event) (sym is) ∙ back.is) in
          let items = after_items caller g.0 (option_to_list back.gave.1 ++ caller.stack.items) g.1 in
          subst KindsFit g.2
          (subst (λ (xs : List Value). IfSome (clause_at policy method After)
          (λ c. GivesKind c.result (option_map (value_shown client back.gave.0.heap) back.gave.1) xs)) items
          (is_given client typing ok policy tells back.gave.0.heap method back.fit.listed back.fit.there caller.stack.items back.gave.1 fit))

      call_kinds : (choice : Choice) (change : Change)
          → call_stepped client (world_of machine) number thread method receiver arguments choice ≡ Some change
          → StandsAtCall client (doings.InCall method receiver arguments) thread.frames → KindsFit change
      call_kinds choices.Plain change e stands = by (is_on_null receiver) e
        where
          by : (b : Bool) → cond b (Some (throws_new client (world_of machine) number thread thread.frames null_pointer
              (Some (events.Except number method)))) None ≡ Some change
              → KindsFit change
          by true g = subst KindsFit (some_is _ change g) tt
          by false g = absurd cc
      call_kinds (choices.Answer answer) change e stands =
          elim (answered_is client (world_of machine) number thread method receiver arguments answer change
          (unless (is_on_null receiver) _ change e)) [
            | inl back ↦ returned_kinds answer change back thread.frames refl stands
            | inr thrown ↦ subst KindsFit thrown.is tt
          ]

    -- ---- threads

    running_kinds : (frames : List Frame) → AreRunning client typing machine.heap frames → (change : Change)
        → frames_stepped client machine number thread frames ≡ Some change
        → KindsFit change
    running_kinds [] r change e = absurd cc
    running_kinds (frame ∷ below) r change e = named_kinds frame below r.0 change e (stands_at r.0.stands).ref refl

    pub kinds_fit : (doing : Doing) → FramesFit client typing machine.heap thread.frames doing → StandsAtCall client doing thread.frames
        → (choice : Choice)
        (change : Change) → doing_stepped client machine number thread doing choice ≡ Some change → KindsFit change
    kinds_fit doings.Running f stands choices.Plain change e = running_kinds thread.frames f change e
    kinds_fit doings.Running f stands (choices.Answer answer) change e = absurd cc
    kinds_fit
        (doings.InCall method receiver arguments) f stands choice change e = call_kinds method receiver arguments f choice change e stands
    kinds_fit doings.Ended f stands choice change e = absurd cc

-- ---- threads that wait

wait_on : (client : Program) (steps : List Step) (machine : Machine) → AllWait client machine
    → AllWait client (exec_from client machine steps)
wait_on client [] machine wait = wait
wait_on client (step ∷ steps) machine wait = wait_on client steps (stepped_or_same client machine step)
    (by (stepped client machine step) refl)
  where
    by : (o : Option (Machine × Option Event)) → stepped client machine step ≡ o
        → AllWait client (option_map_or (λ (made : Machine × Option Event). made.0) o machine)
    by None e = wait
    by (Some made) e = waits_kept client machine step made wait e

all_wait : (client : Program) (steps : List Step) → AllWait client (exec client steps)
all_wait client steps = wait_on client steps (start_of client) (starts_wait client)

-- ---- the law

pub steps_fit : UsesAreShaped → RunsFit → ClientsFit
steps_fit shaped fit client typing is policy tells steps step made made_is =
    let ok = is.program in
    let machine : Machine = exec client steps in
    let m : MachineFits client typing machine = fit client typing ok steps in
    let called : ListedAreCalled client = listed_called shaped client ok.links.sound ok.links.linked.named in
    let its = map_of (λ (change : Change). (applied step.thread machine change, change.event)) (changed client machine step) made made_is in
    let t = and_then_of (λ (thread : Thread). doing_stepped client machine step.thread thread thread.doing step.choice)
    (slice_get machine.threads step.thread) its.0
    (unless (is_some machine.stopped) _ its.0 its.1) in
    let fits = all_get (ThreadFits client typing machine.heap) machine.threads step.thread t.0 m.threads t.1 in
    let stands = all_get (λ (thread : Thread). StandsAtCall client thread.doing thread.frames) machine.threads step.thread t.0
    (all_wait client steps) t.1 in
    let own : slice_get (applied step.thread machine its.0).threads step.thread ≡ Some its.0.thread =
    got_set machine.threads (option_to_list its.0.begins) step.thread t.0 its.0.thread t.1 in
    let kinds = kinds_fit client typing ok machine shaped called policy tells m step.thread t.0 t.0.doing fits.frames stands step.choice its.0 t.2 in
    record {
      fits = λ thread frame there top.
          stack_fits client typing ok machine thread.doing thread.frames
          (all_get (ThreadFits client typing machine.heap) machine.threads step.thread thread m.threads there).frames frame top;
      kinds = subst (λ (x : Machine × Option Event). AreKinds policy x.1 x.0 step.thread) its.2
          (in_machine client typing ok machine shaped called policy tells m step.thread t.0 its.0.event its.0.thread
          (applied step.thread machine its.0) own kinds);
    }
