-- Where the calls of methods with clauses that are seen end before the next begins, each begins while no thread is in one.
use Rattle.std.proofs.Common.{◌≡◌, ◌∙◌, ℕ, ◌+◌, Bool, true, false, cond, List, [], ◌∷◌, ◌++◌, length, Option, Some, None, refl, sym, ap, subst, inl, inr}
use Rattle.std.specs.Prelude.{⊤, ◌⊎◌, IfSome, is_some, slice_get, slice_set}
use Rattle.std.specs.Option.{option_to_list}
use Rattle.std.proofs.lemmas.Bool.{false≢true}
use Rattle.api_listing.specs.declared.events.ApiValue.{ApiValue}
use Rattle.api_listing.specs.declared.events.Event.{Event}
use Rattle.api_listing.specs.declared.events.Event.TheVariants as events
use Rattle.insn_codec.specs.declared.insn.Insn.{Insn}
use Rattle.cert_format.specs.declared.certificate.Mode.{Mode}
use Rattle.cert_format.specs.declared.certificate.Mode.TheVariants.{Hold, Release}
use Rattle.bytecode_model.specs.declared.program.Method.{Method}
use Rattle.bytecode_model.specs.declared.program.Program.{Program}
use Rattle.bytecode_model.specs.declared.program.Target.{Target}
use Rattle.bytecode_model.specs.declared.program.Target.TheVariants as target
use Rattle.bytecode_model.specs.SearchOrder.{Name}
use Rattle.conspec_automaton.specs.declared.policy.Policy.{Policy}
use Rattle.conspec_automaton.specs.Next.{has_clauses, method_of}
use Rattle.guest_heap.specs.declared.frame.Frame.{Frame}
use Rattle.guest_heap.specs.declared.thread.Doing.{Doing}
use Rattle.guest_heap.specs.declared.thread.Doing.TheVariants as doings
use Rattle.guest_heap.specs.declared.thread.Thread.{Thread}
use Rattle.guest_heap.specs.declared.value.Value.{Value}
use Rattle.guest_heap.specs.declared.value.Value.TheVariants as values
use Rattle.guest_frames.specs.Stepping.{after}
use Rattle.guest_model.specs.declared.machine.Choice.{Choice}
use Rattle.guest_model.specs.declared.machine.Choice.TheVariants as choices
use Rattle.guest_model.specs.declared.machine.Machine.{Machine}
use Rattle.guest_model.specs.declared.machine.Step.{Step}
use Rattle.guest_model.specs.Calling.{calls_library}
use Rattle.guest_model.specs.Calls.{Taken}
use Rattle.guest_model.specs.Changes.{Change, World, applied, goes, rests, returned, throws_new, with_event, world_of}
use Rattle.guest_model.specs.Finding.{Given}
use Rattle.guest_model.specs.Parts.{null_pointer, thrown_thread}
use Rattle.guest_model.specs.Places.{insn_at, insn_in, method_at}
use Rattle.guest_model.specs.Runs.{stepped_or_same, trace_from}
use Rattle.guest_model.specs.Stepping.{call_stepped, changed, doing_stepped, frames_stepped, insn_stepped, is_on_null, stepped}
use Rattle.guest_model.specs.Throwing.{unwound}
use Rattle.guest_model.proofs.Options.{and_then_of, is_there, map_of, some_is}
use Rattle.guest_erasing.specs.Accepted.{Alternate, AreApart, with_clauses}
use Rattle.guest_erasing.proofs.Runs.{comes_to, sees}
use Rattle.block_runs.specs.Joining.{ListedAreCalled, MayBegin, callers, is_calling}
use Rattle.block_runs.proofs.Answered.{answered_is}
use Rattle.block_runs.proofs.Clients.Unasked.{others_still, unless}
use Rattle.block_runs.proofs.Callers.{callers_begin, callers_end, callers_more, callers_set, callers_some}
use Rattle.block_runs.proofs.Joined.{call_made}
use Rattle.block_runs.proofs.Quiet.{IsUnclaused, Still, call_still}

-- In mode hold each call of a method with clauses begins where no thread is in one.
abbrev pub BeginApart : Policy → Mode → Program → Machine → List Step → Type 0
BeginApart policy mode client machine [] = ⊤
BeginApart policy mode client machine (step ∷ steps) =
    IfSome (stepped client machine step)
    (λ (made : Machine × Option Event). MayBegin policy mode made.1 machine.threads × BeginApart policy mode client made.0 steps)

module _ (client : Program) (policy : Policy) where
  -- ---- what a step does to the calls that are under way

  -- Nothing: the event, if there is one, is of a method without clauses.
  pub record IsQuiet (before : Doing) (change : Change) : Type 0 where
    pub event : IfSome change.event (λ (e : Event). has_clauses policy (method_of e) ≡ false)
    pub same : is_calling policy change.thread.doing ≡ is_calling policy before

  -- A call of a method with clauses begins.
  pub record Begins (before : Doing) (change : Change) : Type 0 where
    pub number : ℕ
    pub method : ℕ
    pub arguments : List ApiValue
    pub is : change.event ≡ Some (events.Call number method arguments)
    pub has : has_clauses policy method ≡ true
    pub idle : is_calling policy before ≡ false
    pub calls : is_calling policy change.thread.doing ≡ true

  abbrev pub IsEnd : Event → Type 0
  IsEnd (events.Call thread method arguments) = ⊥
  IsEnd (events.Return thread method value) = ⊤
  IsEnd (events.Except thread method) = ⊤

  -- Such a call ends.
  pub record Ends (before : Doing) (change : Change) : Type 0 where
    pub event : Event
    pub is : change.event ≡ Some event
    pub has : has_clauses policy (method_of event) ≡ true
    pub ends : IsEnd event
    pub calling : is_calling policy before ≡ true
    pub over : is_calling policy change.thread.doing ≡ false

  pub record Turns (before : Doing) (change : Change) : Type 0 where
    pub begins : IfSome change.begins (λ (t : Thread). is_calling policy t.doing ≡ false)
    pub turn : IsQuiet before change ⊎ (Begins before change ⊎ Ends before change)

  still_turns : (before : Doing) (change : Change) → is_calling policy before ≡ false → Still client policy change → Turns before change
  still_turns before change idle still =
      record { begins = still.begins; turn = inl (record { event = still.event; same = still.thread ∙ sym idle }) }

  module _ (machine : Machine) (number : ℕ) (thread : Thread) where
    -- ---- calls

    library_turns : (frame : Frame) (below : List Frame) (passed : Taken) (listed : ℕ)
        → Turns doings.Running (calls_library client (world_of machine)
        (record { number = number; thread = thread; frame = frame; below = below; passed = passed }) listed)
    library_turns frame below passed listed = by (has_clauses policy listed) refl
      where
        by : (b : Bool) → has_clauses policy listed ≡ b
            → Turns doings.Running (calls_library client (world_of machine)
            (record { number = number; thread = thread; frame = frame; below = below; passed = passed }) listed)
        by true has = record {
          begins = tt;
          turn = inr (inl (record { number = number; method = listed; arguments = _; is = refl; has = has; idle = refl; calls = has }));
        }
        by false none = record { begins = tt; turn = inl (record { event = none; same = none }) }

    other_turns : (frame : Frame) (below : List Frame) (insn : Insn) (ref : Target) → insn_at client frame ≡ Some (insn, ref)
        → ((other : Policy) → IsUnclaused client other ref) → (change : Change)
        → frames_stepped client machine number thread (frame ∷ below) ≡ Some change → Turns doings.Running change
    other_turns frame below insn ref at free change e =
        still_turns doings.Running change refl (others_still client machine number thread frame below insn ref at free change e policy)

    module _ (called : ListedAreCalled client) where
      named_turns : (frame : Frame) (below : List Frame) (insn : Insn) (ref : Target) → insn_at client frame ≡ Some (insn, ref)
          → (change : Change)
          → frames_stepped client machine number thread (frame ∷ below) ≡ Some change → Turns doings.Running change
      named_turns frame below insn (target.ApiMethod listed) at change e =
          let m = and_then_of (λ (method : Method). insn_in method frame.at) (method_at client frame.class frame.method)
          (insn, target.ApiMethod listed) at in
          let calls = called frame.class frame.method m.0 m.1 frame.at listed insn m.2 in
          let c = call_made client machine number thread frame below insn calls.0 listed at calls.1 change e in
          subst (Turns doings.Running) c.is (library_turns frame below c.passed listed)
      named_turns frame below insn target.None at change e = other_turns frame below insn target.None at (λ other. tt) change e
      named_turns frame below insn (target.Builtin index) at change e = other_turns frame below insn (target.Builtin index) at
          (λ other. tt) change e
      named_turns frame below insn (target.Method of index) at change e = other_turns frame below insn (target.Method of index) at
          (λ other. tt) change e
      named_turns frame below insn (target.Field of index) at change e = other_turns frame below insn (target.Field of index) at
          (λ other. tt) change e
      named_turns frame below insn (target.ApiField index) at change e = other_turns frame below insn (target.ApiField index) at
          (λ other. tt) change e
      named_turns frame below insn (target.ClassName name) at change e = other_turns frame below insn (target.ClassName name) at
          (λ other. tt) change e
      named_turns frame below insn (target.Number n) at change e = other_turns frame below insn (target.Number n) at (λ other. tt) change e
      named_turns frame below insn (target.Literal index) at change e = other_turns frame below insn (target.Literal index) at
          (λ other. tt) change e

      running_turns : (frames : List Frame) (change : Change) → frames_stepped client machine number thread frames ≡ Some change
          → Turns doings.Running change
      running_turns [] change e = absurd cc
      running_turns (frame ∷ below) change e =
          let n = and_then_of (insn_stepped client machine (record { number = number; thread = thread; frame = frame; below = below }))
          (insn_at client frame) change e in
          named_turns frame below n.0.0 n.0.1 n.1 change e

    -- ---- ends of calls

    rests_over : (to_begin : List Given) → is_calling policy (rests client to_begin).doing ≡ false
    rests_over [] = refl
    rests_over (next ∷ to_begin) = refl

    thrown_over : (left : List Frame) (to_begin : List Given) → is_calling policy (thrown_thread left to_begin).doing ≡ false
    thrown_over [] to_begin = refl
    thrown_over (frame ∷ left) to_begin = refl

    module _ (method : ℕ) (receiver : Option Value) (arguments : List Value) (has : has_clauses policy method ≡ true) where
      abbrev waits : Doing
      waits = doings.InCall method receiver arguments

      returned_ends : (world : World) (frames : List Frame) (result : Option Value) (value : Option ApiValue) (change : Change)
          → returned client world thread frames result (Some (events.Return number method value)) ≡ Some change → Turns waits change
      returned_ends world [] result value change e =
          subst (Turns waits) (some_is _ change e)
          (record {
            begins = tt;
            turn = inr (inr (record {
              event = events.Return number method value;
              is = refl;
              has = has;
              ends = tt;
              calling = has;
              over = rests_over thread.to_begin;
            }));
          })
      returned_ends world (caller ∷ below) result value change e =
          let m = map_of (λ (f : Frame). with_event (goes world thread (f ∷ below)) (Some (events.Return number method value)))
          (after caller (option_to_list result ++ caller.stack.items)) change e in
          subst (Turns waits) m.2
          (record {
            begins = tt;
            turn = inr (inr (record {
              event = events.Return number method value;
              is = refl;
              has = has;
              ends = tt;
              calling = has;
              over = refl;
            }));
          })

      throws_end : (world : World) (frames : List Frame) (class : Name)
          → Turns waits (throws_new client world number thread frames class (Some (events.Except number method)))
      throws_end world frames class = record {
        begins = tt;
        turn = inr (inr (record {
          event = events.Except number method;
          is = refl;
          has = has;
          ends = tt;
          calling = has;
          over = thrown_over (unwound client (values.Ref (length world.heap)) class frames) thread.to_begin;
        }));
      }

      call_ends : (choice : Choice) (change : Change)
          → call_stepped client (world_of machine) number thread method receiver arguments choice ≡ Some change → Turns waits change
      call_ends choices.Plain change e = by (is_on_null receiver) e
        where
          by : (b : Bool)
              → cond b (Some (throws_new client (world_of machine) number thread thread.frames null_pointer
              (Some (events.Except number method)))) None ≡ Some change
              → Turns waits change
          by true f = subst (Turns waits) (some_is _ change f) (throws_end (world_of machine) thread.frames null_pointer)
          by false f = absurd cc
      call_ends (choices.Answer answer) change e =
          elim (answered_is client (world_of machine) number thread method receiver arguments answer change
          (unless (is_on_null receiver) _ change e)) [
            | inl r ↦ returned_ends r.gave.0 thread.frames r.gave.1 _ change r.is
            | inr t ↦ subst (Turns waits) t.is (throws_end (world_of machine) thread.frames t.class)
          ]

    call_turns : (method : ℕ) (receiver : Option Value) (arguments : List Value) (choice : Choice) (change : Change)
        → call_stepped client (world_of machine) number thread method receiver arguments choice ≡ Some change
        → Turns (doings.InCall method receiver arguments) change
    call_turns method receiver arguments choice change e = by (has_clauses policy method) refl
      where
        by : (b : Bool) → has_clauses policy method ≡ b → Turns (doings.InCall method receiver arguments) change
        by true has = call_ends method receiver arguments has choice change e
        by false none =
            still_turns (doings.InCall method receiver arguments) change none
            (is_there (Still client policy) _ change
            (call_still client policy machine number thread method none receiver arguments choice) e)

    pub does_turn : ListedAreCalled client → (doing : Doing) (choice : Choice) (change : Change)
        → doing_stepped client machine number thread doing choice ≡ Some change → Turns doing change
    does_turn called doings.Running choices.Plain change e = running_turns called thread.frames change e
    does_turn called doings.Running (choices.Answer answer) change e = absurd cc
    does_turn called (doings.InCall method receiver arguments) choice change e = call_turns method receiver arguments choice change e
    does_turn called doings.Ended choice change e = absurd cc

  -- ---- one step

  -- whether a call is under way, by the threads that are in one
  abbrev pub IsUnderWay : Bool → List ℕ → Type 0
  IsUnderWay false numbers = numbers ≡ []
  IsUnderWay true numbers = (number : ℕ) × (numbers ≡ number ∷ [])

  -- After the event no two are under way, and it began none beside another.
  pub record StaysApart (threads : List Thread) (event : Option Event) (after : List Thread) (others : List Event) : Type 0 where
    pub begins : MayBegin policy Hold event threads
    pub under_way : Bool
    pub is : IsUnderWay under_way (callers policy 0 after)
    pub later : Alternate under_way (with_clauses policy others)

  unclaused_begins : (event : Option Event) (threads : List Thread) → IfSome event (λ (e : Event). has_clauses policy (method_of e) ≡ false)
      → MayBegin policy Hold event threads
  unclaused_begins None threads none = tt
  unclaused_begins (Some (events.Call thread method arguments)) threads none = λ hold has. absurd (false≢true (sym none ∙ has))
  unclaused_begins (Some (events.Return thread method value)) threads none = tt
  unclaused_begins (Some (events.Except thread method)) threads none = tt

  pub unclaused_gone : (event : Option Event) (others : List Event) → IfSome event (λ (e : Event). has_clauses policy (method_of e) ≡ false)
      → with_clauses policy (option_to_list event ++ others) ≡ with_clauses policy others
  unclaused_gone None others none = refl
  unclaused_gone (Some event) others none =
      ap (λ (b : Bool). cond b (event ∷ with_clauses policy others) (with_clauses policy others)) none

  pub claused_there : (event : Event) (others : List Event) → has_clauses policy (method_of event) ≡ true
      → with_clauses policy (event ∷ others) ≡ event ∷ with_clauses policy others
  claused_there event others has = ap (λ (b : Bool). cond b (event ∷ with_clauses policy others) (with_clauses policy others)) has

  module _ (threads : List Thread) (number : ℕ) (thread : Thread) (there : slice_get threads number ≡ Some thread) (change : Change)
      (under_way : Bool) (is : IsUnderWay under_way (callers policy 0 threads)) (others : List Event)
      (apart : Alternate under_way (with_clauses policy (option_to_list change.event ++ others))) where
    abbrev now : List Thread
    now = slice_set threads number change.thread ++ option_to_list change.begins

    abbrev Stays : Type 0
    Stays = StaysApart threads change.event now others

    -- a thread that begins is in no call
    with_begun : IfSome change.begins (λ (t : Thread). is_calling policy t.doing ≡ false)
        → callers policy 0 now ≡ callers policy 0 (slice_set threads number change.thread)
    with_begun none = callers_more policy 0 (slice_set threads number change.thread) change.begins none

    quiet_stays : callers policy 0 now ≡ callers policy 0 (slice_set threads number change.thread) → IsQuiet thread.doing change → Stays
    quiet_stays begun quiet = record {
      begins = unclaused_begins change.event threads quiet.event;
      under_way = under_way;
      is = subst (IsUnderWay under_way) (sym (begun ∙ callers_set policy 0 threads number thread change.thread there quiet.same)) is;
      later = subst (Alternate under_way) (unclaused_gone change.event others quiet.event) apart;
    }

    begun_stays : callers policy 0 now ≡ callers policy 0 (slice_set threads number change.thread) → Begins thread.doing change → Stays
    begun_stays begun b =
        let event : Event = events.Call b.number b.method b.arguments in
        let seen : with_clauses policy (option_to_list change.event ++ others) ≡ event ∷ with_clauses policy others =
        ap (λ (o : Option Event). with_clauses policy (option_to_list o ++ others)) b.is ∙ claused_there event others b.has in
        let a : (under_way ≡ false) × Alternate true (with_clauses policy others) = subst (Alternate under_way) seen apart in
        let none : callers policy 0 threads ≡ [] = subst (λ (o : Bool). IsUnderWay o (callers policy 0 threads)) a.0 is in
        record {
          begins = subst (λ (o : Option Event). MayBegin policy Hold o threads) (sym b.is) (λ hold has. none);
          under_way = true;
          is = (0 + number, begun ∙ callers_begin policy 0 threads number thread change.thread there none b.calls);
          later = a.1;
        }

    end_by : (o : Bool) → IsUnderWay o (callers policy 0 threads) → Ends thread.doing change
        → callers policy 0 (slice_set threads number change.thread) ≡ []
    end_by false none e = absurd (callers_some policy 0 threads number thread there e.calling none)
    end_by true one e = (callers_end policy 0 threads number one.0 thread change.thread there e.calling e.over one.1).1

    end_begins : (event : Event) → IsEnd event → MayBegin policy Hold (Some event) threads
    end_begins (events.Call by method arguments) ends = absurd ends
    end_begins (events.Return by method value) ends = tt
    end_begins (events.Except by method) ends = tt

    end_closes : (event : Event) → IsEnd event → (more : List Event) → Alternate under_way (event ∷ more) → Alternate false more
    end_closes (events.Call by method arguments) ends more a = absurd ends
    end_closes (events.Return by method value) ends more a = a
    end_closes (events.Except by method) ends more a = a

    ended_stays : callers policy 0 now ≡ callers policy 0 (slice_set threads number change.thread) → Ends thread.doing change → Stays
    ended_stays begun e =
        let seen : with_clauses policy (option_to_list change.event ++ others) ≡ e.event ∷ with_clauses policy others =
        ap (λ (o : Option Event). with_clauses policy (option_to_list o ++ others)) e.is ∙ claused_there e.event others e.has in
        record {
          begins = subst (λ (o : Option Event). MayBegin policy Hold o threads) (sym e.is) (end_begins e.event e.ends);
          under_way = false;
          is = begun ∙ end_by under_way is e;
          later = end_closes e.event e.ends (with_clauses policy others) (subst (Alternate under_way) seen apart);
        }

    stays : Turns thread.doing change → Stays
    stays turns =
        elim turns.turn [
          | inl quiet ↦ quiet_stays (with_begun turns.begins) quiet
          | inr more ↦
              elim more [
                | inl b ↦ begun_stays (with_begun turns.begins) b
                | inr e ↦ ended_stays (with_begun turns.begins) e
              ]
        ]

  -- ---- runs

  module _ (called : ListedAreCalled client) where
    abbrev GoesApart : List Step → Type 0
    GoesApart steps =
        (machine : Machine) (under_way : Bool) → IsUnderWay under_way (callers policy 0 machine.threads)
        → Alternate under_way (with_clauses policy (trace_from client machine steps)) → BeginApart policy Hold client machine steps

    apart_from : (steps : List Step) → GoesApart steps
    apart_from [] machine under_way is apart = tt
    apart_from (step ∷ steps) machine under_way is apart = by (stepped client machine step) refl (apart_from steps)
      where
        by : (o : Option (Machine × Option Event)) → stepped client machine step ≡ o → GoesApart steps
            → IfSome o (λ (m : Machine × Option Event). MayBegin policy Hold m.1 machine.threads × BeginApart policy Hold client m.0 steps)
        by None e later = tt
        by (Some made) e later =
            let its = map_of (λ (change : Change). (applied step.thread machine change, change.event))
            (changed client machine step) made e in
            let t = and_then_of (λ (thread : Thread). doing_stepped client machine step.thread thread thread.doing step.choice)
            (slice_get machine.threads step.thread) its.0 (unless (is_some machine.stopped) _ its.0 its.1) in
            let event_is : its.0.event ≡ made.1 = ap (λ (m : Machine × Option Event). m.1) its.2 in
            let events : trace_from client machine (step ∷ steps) ≡ option_to_list its.0.event ++ trace_from client made.0 steps =
            ap (λ (es : List Event). es ++ trace_from client (stepped_or_same client machine step) steps) (sees client machine step made e)
            ∙ ap (λ (m : Machine). option_to_list made.1 ++ trace_from client m steps) (comes_to client machine step made e)
            ∙ ap (λ (o : Option Event). option_to_list o ++ trace_from client made.0 steps) (sym event_is) in
            let s = stays machine.threads step.thread t.0 t.1 its.0 under_way is (trace_from client made.0 steps)
            (subst (λ (es : List Event). Alternate under_way (with_clauses policy es)) events apart)
            (does_turn machine step.thread t.0 called t.0.doing step.choice its.0 t.2) in (
              subst (λ (o : Option Event). MayBegin policy Hold o machine.threads) event_is s.begins,
              later made.0 s.under_way (subst (λ (m : Machine × Option Event). IsUnderWay s.under_way
                  (callers policy 0 m.0.threads)) its.2 s.is) s.later,
            )

    released_apart : (steps : List Step) (machine : Machine) → BeginApart policy Release client machine steps
    released_apart [] machine = tt
    released_apart (step ∷ steps) machine = by (stepped client machine step) (released_apart steps)
      where
        free : (event : Option Event) → MayBegin policy Release event machine.threads
        free None = tt
        free (Some (events.Call thread method arguments)) = λ hold has. absurd cc
        free (Some (events.Return thread method value)) = tt
        free (Some (events.Except thread method)) = tt

        by : (o : Option (Machine × Option Event)) → ((next : Machine) → BeginApart policy Release client next steps)
            → IfSome o
            (λ (m : Machine × Option Event). MayBegin policy Release m.1 machine.threads × BeginApart policy Release client m.0 steps)
        by None later = tt
        by (Some made) later = (free made.1, later made.0)

    pub begin_apart : (mode : Mode) (steps : List Step) (machine : Machine) → callers policy 0 machine.threads ≡ []
        → AreApart mode policy (trace_from client machine steps) → BeginApart policy mode client machine steps
    begin_apart Release steps machine none apart = released_apart steps machine
    begin_apart Hold steps machine none apart = apart_from steps machine false none apart
