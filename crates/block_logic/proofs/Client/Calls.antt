-- Calls from the client's code of methods without a clause: what they pass is not the lock, and they lead into the client's code.
use Rattle.std.proofs.Common.{◌≡◌, ℕ, ℤ, false, List, [], ◌∷◌, ◌++◌, length, pos, Option, Some, None, refl, subst}
use Rattle.std.specs.Prelude.{IfSome, slice_get}
use Rattle.std.specs.Option.{option_map_or, option_or}
use Rattle.api_listing.specs.declared.events.Event.TheVariants as events
use Rattle.block_logic.specs.Annotations.{Annotations}
use Rattle.insn_codec.specs.declared.shape.How.{How}
use Rattle.insn_codec.specs.declared.shape.How.TheVariants as hows
use Rattle.bytecode_model.specs.declared.program.Method.{Method}
use Rattle.bytecode_model.specs.declared.program.Program.{Program}
use Rattle.bytecode_model.specs.declared.program.Target.{Target}
use Rattle.bytecode_model.specs.declared.program.Target.TheVariants as target
use Rattle.bytecode_model.specs.SearchOrder.{Name}
use Rattle.conspec_automaton.specs.declared.policy.Policy.{Policy}
use Rattle.conspec_automaton.specs.Next.{has_clauses}
use Rattle.guest_heap.specs.declared.frame.Frame.{Frame}
use Rattle.guest_heap.specs.declared.object.Object.{Object}
use Rattle.guest_heap.specs.declared.thread.Thread.{Thread}
use Rattle.guest_heap.specs.declared.value.Value.{Value}
use Rattle.guest_heap.specs.declared.value.Value.TheVariants as values
use Rattle.guest_frames.specs.Stepping.{after}
use Rattle.guest_frames.specs.Values.{is_null}
use Rattle.guest_model.specs.declared.builtin.Builtin.{Builtin}
use Rattle.guest_model.specs.declared.builtin.Builtin.TheVariants as builtins
use Rattle.guest_model.specs.declared.machine.Machine.{Machine}
use Rattle.guest_model.specs.Builtins.{builtin_at, characters}
use Rattle.guest_model.specs.Calling.{Calling, aimed_at, aims, built_in, call_throws, calls, calls_given, calls_library, calls_named, desc_named, enters_on, exits, goes_past, has_ended, is_static_call, joined, joins, lacked, lacking, on_receiver, run_of, runs, runs_object, runs_target, second_start, started, started_as, starts, stopped_by, target_of, thread_of_value, waiting, with_changed}
use Rattle.guest_model.specs.Calls.{arity, taken}
use Rattle.guest_model.specs.Changes.{Change, World, ends_thread, enters_method, with_heap, world_of}
use Rattle.guest_model.specs.Finding.{Given, is_run, method_run}
use Rattle.guest_model.specs.Kinds.{class_of_value, is_thread}
use Rattle.guest_model.specs.Parts.{null_pointer}
use Rattle.guest_model.specs.Places.{insn_at, method_at}
use Rattle.guest_model.specs.Seen.{string_of, values_shown}
use Rattle.guest_model.proofs.Options.{all_append, all_get, if_either, if_made, if_none, if_some, if_then, is_there, there_or}
use Rattle.block_logic.specs.Fitting.{AreBelow, ArePassed, state_of}
use Rattle.block_logic.specs.Meaning.{AreClean, IsBelow, IsClean}
use Rattle.block_logic.specs.Operands.{has_clause}
use Rattle.block_logic.proofs.Client.Answers.{without_clause}
use Rattle.block_logic.proofs.Client.Begins.{RunsClean, begun_client}
use Rattle.block_logic.proofs.Client.Changes.{Good, GoodIf, Keeps, after_free, changes, ends_good, enters_good, throws_new_good, went_on}
use Rattle.block_logic.proofs.Client.Frames.{Laws, goes_after, moved_frame}
use Rattle.block_logic.proofs.Client.Passing.{PassesClean, aimed_clean, changed_clean, own_or_target, run_clean, some_of, started_clean, taken_clean, target_clean, there_is}
use Rattle.block_logic.proofs.Client.Throws.{below_catching}
use Rattle.block_logic.proofs.Client.Values.{IsCleanHeap, kept_heap}

module _ (program : Program) (policy : Policy) (annotations : Annotations) (laws : Laws program policy annotations)
    (machine : Machine)
    (kept : Keeps program policy annotations (world_of machine) (world_of machine)) where
  abbrev shared : World
  shared = world_of machine

  abbrev IsGood : Change → Type 0
  IsGood change = Good program policy annotations (world_of machine) change

  abbrev Makes : Option Change → Type 0
  Makes change = GoodIf program policy annotations (world_of machine) change

  abbrev Stays : World → Type 0
  Stays world = Keeps program policy annotations (world_of machine) world

  module _ (c : Calling) (frame : IsBelow program policy annotations c.frame) (below : AreBelow program policy annotations c.below)
      (passes : PassesClean program c.passed) where
    throws_there : (class : Name) → IsGood (call_throws program shared c class)
    throws_there class =
        throws_new_good program policy annotations laws shared shared c.number c.thread (c.frame ∷ c.below) class None kept
        (below_catching program policy annotations laws (c.frame ∷ c.below) (frame, below)) tt

    past_good : (world : World) (results : List Value) → Stays world → AreClean program results → Makes (goes_past world c results)
    past_good world results k clean =
        let items : List Value = results ++ c.passed.beneath in
        went_on program policy annotations laws shared world c.thread (after c.frame items) c.below k
        (after_free program policy annotations c.frame items c.below frame.well
        (goes_after program policy annotations laws c.frame frame)
        (all_append (IsClean program) results c.passed.beneath clean passes.beneath) below)

    goes_good : Makes (goes_past shared c [])
    goes_good = past_good shared [] kept tt

    receiver_good : (f : Value → Option Change) → ((v : Value) → IsClean program v → Makes (f v)) → Makes (on_receiver program shared c f)
    receiver_good f each =
        if_then IsGood _ c.passed.receiver
        (λ v e. if_either IsGood (is_null v) _ _ (if_some IsGood _ (throws_there null_pointer))
        (each v (there_is (IsClean program) c.passed.receiver v passes.passed.0 e)))

    -- the frames that wait stand where they did
    they_wait : AreBelow program policy annotations (waiting c)
    they_wait = (
      record {
        well = moved_frame program policy annotations c.frame c.frame.at c.frame.locals c.passed.beneath frame.well frame.well.locals;
        insn = frame.insn;
        ref = frame.ref;
        there = frame.there;
        call = frame.call;
        unclaused = frame.unclaused;
        free = frame.free;
        clean = passes.beneath;
      },
      below,
    )

    method_good : (to : Given) (receiver : Option Value) (arguments : List Value) → ArePassed program receiver arguments
        → Makes (enters_method program shared c.number c.thread (waiting c) to receiver arguments)
    method_good to receiver arguments passed =
        enters_good program policy annotations laws shared shared c.number c.thread (waiting c) to receiver arguments kept they_wait
        passed

    -- ---- threads

    with_heap_good : (heap : List Object) → IsCleanHeap program heap → Makes (goes_past (with_heap shared heap) c [])
    with_heap_good heap clean = past_good (with_heap shared heap) [] (kept_heap program (state_of program policy annotations) shared shared kept heap clean) tt

    started_good : (on : Value) → IsClean program on → (number : Option ℕ) → Makes (started program machine c on number)
    started_good on clean (Some number) = if_some IsGood _ (throws_there second_start)
    started_good on clean None =
        let run = option_or (run_of program machine.heap on) (run_of program machine.heap (target_of machine.heap on)) in
        let started = started_as (length machine.threads) in
        if_made IsGood IsGood _ _
        (λ change good. record {
          world = good.world;
          locks = good.locks;
          variables = good.variables;
          thread = good.thread;
          begins = begun_client program policy annotations laws run (own_or_target program machine.heap on clean kept.clean.heap);
          event = good.event;
        })
        (with_heap_good (with_changed machine.heap on started)
        (changed_clean program machine.heap on started (started_clean program (length machine.threads)) kept.clean.heap))

    starts_good : (on : Value) → IsClean program on → Makes (starts program machine c on)
    starts_good on clean = if_then IsGood _ (thread_of_value machine.heap on) (λ number e. started_good on clean number)

    joined_good : (number : Option ℕ) → Makes (joined machine c number)
    joined_good None = goes_good
    joined_good (Some number) = if_either IsGood (has_ended machine number) _ _ goes_good (if_none IsGood)

    joins_good : (on : Value) → Makes (joins machine c on)
    joins_good on = if_then IsGood _ (thread_of_value machine.heap on) (λ number e. joined_good number)

    runs_good : (run : Option (Given × Value)) → IfSome run (RunsClean program) → Makes (runs program shared c run)
    runs_good None clean = goes_good
    runs_good (Some run) clean = method_good run.0 (Some run.1) [] (clean, tt)

    runs_target_good : (on : Value) → Makes (runs_target program shared c on)
    runs_target_good on =
        let target = target_of machine.heap on in
        if_either IsGood (option_map_or (is_thread program) (class_of_value machine.heap on) false) _ _
        (runs_good (run_of program machine.heap target)
        (some_of (RunsClean program) _ (run_clean program machine.heap target (target_clean program machine.heap on kept.clean.heap)))) goes_good

    own_run_good : (on : Value) → IsClean program on
        → Makes (option_map_or (λ run. runs program shared c (Some run)) (run_of program machine.heap on) (runs_target program shared c on))
    own_run_good on clean =
        there_or Makes _ (run_of program machine.heap on) _ (runs_target_good on)
        (λ run e. runs_good (Some run) (is_there (RunsClean program) _ run (run_clean program machine.heap on clean) e))

    runs_object_good : (how : How) (on : Value) → IsClean program on → Makes (runs_object program shared c how on)
    runs_object_good hows.Special on clean = runs_target_good on
    runs_object_good hows.Virtual on clean = own_run_good on clean
    runs_object_good hows.Interface on clean = own_run_good on clean
    runs_object_good hows.Static on clean = if_none IsGood

    -- ---- built-in methods

    stopped_good : (n : ℤ) → Makes (stopped_by shared c n)
    stopped_good n =
        if_made IsGood IsGood _ _
        (λ change good. record {
          world = good.world;
          locks = good.locks;
          variables = good.variables;
          thread = good.thread;
          begins = tt;
          event = tt;
        }) goes_good

    exits_good : Makes (exits shared c)
    exits_good = if_then IsGood _ _ (λ n e. stopped_good n)

    aims_good : (on : Value) → Makes (aims shared c on)
    aims_good on =
        if_then IsGood _ (slice_get c.passed.arguments 0)
        (λ to e. with_heap_good (with_changed machine.heap on (aimed_at to))
        (changed_clean program machine.heap on (aimed_at to)
        (aimed_clean program to (all_get (IsClean program) c.passed.arguments 0 to passes.passed.1 e)) kept.clean.heap))

    built_in_good : (how : How) (builtin : Builtin) → Makes (built_in program machine c how builtin)
    built_in_good how builtins.Make = goes_good
    built_in_good how builtins.MakeOn = receiver_good _ (λ on clean. aims_good on)
    built_in_good how builtins.Start = receiver_good _ starts_good
    built_in_good how builtins.Run = receiver_good _ (runs_object_good how)
    built_in_good how builtins.Join = receiver_good _ (λ on clean. joins_good on)
    built_in_good how builtins.Exit = exits_good
    built_in_good how builtins.Length =
        receiver_good _ (λ on clean. past_good shared (values.Int (pos (characters (string_of program machine.heap on))) ∷ []) kept (refl, tt))

    -- ---- given methods

    ends_here : Makes (Some (ends_thread shared c.number (c.frame ∷ c.below)))
    ends_here =
        if_some IsGood _
        (ends_good program policy annotations laws shared shared c.number (c.frame ∷ c.below) kept
        (below_catching program policy annotations laws (c.frame ∷ c.below) (frame, below)))

    lacking_good : (method : Method) (on : Value) → Makes (lacking program shared c method on)
    lacking_good method on = if_either IsGood (is_run method) _ _ (runs_target_good on) ends_here

    lacked_good : (how : How) (method : Method) (on : Value) → Makes (lacked program shared c how method on)
    lacked_good hows.Virtual method on = lacking_good method on
    lacked_good hows.Interface method on = lacking_good method on
    lacked_good hows.Special method on = ends_here
    lacked_good hows.Static method on = if_none IsGood

    enters_on_good : (how : How) (to : Given) (method : Method) (on : Value) → Makes (enters_on program shared c how to method on)
    enters_on_good how to method on =
        if_then IsGood _ (class_of_value machine.heap on)
        (λ class e. there_or Makes _ (method_run program c.frame.class how to method class) _ (lacked_good how method on)
        (λ found f. method_good found c.passed.receiver c.passed.arguments passes.passed))

    given_good : (how : How) (to : Given) (method : Method) → Makes (calls_given program shared c how to method)
    given_good hows.Static to method = method_good to None c.passed.arguments (tt, passes.passed.1)
    given_good hows.Special to method = receiver_good _ (λ on clean. enters_on_good hows.Special to method on)
    given_good hows.Virtual to method = receiver_good _ (λ on clean. enters_on_good hows.Virtual to method on)
    given_good hows.Interface to method = receiver_good _ (λ on clean. enters_on_good hows.Interface to method on)

    -- ---- methods of the library, and calls by what they name

    library_good : (index : ℕ) → frame.ref ≡ target.ApiMethod index → IsGood (calls_library program shared c index)
    library_good index is =
        let unclaused : has_clauses policy index ≡ false = subst (λ (ref : Target). has_clause policy ref ≡ false) is frame.unclaused in
        let at_call : insn_at program c.frame ≡ Some (frame.insn, target.ApiMethod index) =
        subst (λ (ref : Target). insn_at program c.frame ≡ Some (frame.insn, ref)) is frame.there in
        let shown = values_shown program machine.heap c.passed.arguments in
        changes program policy annotations laws shared (calls_library program shared c index) kept (
          unclaused,
          (
            they_wait.0.well,
            record { insn = frame.insn; there = at_call; call = frame.call; told = frame.free; clean = passes.beneath },
            below,
          ),
          passes.passed,
        ) tt (without_clause policy (events.Call c.number index shown) unclaused)

    named_good : (how : How) (ref : Target) → frame.ref ≡ ref → Makes (calls_named program machine c how ref)
    named_good how (target.ApiMethod index) is = if_some IsGood _ (library_good index is)
    named_good how (target.Builtin index) is = if_then IsGood _ (builtin_at index) (λ builtin e. built_in_good how builtin)
    named_good how (target.Method class method) is = if_then IsGood _ (method_at program class method) (λ m e. given_good how (class, method) m)
    named_good how target.None is = if_none IsGood
    named_good how (target.Field class field) is = if_none IsGood
    named_good how (target.ApiField index) is = if_none IsGood
    named_good how (target.ClassName name) is = if_none IsGood
    named_good how (target.Number n) is = if_none IsGood
    named_good how (target.Literal index) is = if_none IsGood

  pub calls_good : (number : ℕ) (thread : Thread) (frame : Frame) (below : List Frame) (how : How) (b : IsBelow program policy annotations frame)
      → AreBelow program policy annotations below → Makes (calls program machine number thread frame below how b.ref)
  calls_good number thread frame below how b waits =
      if_then IsGood _ (desc_named program b.ref)
      (λ desc e. if_then IsGood _ (taken (is_static_call how) (arity desc) frame.stack.items)
      (λ passed f. named_good (record { number = number; thread = thread; frame = frame; below = below; passed = passed }) b waits
      (is_there (PassesClean program) _ passed (taken_clean program (is_static_call how) (arity desc) frame.stack.items b.clean) f) how b.ref refl))
