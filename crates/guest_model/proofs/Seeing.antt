-- What the library sees of a step is of the thread that makes it, and a return gives what its method gives.
use Rattle.std.proofs.Common.{◌≡◌, ℕ, true, false, cond, List, [], ◌∷◌, ◌++◌, length, Option, Some, None, refl, sym, subst, ap, ◌∙◌}
use Rattle.std.specs.Prelude.{ℤ, pos, ◌||◌, Result, Ok, Err, Bool, is_some, slice_get, option_map}
use Rattle.std.specs.Option.{option_map_or, option_to_list}
use Rattle.std.specs.List.{AllByRecursion}
use Rattle.api_listing.specs.declared.descriptor.FieldType.{FieldType}
use Rattle.api_listing.specs.declared.events.ApiAnswer.{ApiAnswer}
use Rattle.api_listing.specs.declared.events.ApiAnswer.TheVariants as answers
use Rattle.api_listing.specs.declared.events.ApiValue.{ApiValue}
use Rattle.api_listing.specs.declared.events.ApiValue.TheVariants as api
use Rattle.api_listing.specs.declared.types.ListedMethod.{ListedMethod}
use Rattle.api_listing.specs.declared.events.Event.{Event}
use Rattle.api_listing.specs.declared.events.Event.TheVariants as events
use Rattle.insn_codec.specs.declared.insn.Insn.{Insn}
use Rattle.insn_codec.specs.declared.shape.Heap.{Heap}
use Rattle.insn_codec.specs.declared.shape.Heap.TheVariants as heap
use Rattle.insn_codec.specs.declared.shape.How.{How}
use Rattle.insn_codec.specs.declared.shape.How.TheVariants as hows
use Rattle.insn_codec.specs.declared.shape.ValueKind.{ValueKind}
use Rattle.insn_codec.specs.Shapes.{shape_of}
use Rattle.bytecode_model.specs.declared.program.Method.{Method}
use Rattle.bytecode_model.specs.declared.program.Program.{Program}
use Rattle.bytecode_model.specs.declared.program.Target.{Target}
use Rattle.bytecode_model.specs.declared.program.Target.TheVariants as target
use Rattle.bytecode_model.specs.SearchOrder.{Name}
use Rattle.guest_frames.specs.Stepping.{after, frame_stepped}
use Rattle.guest_frames.specs.Values.{is_null}
use Rattle.guest_heap.specs.declared.frame.Frame.{Frame}
use Rattle.guest_heap.specs.declared.object.Monitor.{Monitor}
use Rattle.guest_heap.specs.declared.object.Object.{Object}
use Rattle.guest_heap.specs.declared.object.Object.TheVariants as objects
use Rattle.guest_heap.specs.declared.thread.Doing.{Doing}
use Rattle.guest_heap.specs.declared.thread.Doing.TheVariants as doings
use Rattle.guest_heap.specs.declared.thread.Thread.{Thread}
use Rattle.guest_heap.specs.declared.value.Value.{Value}
use Rattle.guest_heap.specs.declared.value.Value.TheVariants as values
use Rattle.guest_model.specs.declared.builtin.Builtin.{Builtin}
use Rattle.guest_model.specs.declared.builtin.Builtin.TheVariants as builtins
use Rattle.guest_model.specs.declared.machine.Choice.{Choice}
use Rattle.guest_model.specs.declared.machine.Choice.TheVariants as choices
use Rattle.guest_model.specs.declared.machine.Machine.{Machine}
use Rattle.guest_model.specs.declared.machine.Step.{Step}
use Rattle.guest_model.specs.Answering.{answer_fits, answered, given, is_no_object, is_of, of_class, result_class, thrown_by}
use Rattle.guest_model.specs.Answers.{fits_number}
use Rattle.guest_model.specs.Throwing.{bare_object}
use Rattle.guest_model.specs.Builtins.{builtin_at, characters}
use Rattle.guest_model.specs.Calling.{Calling, aims, built_in, calls_given, calls_named, desc_named, enters_on, exits, goes_past, is_static_call, joined, joins, lacked, lacking, on_receiver, run_of, runs, runs_object, runs_target, started, starts, stopped_by, target_of, thread_of_value, waiting}
use Rattle.guest_model.specs.Calls.{arity, taken, types_of}
use Rattle.guest_model.specs.Changes.{Change, World, applied, enters_method, goes, lock_of, lock_taken, returned, world_of}
use Rattle.guest_model.specs.Finding.{Given, is_run, method_run}
use Rattle.guest_model.specs.Kinds.{class_of_value, is_thread}
use Rattle.guest_model.specs.Monitors.{entered, left}
use Rattle.guest_model.specs.Parts.{result_of}
use Rattle.guest_model.specs.Places.{insn_at, method_at}
use Rattle.guest_model.specs.Seen.{object_shown, string_of, value_shown, values_shown}
use Rattle.guest_model.specs.Seeing.{EventsAreOfTheirThread, IsGivenSo, IsNumberFor, SeesGiven, thread_of}
use Rattle.guest_model.specs.Runs.{seen, start_of, stepped_or_same, trace_from}
use Rattle.guest_model.specs.Stepping.{Acting, acts_on, call_stepped, changed, comes_to, doing_stepped, enters, frames_stepped, heap_in, heap_stepped, insn_stepped, is_on_null, leaves, left_with, returns, running_stepped, throws_top, operates}
use Rattle.guest_model.specs.HeapOperations.{heap_result}
use Rattle.guest_model.proofs.Options.{IfThere, all_append, if_either, if_holds, if_made, if_mapped, if_none, if_some, if_then, is_there, map_of, some_and, some_is, there_or}

-- What holds of an event that a step has: of none, of a call, of an exception, and of a return with what an answer gives.
module _ (program : Program) (number : ℕ) (P : Option Event → Type 0) (none : P None)
    (called : (method : ℕ) (arguments : List ApiValue) → P (Some (events.Call number method arguments)))
    (thrown : (method : ℕ) → P (Some (events.Except number method))) where
  abbrev SeesOwn : Change → Type 0
  SeesOwn change = P change.event

  abbrev OwnIf : Option Change → Type 0
  OwnIf change = IfThere SeesOwn change

  -- ---- going on, and returning

  went_own : (world : World) (thread : Thread) (below : List Frame) (frame : Option Frame)
      → OwnIf (option_map (λ (f : Frame). goes world thread (f ∷ below)) frame)
  went_own world thread below frame = if_mapped SeesOwn _ frame (λ f e. none)

  returned_own : (world : World) (thread : Thread) (frames : List Frame) (result : Option Value) (event : Option Event)
      → P event → OwnIf (returned program world thread frames result event)
  returned_own world thread [] result event own = if_some SeesOwn _ own
  returned_own world thread (caller ∷ below) result event own = if_mapped SeesOwn _ (after caller _) (λ f e. own)

  -- ---- calls

  module _ (machine : Machine) (c : Calling) (of : c.number ≡ number) where
    past_own : (world : World) (results : List Value) → OwnIf (goes_past world c results)
    past_own world results = went_own world c.thread c.below _

    receiver_own : (world : World) (f : Value → Option Change) → ((v : Value) → OwnIf (f v)) → OwnIf (on_receiver program world c f)
    receiver_own world f each =
        if_then SeesOwn _ c.passed.receiver (λ v e. if_either SeesOwn (is_null v) _ _ (if_some SeesOwn _ none) (each v))

    enters_own : (world : World) (to : Given) (receiver : Option Value) (arguments : List Value)
        → OwnIf (enters_method program world c.number c.thread (waiting c) to receiver arguments)
    enters_own world to receiver arguments =
        if_then SeesOwn _ (method_at program to.0 to.1)
        (λ method e. if_then SeesOwn _ (lock_taken world.monitors c.number (lock_of program to.0 method receiver))
        (λ held l. if_some SeesOwn _ none))

    started_own : (on : Value) (o : Option ℕ) → OwnIf (started program machine c on o)
    started_own on (Some n) = if_some SeesOwn _ none
    started_own on None = if_made SeesOwn SeesOwn _ _ (λ change own. own) (past_own _ [])

    starts_own : (on : Value) → OwnIf (starts program machine c on)
    starts_own on = if_then SeesOwn _ (thread_of_value machine.heap on) (λ n e. started_own on n)

    joined_own : (o : Option ℕ) → OwnIf (joined machine c o)
    joined_own None = past_own (world_of machine) []
    joined_own (Some n) = if_either SeesOwn _ _ _ (past_own (world_of machine) []) (if_none SeesOwn)

    joins_own : (on : Value) → OwnIf (joins machine c on)
    joins_own on = if_then SeesOwn _ (thread_of_value machine.heap on) (λ n e. joined_own n)

    runs_own : (world : World) (run : Option (Given × Value)) → OwnIf (runs program world c run)
    runs_own world None = past_own world []
    runs_own world (Some run) = enters_own world run.0 (Some run.1) []

    runs_target_own : (world : World) (on : Value) → OwnIf (runs_target program world c on)
    runs_target_own world on =
        if_either SeesOwn (option_map_or (is_thread program) (class_of_value world.heap on) _) _ _
        (runs_own world (run_of program world.heap (target_of world.heap on))) (past_own world [])

    own_run_own : (world : World) (on : Value)
        → OwnIf (option_map_or (λ run. runs program world c (Some run)) (run_of program world.heap on) (runs_target program world c on))
    own_run_own world on =
        there_or OwnIf _ (run_of program world.heap on) _ (runs_target_own world on) (λ run e. runs_own world (Some run))

    runs_object_own : (world : World) (how : How) (on : Value) → OwnIf (runs_object program world c how on)
    runs_object_own world hows.Special on = runs_target_own world on
    runs_object_own world hows.Virtual on = own_run_own world on
    runs_object_own world hows.Interface on = own_run_own world on
    runs_object_own world hows.Static on = if_none SeesOwn

    stopped_own : (world : World) (n : ℤ) → OwnIf (stopped_by world c n)
    stopped_own world n = if_made SeesOwn SeesOwn _ _ (λ change own. none) (past_own world [])

    exits_own : (world : World) → OwnIf (exits world c)
    exits_own world = if_then SeesOwn _ _ (λ n e. stopped_own world n)

    aims_own : (world : World) (on : Value) → OwnIf (aims world c on)
    aims_own world on = if_then SeesOwn _ (slice_get c.passed.arguments 0) (λ to e. past_own _ [])

    built_in_own : (how : How) (builtin : Builtin) → OwnIf (built_in program machine c how builtin)
    built_in_own how builtins.Make = past_own (world_of machine) []
    built_in_own how builtins.MakeOn = receiver_own (world_of machine) _ (aims_own (world_of machine))
    built_in_own how builtins.Start = receiver_own (world_of machine) _ starts_own
    built_in_own how builtins.Run = receiver_own (world_of machine) _ (runs_object_own (world_of machine) how)
    built_in_own how builtins.Join = receiver_own (world_of machine) _ joins_own
    built_in_own how builtins.Exit = exits_own (world_of machine)
    built_in_own how builtins.Length = receiver_own (world_of machine) _
        (λ on. past_own (world_of machine) (values.Int (pos (characters (string_of program machine.heap on))) ∷ []))

    lacking_own : (world : World) (method : Method) (on : Value) → OwnIf (lacking program world c method on)
    lacking_own world method on = if_either SeesOwn (is_run method) _ _ (runs_target_own world on) (if_some SeesOwn _ none)

    lacked_own : (world : World) (how : How) (method : Method) (on : Value) → OwnIf (lacked program world c how method on)
    lacked_own world hows.Virtual method on = lacking_own world method on
    lacked_own world hows.Interface method on = lacking_own world method on
    lacked_own world hows.Special method on = if_some SeesOwn _ none
    lacked_own world hows.Static method on = if_none SeesOwn

    enters_on_own : (world : World) (how : How) (to : Given) (method : Method) (on : Value)
        → OwnIf (enters_on program world c how to method on)
    enters_on_own world how to method on =
        if_then SeesOwn _ (class_of_value world.heap on)
        (λ class e. there_or OwnIf _ (method_run program c.frame.class how to method class) _ (lacked_own world how method on)
        (λ found f. enters_own world found c.passed.receiver c.passed.arguments))

    given_own : (world : World) (how : How) (to : Given) (method : Method) → OwnIf (calls_given program world c how to method)
    given_own world hows.Static to method = enters_own world to None c.passed.arguments
    given_own world hows.Special to method = receiver_own world _ (enters_on_own world hows.Special to method)
    given_own world hows.Virtual to method = receiver_own world _ (enters_on_own world hows.Virtual to method)
    given_own world hows.Interface to method = receiver_own world _ (enters_on_own world hows.Interface to method)

    named_own : (how : How) (ref : Target) → OwnIf (calls_named program machine c how ref)
    named_own how (target.ApiMethod index) =
        if_some SeesOwn _
        (subst (λ (n : ℕ). P (Some (events.Call n index (values_shown program machine.heap c.passed.arguments)))) (sym of)
        (called index (values_shown program machine.heap c.passed.arguments)))
    named_own how (target.Builtin index) = if_then SeesOwn _ (builtin_at index) (λ builtin e. built_in_own how builtin)
    named_own how (target.Method class method) =
        if_then SeesOwn _ (method_at program class method) (λ m e. given_own (world_of machine) how (class, method) m)
    named_own how target.None = if_none SeesOwn
    named_own how (target.Field class field) = if_none SeesOwn
    named_own how (target.ApiField index) = if_none SeesOwn
    named_own how (target.ClassName name) = if_none SeesOwn
    named_own how (target.Number n) = if_none SeesOwn
    named_own how (target.Literal index) = if_none SeesOwn

  -- ---- instructions

  module _ (machine : Machine) (a : Acting) (of : a.number ≡ number) (ref : Target) where
    acts_own : (world : World) (frame : Option Frame) → OwnIf (acts_on world a frame)
    acts_own world frame = went_own world a.thread a.below frame

    comes_own : (made : Result (World × List Value) Name) → OwnIf (comes_to program (world_of machine) a made)
    comes_own (Ok made) = acts_own made.0 _
    comes_own (Err class) = if_some SeesOwn _ none

    operates_own : (what : Heap) → OwnIf (operates program (world_of machine) a what ref)
    operates_own what = if_then SeesOwn _ (heap_result program (world_of machine) what ref a.frame.stack.items) (λ made e. comes_own made)

    enters_lock_own : (world : World) (on : Value) → OwnIf (enters program world a on)
    enters_lock_own world on =
        if_either SeesOwn (is_null on) _ _ (if_some SeesOwn _ none)
        (if_then SeesOwn _ (entered world.monitors a.number on) (λ held e. acts_own _ _))

    left_own : (world : World) (held : Option (List Monitor)) → OwnIf (left_with program world a held)
    left_own world None = if_some SeesOwn _ none
    left_own world (Some held) = acts_own _ _

    leaves_own : (world : World) (on : Value) → OwnIf (leaves program world a on)
    leaves_own world on = if_either SeesOwn (is_null on) _ _ (if_some SeesOwn _ none) (left_own world (left world.monitors a.number on))

    throws_top_own : (world : World) (v : Value) → OwnIf (throws_top program world a v)
    throws_top_own world v =
        if_either SeesOwn (is_null v) _ _ (if_some SeesOwn _ none) (if_mapped SeesOwn _ (class_of_value world.heap v) (λ class e. none))

    returns_own : (world : World) (kind : Option ValueKind) → OwnIf (returns program world a kind)
    returns_own world kind =
        if_then SeesOwn _ (result_of kind a.frame.stack.items)
        (λ result e. returned_own _ a.thread a.below result None none)

    heap_own : (what : Heap) → OwnIf (heap_stepped program machine a what ref)
    heap_own (heap.Call how) =
        if_then SeesOwn _ (desc_named program ref)
        (λ desc e. if_then SeesOwn _ (taken (is_static_call how) (arity desc) a.frame.stack.items)
        (λ passed f. named_own machine (record { number = a.number; thread = a.thread; frame = a.frame; below = a.below; passed = passed }) of how
        ref))
    heap_own heap.Throw = if_then SeesOwn _ (slice_get a.frame.stack.items 0) (λ v e. throws_top_own (world_of machine) v)
    heap_own heap.Enter = if_then SeesOwn _ (slice_get a.frame.stack.items 0) (λ v e. enters_lock_own (world_of machine) v)
    heap_own heap.Exit = if_then SeesOwn _ (slice_get a.frame.stack.items 0) (λ v e. leaves_own (world_of machine) v)
    heap_own (heap.Return kind) = returns_own (world_of machine) kind
    heap_own heap.Constant = operates_own heap.Constant
    heap_own (heap.ReadItem item) = operates_own (heap.ReadItem item)
    heap_own (heap.WriteItem item) = operates_own (heap.WriteItem item)
    heap_own (heap.Divide remainder) = operates_own (heap.Divide remainder)
    heap_own heap.ReadStatic = operates_own heap.ReadStatic
    heap_own heap.WriteStatic = operates_own heap.WriteStatic
    heap_own heap.ReadField = operates_own heap.ReadField
    heap_own heap.WriteField = operates_own heap.WriteField
    heap_own heap.New = operates_own heap.New
    heap_own (heap.NewArray kind) = operates_own (heap.NewArray kind)
    heap_own heap.NewArrayOf = operates_own heap.NewArrayOf
    heap_own heap.Length = operates_own heap.Length
    heap_own heap.Cast = operates_own heap.Cast
    heap_own heap.IsInstance = operates_own heap.IsInstance

    insn_own : (insn : Insn) → OwnIf (insn_stepped program machine a (insn, ref))
    insn_own insn =
        there_or OwnIf (λ what. heap_stepped program machine a what ref) (heap_in (shape_of insn)) _
        (acts_own (world_of machine) (frame_stepped insn a.frame)) (λ what e. heap_own what)

  -- ---- threads

  module _ (machine : Machine) (thread : Thread) where
    frames_own : (frames : List Frame) → OwnIf (frames_stepped program machine number thread frames)
    frames_own [] = if_none SeesOwn
    frames_own (frame ∷ below) =
        let a : Acting = record { number = number; thread = thread; frame = frame; below = below } in
        if_then SeesOwn _ (insn_at program frame) (λ next e. insn_own machine a refl next.1 next.0)

    module _ (returns_well : (method : ℕ) (listed : ListedMethod) (receiver : Option Value) (arguments : List Value) (answer : ApiAnswer)
        (gave : World × Option Value) → slice_get program.listing.methods method ≡ Some listed
        → answer_fits program machine.heap (types_of listed.id.desc).result receiver arguments answer ≡ true
        → given (world_of machine) receiver arguments answer ≡ Some gave
        → P (Some (events.Return number method (option_map (value_shown program gave.0.heap) gave.1)))) where
      answered_own : (method : ℕ) (receiver : Option Value) (arguments : List Value) (answer : ApiAnswer)
          → OwnIf (answered program (world_of machine) number thread method receiver arguments answer)
      answered_own method receiver arguments answer =
          if_then SeesOwn _ (slice_get program.listing.methods method)
          (λ listed e. if_holds SeesOwn (answer_fits program machine.heap (types_of listed.id.desc).result receiver arguments answer) _
          (λ fit. there_or OwnIf _ (thrown_by answer) _
          (if_then SeesOwn _ (given (world_of machine) receiver arguments answer)
          (λ gave f. returned_own gave.0 thread thread.frames gave.1 _ (returns_well method listed receiver arguments answer gave e fit f)))
          (λ class f. if_some SeesOwn _ (thrown method))))

      call_own : (method : ℕ) (receiver : Option Value) (arguments : List Value) (choice : Choice)
          → OwnIf (call_stepped program (world_of machine) number thread method receiver arguments choice)
      call_own method receiver arguments choices.Plain =
          if_either SeesOwn (is_on_null receiver) _ _ (if_some SeesOwn _ (thrown method)) (if_none SeesOwn)
      call_own method receiver arguments (choices.Answer answer) =
          if_either SeesOwn (is_on_null receiver) _ _ (if_none SeesOwn) (answered_own method receiver arguments answer)

      running_own : (choice : Choice) → OwnIf (running_stepped program machine number thread choice)
      running_own choices.Plain = frames_own thread.frames
      running_own (choices.Answer answer) = if_none SeesOwn

      does_own : (doing : Doing) (choice : Choice) → OwnIf (doing_stepped program machine number thread doing choice)
      does_own doings.Running choice = running_own choice
      does_own (doings.InCall method receiver arguments) choice = call_own method receiver arguments choice
      does_own doings.Ended choice = if_none SeesOwn

-- ---- whose it is

-- it is of the thread of this number, if there is one
abbrev IsOwn : ℕ → Option Event → Type 0
IsOwn number None = Unit {0}
IsOwn number (Some event) = thread_of event ≡ number

abbrev IsOwnChange : ℕ → Change → Type 0
IsOwnChange number change = IsOwn number change.event

changed_own : (program : Program) (machine : Machine) (step : Step) → IfThere (IsOwnChange step.thread) (changed program machine step)
changed_own program machine step =
    if_either (IsOwnChange step.thread) (is_some machine.stopped) _ _ (if_none (IsOwnChange step.thread))
    (if_then (IsOwnChange step.thread) _ (slice_get machine.threads step.thread)
    (λ thread e. does_own program step.thread (IsOwn step.thread) tt (λ method arguments. refl) (λ method. refl) machine thread
    (λ method listed receiver arguments answer gave there fit is. refl) thread.doing step.choice))

pub events_are_of_their_thread : EventsAreOfTheirThread
events_are_of_their_thread program machine after step event e =
    let m = map_of (λ (change : Change). (applied step.thread machine change, change.event)) (changed program machine step)
    (after, Some event) e in
    let own : IsOwn step.thread m.0.event = is_there (IsOwnChange step.thread) (changed program machine step) m.0 (changed_own program machine step) m.1 in
    subst (IsOwn step.thread) (ap (λ (made : Machine × Option Event). made.1) m.2) own

-- ---- what is returned

no_result : (o : Option Value) → option_map_or (λ (v : Value). false) o false ≡ true → ⊥
no_result None e = absurd cc
no_result (Some v) e = absurd cc

-- Of a method that gives something a value is given, and of another nothing.
gives_so : (program : Program) (world : World) (result : Option FieldType) (receiver : Option Value) (arguments : List Value) (answer : ApiAnswer)
    (gave : World × Option Value) → answer_fits program world.heap result receiver arguments answer ≡ true
    → given world receiver arguments answer ≡ Some gave → is_some gave.1 ≡ is_some result
gives_so program world None receiver arguments answers.Nothing gave fit e = ap (λ (g : World × Option Value). is_some g.1) (sym (some_is _ gave e))
gives_so program world (Some t) receiver arguments answers.Nothing gave fit e = absurd cc
gives_so program world None receiver arguments (answers.Int n) gave fit e = absurd cc
gives_so program world (Some t) receiver arguments (answers.Int n) gave fit e =
    ap (λ (g : World × Option Value). is_some g.1) (sym (some_is _ gave e))
gives_so program world None receiver arguments answers.Null gave fit e = absurd cc
gives_so program world (Some t) receiver arguments answers.Null gave fit e =
    ap (λ (g : World × Option Value). is_some g.1) (sym (some_is _ gave e))
gives_so program world None receiver arguments (answers.Text text) gave fit e = absurd cc
gives_so program world (Some t) receiver arguments (answers.Text text) gave fit e =
    ap (λ (g : World × Option Value). is_some g.1) (sym (some_is _ gave e))
gives_so program world None receiver arguments (answers.Fresh class) gave fit e = absurd cc
gives_so program world (Some t) receiver arguments (answers.Fresh class) gave fit e =
    ap (λ (g : World × Option Value). is_some g.1) (sym (some_is _ gave e))
gives_so program world None receiver arguments (answers.Arg i) gave fit e = absurd (no_result (slice_get arguments i) fit)
gives_so program world (Some t) receiver arguments (answers.Arg i) gave fit e =
    let m = map_of (λ (v : Value). (world, Some v)) (slice_get arguments i) gave e in
    ap (λ (g : World × Option Value). is_some g.1) (sym m.2)
gives_so program world None receiver arguments answers.Receiver gave fit e = absurd (no_result receiver fit)
gives_so program world (Some t) receiver arguments answers.Receiver gave fit e =
    let m = map_of (λ (v : Value). (world, Some v)) receiver gave e in
    ap (λ (g : World × Option Value). is_some g.1) (sym m.2)
gives_so program world result receiver arguments (answers.Throws class) gave fit e = absurd cc

no_test : {A : Type 0} (p : A → Bool) (o : Option A) → ((x : A) → p x ≡ false) → option_map_or p o false ≡ true → ⊥
no_test p None none e = absurd cc
no_test p (Some x) none e = let fails = none x in absurd cc

-- What is shown of a value that is no number is no number.
object_number : (program : Program) (result : Option FieldType) (at : ℕ) (o : Option Object)
    → IsNumberFor result (Some (option_map_or (object_shown program at) o api.Null))
object_number program result at None = tt
object_number program result at (Some (objects.Plain class fields on thread)) = plain_number _ where
  plain_number : (b : Bool) → IsNumberFor result (Some (cond b (api.Text []) (api.Obj class at)))
  plain_number true = tt
  plain_number false = tt
object_number program result at (Some (objects.Array desc items)) = tt
object_number program result at (Some (objects.Text text)) = tt

value_number : (program : Program) (result : Option FieldType) (heap : List Object) (v : Value)
    → ((n : ℤ) → v ≡ values.Int n → fits_number result n ≡ true) → IsNumberFor result (Some (value_shown program heap v))
value_number program result heap (values.Int n) number = number n refl
value_number program result heap values.Null number = tt
value_number program result heap (values.Ref at) number = object_number program result at (slice_get heap at)
value_number program result heap (values.Class index) number = tt
value_number program result heap (values.Lit index) number = tt

module _ (program : Program) (world : World) (result : Option FieldType) (receiver : Option Value) (arguments : List Value) where
  abbrev GivesNumberFor : World × Option Value → Type 0
  GivesNumberFor gave = IsNumberFor result (option_map (value_shown program gave.0.heap) gave.1)

  gives_number : (answer : ApiAnswer) (gave : World × Option Value) → answer_fits program world.heap result receiver arguments answer ≡ true
      → given world receiver arguments answer ≡ Some gave → GivesNumberFor gave
  gives_number answers.Nothing gave fit e = subst GivesNumberFor (some_is _ gave e) tt
  gives_number (answers.Int n) gave fit e = subst GivesNumberFor (some_is _ gave e) fit
  gives_number answers.Null gave fit e = subst GivesNumberFor (some_is _ gave e) tt
  gives_number (answers.Text text) gave fit e =
      subst GivesNumberFor (some_is _ gave e) (object_number program result (length world.heap) (slice_get (world.heap ++ objects.Text text ∷ []) (length world.heap)))
  gives_number (answers.Fresh class) gave fit e =
      subst GivesNumberFor (some_is _ gave e) (object_number program result (length world.heap) (slice_get (world.heap ++ bare_object class ∷ []) (length world.heap)))
  gives_number (answers.Arg i) gave fit e =
      let m = map_of (λ (v : Value). (world, Some v)) (slice_get arguments i) gave e in
      subst GivesNumberFor m.2
      (value_number program result world.heap m.0
      (λ n is. absurd (no_test (λ (name : Name). is_no_object (values.Int n) || is_of program world.heap (values.Int n) name) (result_class result) (λ name. refl)
      (passing n (slice_get arguments i) (m.1 ∙ ap (λ (v : Value). Some v) is) fit))))
    where
      passing : (n : ℤ) (o : Option Value) → o ≡ Some (values.Int n)
          → option_map_or (λ (v : Value). of_class result (λ name. is_no_object v || is_of program world.heap v name)) o false ≡ true
          → of_class result (λ name. is_no_object (values.Int n) || is_of program world.heap (values.Int n) name) ≡ true
      passing n o is h = subst (λ (a : Option Value). option_map_or (λ (v : Value). of_class result (λ name. is_no_object v || is_of program world.heap v name)) a false ≡ true) is h
  gives_number answers.Receiver gave fit e =
      let m = map_of (λ (v : Value). (world, Some v)) receiver gave e in
      subst GivesNumberFor m.2
      (value_number program result world.heap m.0
      (λ n is. absurd (no_test (is_of program world.heap (values.Int n)) (result_class result) (λ name. refl)
      (subst (λ (a : Option Value). option_map_or (λ (v : Value). of_class result (is_of program world.heap v)) a false ≡ true)
      (m.1 ∙ ap (λ (v : Value). Some v) is) fit))))
  gives_number (answers.Throws class) gave fit e = absurd cc

module _ (program : Program) where
  abbrev IsGivenIf : Option Event → Type 0
  IsGivenIf None = Unit {0}
  IsGivenIf (Some event) = IsGivenSo program event

  abbrev IsGivenChange : Change → Type 0
  IsGivenChange change = IsGivenIf change.event

  shown_some : (heap : List Object) (o : Option Value) → is_some (option_map (value_shown program heap) o) ≡ is_some o
  shown_some heap None = refl
  shown_some heap (Some v) = refl

  changed_given : (machine : Machine) (step : Step) → IfThere IsGivenChange (changed program machine step)
  changed_given machine step =
      if_either IsGivenChange (is_some machine.stopped) _ _ (if_none IsGivenChange)
      (if_then IsGivenChange _ (slice_get machine.threads step.thread)
      (λ thread e. does_own program step.thread IsGivenIf tt (λ method arguments. tt) (λ method. tt) machine thread
      (λ method listed receiver arguments answer gave there fit is.
      let same : is_some gave.1 ≡ is_some (types_of listed.id.desc).result =
      gives_so program (world_of machine) (types_of listed.id.desc).result receiver arguments answer gave fit is in
      let number = gives_number program (world_of machine) (types_of listed.id.desc).result receiver arguments answer gave fit is in
      some_and (λ (l : ListedMethod). (is_some (option_map (value_shown program gave.0.heap) gave.1) ≡ is_some (types_of l.id.desc).result)
      × IsNumberFor (types_of l.id.desc).result (option_map (value_shown program gave.0.heap) gave.1))
      (slice_get program.listing.methods method) listed there (shown_some gave.0.heap gave.1 ∙ same, number)) thread.doing step.choice))

  given_one : (event : Option Event) → IsGivenIf event → AllByRecursion (IsGivenSo program) (option_to_list event)
  given_one None h = tt
  given_one (Some event) h = (h, tt)

  given_in : (machine : Machine) (step : Step) (o : Option Change) → IfThere IsGivenChange o
      → AllByRecursion (IsGivenSo program)
      (option_map_or (λ (m : Machine × Option Event). option_to_list m.1)
      (option_map (λ (change : Change). (applied step.thread machine change, change.event)) o) [])
  given_in machine step None h = tt
  given_in machine step (Some change) h = given_one change.event (is_there IsGivenChange (Some change) change h refl)

  given_from : (steps : List Step) (machine : Machine) → AllByRecursion (IsGivenSo program) (trace_from program machine steps)
  given_from [] machine = tt
  given_from (step ∷ steps) machine =
      all_append (IsGivenSo program) (seen program machine step) (trace_from program (stepped_or_same program machine step) steps)
      (given_in machine step (changed program machine step) (changed_given machine step))
      (given_from steps (stepped_or_same program machine step))

  pub sees_given : SeesGiven program
  sees_given steps = given_from steps (start_of program)
