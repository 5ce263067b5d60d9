-- What holds of the threads and of the event of each change that a step makes, where it holds of threads that go on or have ended, and of
-- calls of the library.
use Rattle.std.proofs.Common.{◌≡◌, ℕ, List, [], ◌∷◌, length, Option, Some, None, refl}
use Rattle.std.specs.Prelude.{ℤ, pos, IfSome, Result, Ok, Err, slice_get, option_map}
use Rattle.std.specs.Option.{option_map_or, option_or}
use Rattle.api_listing.specs.declared.events.ApiAnswer.{ApiAnswer}
use Rattle.api_listing.specs.declared.events.ApiValue.{ApiValue}
use Rattle.api_listing.specs.declared.events.Event.{Event}
use Rattle.api_listing.specs.declared.events.Event.TheVariants as events
use Rattle.insn_codec.specs.declared.insn.Insn.{Insn}
use Rattle.insn_codec.specs.declared.shape.Heap.{Heap}
use Rattle.insn_codec.specs.declared.shape.Heap.TheVariants as heap
use Rattle.insn_codec.specs.declared.shape.How.{How}
use Rattle.insn_codec.specs.declared.shape.How.TheVariants as hows
use Rattle.insn_codec.specs.declared.shape.ValueKind.{ValueKind}
use Rattle.insn_codec.specs.Shapes.{shape_of}
use Rattle.bytecode_model.specs.declared.program.Method.{Method}
use Rattle.bytecode_model.specs.declared.program.Program.{Program}
use Rattle.bytecode_model.specs.declared.program.Target.{Target}
use Rattle.bytecode_model.specs.declared.program.Target.TheVariants as target
use Rattle.bytecode_model.specs.SearchOrder.{Name}
use Rattle.guest_frames.specs.Stepping.{after, frame_stepped}
use Rattle.guest_frames.specs.Values.{is_null}
use Rattle.guest_heap.specs.declared.frame.Frame.{Frame}
use Rattle.guest_heap.specs.declared.object.Monitor.{Monitor}
use Rattle.guest_heap.specs.declared.thread.Thread.{Thread}
use Rattle.guest_heap.specs.declared.value.Value.{Value}
use Rattle.guest_heap.specs.declared.value.Value.TheVariants as values
use Rattle.guest_model.specs.declared.builtin.Builtin.{Builtin}
use Rattle.guest_model.specs.declared.builtin.Builtin.TheVariants as builtins
use Rattle.guest_model.specs.declared.machine.Choice.{Choice}
use Rattle.guest_model.specs.declared.machine.Choice.TheVariants as choices
use Rattle.guest_model.specs.declared.machine.Machine.{Machine}
use Rattle.guest_model.specs.Answering.{answer_fits, answered, given, thrown_by}
use Rattle.guest_model.specs.Builtins.{builtin_at, characters}
use Rattle.guest_model.specs.Calling.{Calling, aims, begun_thread, built_in, calls_given, calls_library, calls_named, desc_named, enters_on, exits, goes_past, is_static_call, joined, joins, lacked, lacking, on_receiver, run_of, runs, runs_object, runs_target, second_start, started, starts, stopped_by, target_of, thread_of_value, waiting}
use Rattle.guest_model.specs.Calls.{Taken, arity, taken, types_of}
use Rattle.guest_model.specs.Changes.{Change, World, ended_thread, enters_method, goes, lock_of, lock_taken, rests, returned, throws, throws_new, with_object, world_of}
use Rattle.guest_model.specs.Finding.{Given, is_run, method_run}
use Rattle.guest_model.specs.HeapOperations.{heap_result}
use Rattle.guest_model.specs.Kinds.{class_of_value, is_thread}
use Rattle.guest_model.specs.Monitors.{entered, left}
use Rattle.guest_model.specs.Parts.{bad_monitor, null_pointer, result_of, running, thrown_thread}
use Rattle.guest_model.specs.Places.{insn_at, method_at}
use Rattle.guest_model.specs.Seen.{string_of, value_shown}
use Rattle.guest_model.specs.Stepping.{Acting, acts_on, acts_throwing, call_stepped, comes_to, enters, frames_stepped, heap_in, heap_stepped, insn_stepped, is_on_null, leaves, left_with, operates, returns, throws_top}
use Rattle.guest_model.specs.Throwing.{bare_object, unwound}
use Rattle.guest_model.proofs.Options.{IfThere, if_either, if_holds, if_made, if_mapped, if_none, if_some, if_then, there_or}

module _ (program : Program) (Q : Thread → Type 0) (E : Option Event → Type 0)
    (goes_well : (frames : List Frame) (to_begin : List (ℕ × ℕ)) → Q (running frames to_begin)) (ends_well : Q ended_thread)
    (silent : E None) where
  -- So it is of the thread of the change, of one that begins, and of what is seen.
  pub record Still (change : Change) : Type 0 where
    pub event : E change.event
    pub thread : Q change.thread
    pub begins : IfSome change.begins Q

  abbrev pub StillIf : Option Change → Type 0
  StillIf change = IfThere Still change

  -- ---- threads that go on, return, throw or begin

  thrown_still : (frames : List Frame) (to_begin : List (ℕ × ℕ)) → Q (thrown_thread frames to_begin)
  thrown_still [] to_begin = ends_well
  thrown_still (frame ∷ below) to_begin = goes_well (frame ∷ below) to_begin

  throws_still : (world : World) (number : ℕ) (thread : Thread) (frames : List Frame) (v : Value) (class : Name) (event : Option Event)
      → E event
      → Still (throws program world number thread frames v class event)
  throws_still world number thread frames v class event free = record {
    event = free;
    thread = thrown_still (unwound program v class frames) thread.to_begin;
    begins = tt;
  }

  new_still : (world : World) (number : ℕ) (thread : Thread) (frames : List Frame) (class : Name) (event : Option Event) → E event
      → Still (throws_new program world number thread frames class event)
  new_still world number thread frames class event free =
      throws_still (with_object world (bare_object class)) number thread frames (values.Ref (length world.heap)) class event free

  rests_still : (to_begin : List Given) → Q (rests program to_begin)
  rests_still [] = ends_well
  rests_still (next ∷ to_begin) = goes_well _ to_begin

  begun_by : (o : Option Method) (f : Method → List Frame)
      → Q (option_map_or (λ (m : Method). running (f m) []) o ended_thread)
  begun_by None f = ends_well
  begun_by (Some m) f = goes_well (f m) []

  begun_still : (run : Option (Given × Value)) → Q (begun_thread program run)
  begun_still None = ends_well
  begun_still (Some run) = begun_by (method_at program run.0.0 run.0.1) _

  went_still : (world : World) (thread : Thread) (below : List Frame) (frame : Option Frame)
      → StillIf (option_map (λ (f : Frame). goes world thread (f ∷ below)) frame)
  went_still world thread below frame =
      if_mapped Still _ frame (λ f e. record { event = silent; thread = goes_well (f ∷ below) thread.to_begin; begins = tt })

  returned_still : (world : World) (thread : Thread) (frames : List Frame) (result : Option Value) (event : Option Event)
      → E event → StillIf (returned program world thread frames result event)
  returned_still world thread [] result event free =
      if_some Still _ (record { event = free; thread = rests_still thread.to_begin; begins = tt })
  returned_still world thread (caller ∷ below) result event free =
      if_mapped Still _ (after caller _) (λ f e. record { event = free; thread = goes_well (f ∷ below) thread.to_begin; begins = tt })

  -- ---- calls

  module _ (machine : Machine) (c : Calling) where
    past_still : (world : World) (results : List Value) → StillIf (goes_past world c results)
    past_still world results = went_still world c.thread c.below _

    receiver_still : (world : World) (f : Value → Option Change) → ((v : Value) → StillIf (f v)) → StillIf (on_receiver program world c f)
    receiver_still world f each =
        if_then Still _ c.passed.receiver
        (λ v e. if_either Still (is_null v) _ _
        (if_some Still _ (new_still world c.number c.thread (c.frame ∷ c.below) null_pointer None silent)) (each v))

    enters_still : (world : World) (to : Given) (receiver : Option Value) (arguments : List Value)
        → StillIf (enters_method program world c.number c.thread (waiting c) to receiver arguments)
    enters_still world to receiver arguments =
        if_then Still _ (method_at program to.0 to.1)
        (λ method e. if_then Still _ (lock_taken world.monitors c.number (lock_of program to.0 method receiver))
        (λ held l. if_some Still _ (record { event = silent; thread = goes_well _ c.thread.to_begin; begins = tt })))

    started_still : (on : Value) (o : Option ℕ) → StillIf (started program machine c on o)
    started_still on (Some n) =
        if_some Still _ (new_still (world_of machine) c.number c.thread (c.frame ∷ c.below) second_start None silent)
    started_still on None =
        if_made Still Still _ _
        (λ change own. record {
          event = own.event;
          thread = own.thread;
          begins = begun_still (option_or (run_of program machine.heap on) (run_of program machine.heap (target_of machine.heap on)));
        }) (past_still _ [])

    starts_still : (on : Value) → StillIf (starts program machine c on)
    starts_still on = if_then Still _ (thread_of_value machine.heap on) (λ n e. started_still on n)

    joined_still : (o : Option ℕ) → StillIf (joined machine c o)
    joined_still None = past_still (world_of machine) []
    joined_still (Some n) = if_either Still _ _ _ (past_still (world_of machine) []) (if_none Still)

    joins_still : (on : Value) → StillIf (joins machine c on)
    joins_still on = if_then Still _ (thread_of_value machine.heap on) (λ n e. joined_still n)

    runs_still : (world : World) (run : Option (Given × Value)) → StillIf (runs program world c run)
    runs_still world None = past_still world []
    runs_still world (Some run) = enters_still world run.0 (Some run.1) []

    runs_target_still : (world : World) (on : Value) → StillIf (runs_target program world c on)
    runs_target_still world on =
        if_either Still (option_map_or (is_thread program) (class_of_value world.heap on) _) _ _
        (runs_still world (run_of program world.heap (target_of world.heap on))) (past_still world [])

    own_run_still : (world : World) (on : Value)
        → StillIf (option_map_or (λ run. runs program world c (Some run)) (run_of program world.heap on) (runs_target program world c on))
    own_run_still world on =
        there_or StillIf _ (run_of program world.heap on) _ (runs_target_still world on) (λ run e. runs_still world (Some run))

    runs_object_still : (world : World) (how : How) (on : Value) → StillIf (runs_object program world c how on)
    runs_object_still world hows.Special on = runs_target_still world on
    runs_object_still world hows.Virtual on = own_run_still world on
    runs_object_still world hows.Interface on = own_run_still world on
    runs_object_still world hows.Static on = if_none Still

    stopped_still : (world : World) (n : ℤ) → StillIf (stopped_by world c n)
    stopped_still world n =
        if_made Still Still _ _ (λ change own. record { event = silent; thread = own.thread; begins = tt }) (past_still world [])

    exits_still : (world : World) → StillIf (exits world c)
    exits_still world = if_then Still _ _ (λ n e. stopped_still world n)

    aims_still : (world : World) (on : Value) → StillIf (aims world c on)
    aims_still world on = if_then Still _ (slice_get c.passed.arguments 0) (λ to e. past_still _ [])

    built_in_still : (how : How) (builtin : Builtin) → StillIf (built_in program machine c how builtin)
    built_in_still how builtins.Make = past_still (world_of machine) []
    built_in_still how builtins.MakeOn = receiver_still (world_of machine) _ (aims_still (world_of machine))
    built_in_still how builtins.Start = receiver_still (world_of machine) _ starts_still
    built_in_still how builtins.Run = receiver_still (world_of machine) _ (runs_object_still (world_of machine) how)
    built_in_still how builtins.Join = receiver_still (world_of machine) _ joins_still
    built_in_still how builtins.Exit = exits_still (world_of machine)
    built_in_still how builtins.Length = receiver_still (world_of machine) _
        (λ on. past_still (world_of machine) (values.Int (pos (characters (string_of program machine.heap on))) ∷ []))

    lacking_still : (world : World) (method : Method) (on : Value) → StillIf (lacking program world c method on)
    lacking_still world method on =
        if_either Still (is_run method) _ _ (runs_target_still world on)
        (if_some Still _ (record { event = silent; thread = ends_well; begins = tt }))

    lacked_still : (world : World) (how : How) (method : Method) (on : Value) → StillIf (lacked program world c how method on)
    lacked_still world hows.Virtual method on = lacking_still world method on
    lacked_still world hows.Interface method on = lacking_still world method on
    lacked_still world hows.Special method on = if_some Still _ (record { event = silent; thread = ends_well; begins = tt })
    lacked_still world hows.Static method on = if_none Still

    enters_on_still : (world : World) (how : How) (to : Given) (method : Method) (on : Value)
        → StillIf (enters_on program world c how to method on)
    enters_on_still world how to method on =
        if_then Still _ (class_of_value world.heap on)
        (λ class e. there_or StillIf _ (method_run program c.frame.class how to method class) _ (lacked_still world how method on)
        (λ found f. enters_still world found c.passed.receiver c.passed.arguments))

    given_still : (world : World) (how : How) (to : Given) (method : Method) → StillIf (calls_given program world c how to method)
    given_still world hows.Static to method = enters_still world to None c.passed.arguments
    given_still world hows.Special to method = receiver_still world _ (enters_on_still world hows.Special to method)
    given_still world hows.Virtual to method = receiver_still world _ (enters_on_still world hows.Virtual to method)
    given_still world hows.Interface to method = receiver_still world _ (enters_on_still world hows.Interface to method)

    named_still : (how : How) (ref : Target)
        → ((index : ℕ) → ref ≡ target.ApiMethod index → Still (calls_library program (world_of machine) c index))
        → StillIf (calls_named program machine c how ref)
    named_still how (target.ApiMethod index) free = if_some Still _ (free index refl)
    named_still how (target.Builtin index) free = if_then Still _ (builtin_at index) (λ builtin e. built_in_still how builtin)
    named_still how (target.Method class method) free =
        if_then Still _ (method_at program class method) (λ m e. given_still (world_of machine) how (class, method) m)
    named_still how target.None free = if_none Still
    named_still how (target.Field class field) free = if_none Still
    named_still how (target.ApiField index) free = if_none Still
    named_still how (target.ClassName name) free = if_none Still
    named_still how (target.Number n) free = if_none Still
    named_still how (target.Literal index) free = if_none Still

  -- ---- instructions

  -- Where the frame's instruction calls a method of the library.
  abbrev pub IsFree : Machine → Acting → Target → Type 0
  IsFree machine a ref =
      (passed : Taken) (index : ℕ) → ref ≡ target.ApiMethod index
      → Still (calls_library program (world_of machine)
      (record { number = a.number; thread = a.thread; frame = a.frame; below = a.below; passed = passed }) index)

  module _ (machine : Machine) (a : Acting) (ref : Target) (free : IsFree machine a ref) where
    throws_here : (world : World) (class : Name) → StillIf (Some (acts_throwing program world a class))
    throws_here world class = if_some Still _ (new_still world a.number a.thread (a.frame ∷ a.below) class None silent)

    acts_still : (world : World) (frame : Option Frame) → StillIf (acts_on world a frame)
    acts_still world frame = went_still world a.thread a.below frame

    comes_still : (made : Result (World × List Value) Name) → StillIf (comes_to program (world_of machine) a made)
    comes_still (Ok made) = acts_still made.0 _
    comes_still (Err class) = throws_here (world_of machine) class

    operates_still : (what : Heap) → StillIf (operates program (world_of machine) a what ref)
    operates_still what = if_then Still _ (heap_result program (world_of machine) what ref a.frame.stack.items) (λ made e. comes_still made)

    enters_lock_still : (world : World) (on : Value) → StillIf (enters program world a on)
    enters_lock_still world on =
        if_either Still (is_null on) _ _ (throws_here world null_pointer)
        (if_then Still _ (entered world.monitors a.number on) (λ held e. acts_still _ _))

    left_still : (world : World) (held : Option (List Monitor)) → StillIf (left_with program world a held)
    left_still world None = throws_here world bad_monitor
    left_still world (Some held) = acts_still _ _

    leaves_still : (world : World) (on : Value) → StillIf (leaves program world a on)
    leaves_still world on =
        if_either Still (is_null on) _ _ (throws_here world null_pointer) (left_still world (left world.monitors a.number on))

    throws_top_still : (world : World) (v : Value) → StillIf (throws_top program world a v)
    throws_top_still world v =
        if_either Still (is_null v) _ _ (throws_here world null_pointer)
        (if_mapped Still _ (class_of_value world.heap v)
        (λ class e. throws_still world a.number a.thread (a.frame ∷ a.below) v class None silent))

    returns_still : (world : World) (kind : Option ValueKind) → StillIf (returns program world a kind)
    returns_still world kind =
        if_then Still _ (result_of kind a.frame.stack.items)
        (λ result e. returned_still _ a.thread a.below result None silent)

    heap_still : (what : Heap) → StillIf (heap_stepped program machine a what ref)
    heap_still (heap.Call how) =
        if_then Still _ (desc_named program ref)
        (λ desc e. if_then Still _ (taken (is_static_call how) (arity desc) a.frame.stack.items)
        (λ passed f. named_still machine
        (record { number = a.number; thread = a.thread; frame = a.frame; below = a.below; passed = passed }) how
        ref (free passed)))
    heap_still heap.Throw = if_then Still _ (slice_get a.frame.stack.items 0) (λ v e. throws_top_still (world_of machine) v)
    heap_still heap.Enter = if_then Still _ (slice_get a.frame.stack.items 0) (λ v e. enters_lock_still (world_of machine) v)
    heap_still heap.Exit = if_then Still _ (slice_get a.frame.stack.items 0) (λ v e. leaves_still (world_of machine) v)
    heap_still (heap.Return kind) = returns_still (world_of machine) kind
    heap_still heap.Constant = operates_still heap.Constant
    heap_still (heap.ReadItem item) = operates_still (heap.ReadItem item)
    heap_still (heap.WriteItem item) = operates_still (heap.WriteItem item)
    heap_still (heap.Divide remainder) = operates_still (heap.Divide remainder)
    heap_still heap.ReadStatic = operates_still heap.ReadStatic
    heap_still heap.WriteStatic = operates_still heap.WriteStatic
    heap_still heap.ReadField = operates_still heap.ReadField
    heap_still heap.WriteField = operates_still heap.WriteField
    heap_still heap.New = operates_still heap.New
    heap_still (heap.NewArray kind) = operates_still (heap.NewArray kind)
    heap_still heap.NewArrayOf = operates_still heap.NewArrayOf
    heap_still heap.Length = operates_still heap.Length
    heap_still heap.Cast = operates_still heap.Cast
    heap_still heap.IsInstance = operates_still heap.IsInstance

    insn_still : (insn : Insn) → StillIf (insn_stepped program machine a (insn, ref))
    insn_still insn =
        there_or StillIf (λ what. heap_stepped program machine a what ref) (heap_in (shape_of insn)) _
        (acts_still (world_of machine) (frame_stepped insn a.frame)) (λ what e. heap_still what)

  -- ---- threads

  module _ (machine : Machine) (number : ℕ) (thread : Thread) where
    pub frames_still : (frames : List Frame)
        → ((frame : Frame) (below : List Frame) (next : Insn × Target) → frames ≡ frame ∷ below → insn_at program frame ≡ Some next
        → IsFree machine (record { number = number; thread = thread; frame = frame; below = below }) next.1)
        → StillIf (frames_stepped program machine number thread frames)
    frames_still [] free = if_none Still
    frames_still (frame ∷ below) free =
        let a : Acting = record { number = number; thread = thread; frame = frame; below = below } in
        if_then Still _ (insn_at program frame) (λ next e. insn_still machine a next.1 (free frame below next refl e) next.0)

    module _ (method : ℕ) (returns_well : (value : Option ApiValue) → E (Some (events.Return number method value)))
        (throws_well : E (Some (events.Except number method))) where
      answered_still : (receiver : Option Value) (arguments : List Value) (answer : ApiAnswer)
          → StillIf (answered program (world_of machine) number thread method receiver arguments answer)
      answered_still receiver arguments answer =
          if_then Still _ (slice_get program.listing.methods method)
          (λ listed e. if_holds Still (answer_fits program machine.heap (types_of listed.id.desc).result receiver arguments answer) _
          (λ fit. there_or StillIf _ (thrown_by answer) _
          (if_then Still _ (given (world_of machine) receiver arguments answer)
          (λ gave f. returned_still gave.0 thread thread.frames gave.1 _
          (returns_well (option_map (value_shown program gave.0.heap) gave.1))))
          (λ class f. if_some Still _
          (new_still (world_of machine) number thread thread.frames class (Some (events.Except number method)) throws_well))))

      pub call_still : (receiver : Option Value) (arguments : List Value) (choice : Choice)
          → StillIf (call_stepped program (world_of machine) number thread method receiver arguments choice)
      call_still receiver arguments choices.Plain =
          if_either Still (is_on_null receiver) _ _
          (if_some Still _ (new_still (world_of machine) number thread thread.frames null_pointer
          (Some (events.Except number method)) throws_well)) (if_none Still)
      call_still receiver arguments (choices.Answer answer) =
          if_either Still (is_on_null receiver) _ _ (if_none Still) (answered_still receiver arguments answer)
