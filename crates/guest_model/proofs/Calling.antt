-- A call from a place of the set is well, whatever it names.
use Rattle.std.proofs.Common.{◌≡◌, ℕ, ℤ, false, List, [], ◌∷◌, ◌++◌, Option, Some, None}
use Rattle.std.specs.Prelude.{pos, slice_get}
use Rattle.std.specs.List.{AllByRecursion}
use Rattle.std.specs.Option.{option_map_or, option_or}
use Rattle.insn_codec.specs.declared.insn.Insn.{Insn}
use Rattle.insn_codec.specs.declared.shape.Heap.TheVariants as heap
use Rattle.insn_codec.specs.declared.shape.How.{How}
use Rattle.insn_codec.specs.declared.shape.How.TheVariants as hows
use Rattle.insn_codec.specs.declared.shape.Shape.TheVariants as shapes
use Rattle.insn_codec.specs.Shapes.{shape_of}
use Rattle.bytecode_model.specs.declared.program.Method.{Method}
use Rattle.bytecode_model.specs.declared.program.Program.{Program}
use Rattle.bytecode_model.specs.declared.program.Target.{Target}
use Rattle.bytecode_model.specs.declared.program.Target.TheVariants as target
use Rattle.bytecode_model.specs.SearchOrder.{Name}
use Rattle.guest_heap.specs.declared.frame.Frame.{Frame}
use Rattle.guest_heap.specs.declared.thread.Thread.{Thread}
use Rattle.guest_heap.specs.declared.value.Value.{Value}
use Rattle.guest_heap.specs.declared.value.Value.TheVariants as values
use Rattle.guest_model.specs.declared.machine.Machine.{Machine}
use Rattle.guest_model.specs.Calls.{arity, taken}
use Rattle.guest_model.specs.Places.{method_at}
use Rattle.guest_model.specs.ClosedPlaces.{Places, IsAt, HasInsns, IsClosed}
use Rattle.guest_model.specs.Parts.{null_pointer, running}
use Rattle.guest_frames.specs.Values.{is_null}
use Rattle.guest_model.specs.declared.builtin.Builtin.{Builtin}
use Rattle.guest_model.specs.declared.builtin.Builtin.TheVariants as builtins
use Rattle.guest_model.specs.Builtins.{builtin_at, characters}
use Rattle.guest_model.specs.Calling.{Calling, waiting, goes_past, on_receiver, run_of, target_of, begun_thread, thread_of_value, has_ended, second_start, started, starts, joined, joins, runs, runs_target, runs_object, stopped_by, exits, aims, built_in, lacking, lacked, enters_on, calls_given, calls_library, desc_named, is_static_call, calls_named, calls, call_throws}
use Rattle.guest_model.specs.Changes.{World, Change, world_of, ends_thread, ended_thread, frame_of, enters_method, lock_of, lock_taken, with_monitors}
use Rattle.guest_model.specs.Finding.{Given, is_run, method_run}
use Rattle.guest_model.specs.Kinds.{class_of_value, is_thread}
use Rattle.guest_model.specs.Seen.{string_of}
use Rattle.guest_model.proofs.Going.{CallsFrom, Waits, Standing, Well, Good, ended_well, called, went_on, goes_good, after_call, begun_stands}
use Rattle.guest_model.proofs.Options.{IfThere, if_none, if_some, if_either, if_then, if_made, there_or}
use Rattle.guest_model.proofs.Throwing.{throws_new_good}

module _ (program : Program) (reached : Places) (sound : HasInsns program) (closed : IsClosed program reached) where
  abbrev IsGood : Change → Type 0
  IsGood change = Good program reached change

  abbrev GoodIf : Option Change → Type 0
  GoodIf change = IfThere IsGood change

  ends_good : (world : World) (number : ℕ) (frames : List Frame) → IsGood (ends_thread world number frames)
  ends_good world number frames = record { well = ended_well program reached; begins = tt; seen = tt }

  -- the thread that a start begins
  begun_well : (run : Option (Given × Value)) → Well program reached (begun_thread program run)
  begun_well None = ended_well program reached
  begun_well (Some run) =
      let begins : Method → Thread = λ method. running (frame_of program run.0 method (Some run.1) [] ∷ []) [] in
      there_or (Well program reached) begins (method_at program run.0.0 run.0.1) ended_thread (ended_well program reached)
      (λ method e. record {
        frames = record { stand = (begun_stands program reached sound closed run.0 method (Some run.1) [], tt); wait = tt };
        does = tt;
      })

  module _ (machine : Machine) (c : Calling) (stands : Standing program reached (c.frame ∷ c.below)) (ref : Target)
      (from : CallsFrom program reached c.frame ref) where
    throws_there : (world : World) (class : Name) → IsGood (call_throws program world c class)
    throws_there world class = throws_new_good program reached closed world c.number c.thread (c.frame ∷ c.below) class None stands tt

    past_good : (world : World) (results : List Value) → GoodIf (goes_past world c results)
    past_good world results =
        let waits : Waits program reached c.frame = record { ref = ref; at_call = from } in
        went_on program reached world c.thread c.below _
        (after_call program reached sound closed c.frame stands.stand.0 waits (results ++ c.passed.beneath))
        stands.stand.1 stands.wait

    receiver_good : (world : World) (f : Value → Option Change) → ((v : Value) → GoodIf (f v)) → GoodIf (on_receiver program world c f)
    receiver_good world f each =
        if_then IsGood _ c.passed.receiver
        (λ v e. if_either IsGood (is_null v) _ _ (if_some IsGood _ (throws_there world null_pointer)) (each v))

    -- the frames that wait stand where they did
    waiting_wait : AllByRecursion (Waits program reached) (waiting c)
    waiting_wait =
        (record { ref = ref; at_call = record { insn = from.insn; there = from.there; how = from.how; calls = from.calls } }, stands.wait)

    enters_good : (world : World) (to : Given) (receiver : Option Value) (arguments : List Value)
        → GoodIf (enters_method program world c.number c.thread (waiting c) to receiver arguments)
    enters_good world to receiver arguments =
        if_then IsGood _ (method_at program to.0 to.1)
        (λ method e. if_then IsGood _ (lock_taken world.monitors c.number (lock_of program to.0 method receiver))
        (λ held l. if_some IsGood _
        (goes_good program reached (with_monitors world held) c.thread (frame_of program to method receiver arguments ∷ waiting c) (record {
          stand = (begun_stands program reached sound closed to method receiver arguments, stands.stand);
          wait = waiting_wait;
        }))))

    -- ---- threads

    started_good : (on : Value) (number : Option ℕ) → GoodIf (started program machine c on number)
    started_good on (Some number) = if_some IsGood _ (throws_there (world_of machine) second_start)
    started_good on None =
        let run = option_or (run_of program machine.heap on) (run_of program machine.heap (target_of machine.heap on)) in
        if_made IsGood IsGood _ _ (λ change good. record { well = good.well; begins = (begun_well run, tt); seen = good.seen })
        (past_good _ [])

    starts_good : (on : Value) → GoodIf (starts program machine c on)
    starts_good on = if_then IsGood _ (thread_of_value machine.heap on) (λ number e. started_good on number)

    joined_good : (number : Option ℕ) → GoodIf (joined machine c number)
    joined_good None = past_good (world_of machine) []
    joined_good (Some number) = if_either IsGood (has_ended machine number) _ _ (past_good (world_of machine) []) (if_none IsGood)

    joins_good : (on : Value) → GoodIf (joins machine c on)
    joins_good on = if_then IsGood _ (thread_of_value machine.heap on) (λ number e. joined_good number)

    runs_good : (world : World) (run : Option (Given × Value)) → GoodIf (runs program world c run)
    runs_good world None = past_good world []
    runs_good world (Some run) = enters_good world run.0 (Some run.1) []

    runs_target_good : (world : World) (on : Value) → GoodIf (runs_target program world c on)
    runs_target_good world on =
        if_either IsGood (option_map_or (is_thread program) (class_of_value world.heap on) false) _ _
        (runs_good world (run_of program world.heap (target_of world.heap on))) (past_good world [])

    own_run_good : (world : World) (on : Value)
        → GoodIf (option_map_or (λ run. runs program world c (Some run)) (run_of program world.heap on) (runs_target program world c on))
    own_run_good world on =
        there_or GoodIf _ (run_of program world.heap on) _ (runs_target_good world on) (λ run e. runs_good world (Some run))

    runs_object_good : (world : World) (how : How) (on : Value) → GoodIf (runs_object program world c how on)
    runs_object_good world hows.Special on = runs_target_good world on
    runs_object_good world hows.Virtual on = own_run_good world on
    runs_object_good world hows.Interface on = own_run_good world on
    runs_object_good world hows.Static on = if_none IsGood

    -- ---- built-in methods

    stopped_good : (world : World) (n : ℤ) → GoodIf (stopped_by world c n)
    stopped_good world n =
        if_made IsGood IsGood _ _ (λ change good. record { well = good.well; begins = tt; seen = tt }) (past_good world [])

    exits_good : (world : World) → GoodIf (exits world c)
    exits_good world = if_then IsGood _ _ (λ n e. stopped_good world n)

    aims_good : (world : World) (on : Value) → GoodIf (aims world c on)
    aims_good world on = if_then IsGood _ (slice_get c.passed.arguments 0) (λ to e. past_good _ [])

    built_in_good : (how : How) (builtin : Builtin) → GoodIf (built_in program machine c how builtin)
    built_in_good how builtins.Make = past_good (world_of machine) []
    built_in_good how builtins.MakeOn = receiver_good (world_of machine) _ (aims_good (world_of machine))
    built_in_good how builtins.Start = receiver_good (world_of machine) _ starts_good
    built_in_good how builtins.Run = receiver_good (world_of machine) _ (runs_object_good (world_of machine) how)
    built_in_good how builtins.Join = receiver_good (world_of machine) _ joins_good
    built_in_good how builtins.Exit = exits_good (world_of machine)
    built_in_good how builtins.Length =
        receiver_good (world_of machine) _
        (λ on. past_good (world_of machine) (values.Int (pos (characters (string_of program machine.heap on))) ∷ []))

    -- ---- given methods

    lacking_good : (world : World) (method : Method) (on : Value) → GoodIf (lacking program world c method on)
    lacking_good world method on =
        if_either IsGood (is_run method) _ _ (runs_target_good world on)
        (if_some IsGood _ (ends_good world c.number (c.frame ∷ c.below)))

    lacked_good : (world : World) (how : How) (method : Method) (on : Value) → GoodIf (lacked program world c how method on)
    lacked_good world hows.Virtual method on = lacking_good world method on
    lacked_good world hows.Interface method on = lacking_good world method on
    lacked_good world hows.Special method on = if_some IsGood _ (ends_good world c.number (c.frame ∷ c.below))
    lacked_good world hows.Static method on = if_none IsGood

    enters_on_good : (world : World) (how : How) (to : Given) (method : Method) (on : Value)
        → GoodIf (enters_on program world c how to method on)
    enters_on_good world how to method on =
        if_then IsGood _ (class_of_value world.heap on)
        (λ class e. there_or GoodIf _ (method_run program c.frame.class how to method class) _ (lacked_good world how method on)
        (λ found f. enters_good world found c.passed.receiver c.passed.arguments))

    given_good : (world : World) (how : How) (to : Given) (method : Method) → GoodIf (calls_given program world c how to method)
    given_good world hows.Static to method = enters_good world to None c.passed.arguments
    given_good world hows.Special to method = receiver_good world _ (enters_on_good world hows.Special to method)
    given_good world hows.Virtual to method = receiver_good world _ (enters_on_good world hows.Virtual to method)
    given_good world hows.Interface to method = receiver_good world _ (enters_on_good world hows.Interface to method)

  -- ---- methods of the library, and calls by what they name

  library_good : (world : World) (c : Calling) (listed : ℕ) → Standing program reached (c.frame ∷ c.below)
      → CallsFrom program reached c.frame (target.ApiMethod listed) → IsGood (calls_library program world c listed)
  library_good world c listed stands from = record {
    well = record {
      frames = record { stand = stands.stand; wait = stands.wait };
      does = record { insn = from.insn; there = from.there; how = from.how; calls = from.calls };
    };
    begins = tt;
    seen = called program reached c.frame listed stands.stand.0 from;
  }

  named_good : (machine : Machine) (c : Calling) (how : How) (ref : Target) → Standing program reached (c.frame ∷ c.below)
      → CallsFrom program reached c.frame ref → GoodIf (calls_named program machine c how ref)
  named_good machine c how (target.ApiMethod listed) stands from = if_some IsGood _ (library_good (world_of machine) c listed stands from)
  named_good machine c how (target.Builtin index) stands from =
      if_then IsGood _ (builtin_at index) (λ builtin e. built_in_good machine c stands (target.Builtin index) from how builtin)
  named_good machine c how (target.Method class method) stands from =
      if_then IsGood _ (method_at program class method)
      (λ m e. given_good machine c stands (target.Method class method) from (world_of machine) how (class, method) m)
  named_good machine c how target.None stands from = if_none IsGood
  named_good machine c how (target.Field class field) stands from = if_none IsGood
  named_good machine c how (target.ApiField index) stands from = if_none IsGood
  named_good machine c how (target.ClassName name) stands from = if_none IsGood
  named_good machine c how (target.Number n) stands from = if_none IsGood
  named_good machine c how (target.Literal index) stands from = if_none IsGood

  pub calls_good : (machine : Machine) (number : ℕ) (thread : Thread) (frame : Frame) (below : List Frame) (how : How)
      (insn : Insn) (ref : Target) → Standing program reached (frame ∷ below) → IsAt program frame.class frame.method frame.at insn ref
      → shape_of insn ≡ shapes.Heap (heap.Call how)
      → GoodIf (calls program machine number thread frame below how ref)
  calls_good machine number thread frame below how insn ref stands there shape =
      if_then IsGood _ (desc_named program ref)
      (λ desc e. if_then IsGood _ (taken (is_static_call how) (arity desc) frame.stack.items)
      (λ passed f. named_good machine (record { number = number; thread = thread; frame = frame; below = below; passed = passed }) how ref
      stands (record { insn = insn; there = there; how = how; calls = shape })))
