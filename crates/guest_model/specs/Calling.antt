-- What calls do: of given methods, of built-in ones, and of the library's. (The Java Virtual Machine Specification, section 6.5,
-- invokevirtual to invokeinterface; docs/MACHINE.md)
use Rattle.std.specs.Prelude.{ℕ, ℤ, pos, Bool, true, false, not, codes, if◌then◌else◌, List, [], ◌∷◌, ◌++◌, length, slice_get, slice_set, Option, Some, None, option_map, option_and_then}
use Rattle.std.specs.Option.{option_map_or, option_or}
use Rattle.api_listing.specs.BuiltIn.{MethodRow, method_rows}
use Rattle.api_listing.specs.declared.events.Event.TheVariants as events
use Rattle.api_listing.specs.declared.types.ListedMethod.{ListedMethod}
use Rattle.insn_codec.specs.declared.shape.How.{How}
use Rattle.insn_codec.specs.declared.shape.How.TheVariants as hows
use Rattle.bytecode_model.specs.declared.program.Method.{Method}
use Rattle.bytecode_model.specs.declared.program.Program.{Program}
use Rattle.bytecode_model.specs.declared.program.Target.{Target}
use Rattle.bytecode_model.specs.declared.program.Target.TheVariants as target
use Rattle.bytecode_model.specs.InsnPlace.{has_receiver}
use Rattle.bytecode_model.specs.SearchOrder.{Name}
use Rattle.guest_heap.specs.declared.frame.Frame.{Frame}
use Rattle.guest_heap.specs.declared.object.Object.{Object}
use Rattle.guest_heap.specs.declared.object.Object.TheVariants as objects
use Rattle.guest_heap.specs.declared.thread.Doing.{Doing}
use Rattle.guest_heap.specs.declared.thread.Doing.TheVariants as doings
use Rattle.guest_heap.specs.declared.thread.Thread.{Thread}
use Rattle.guest_heap.specs.declared.value.Value.{Value}
use Rattle.guest_heap.specs.declared.value.Value.TheVariants as values
use Rattle.guest_model.specs.declared.machine.Machine.{Machine}
use Rattle.guest_model.specs.Calls.{Taken, arity, taken}
use Rattle.guest_model.specs.Places.{method_at}
use Rattle.guest_frames.specs.Stepping.{after, moved_to}
use Rattle.guest_model.specs.Parts.{null_pointer, number_in, running}
use Rattle.guest_frames.specs.Values.{is_null}
use Rattle.guest_model.specs.declared.builtin.Builtin.{Builtin}
use Rattle.guest_model.specs.declared.builtin.Builtin.TheVariants as builtins
use Rattle.guest_model.specs.Builtins.{builtin_at, characters}
use Rattle.guest_model.specs.Changes.{World, Change, world_of, with_heap, goes, ends_thread, ended_thread, throws_new, frame_of, enters_method}
use Rattle.guest_model.specs.Finding.{Given, client_run, is_run, method_run}
use Rattle.guest_model.specs.Kinds.{class_of_value, is_thread}
use Rattle.guest_model.specs.Seen.{string_of, values_shown}
use Rattle.guest_model.specs.Options.{◌>>=◌}

-- A call under way: the thread and its number, the frame that calls, those below it, and what it passes.
pub record Calling : Type 0 where
  pub number : ℕ
  pub thread : Thread
  pub frame : Frame
  pub below : List Frame
  pub passed : Taken

-- the frames that wait for the end of the call: the caller without what it passes, still at its call
abbrev pub waiting : Calling → List Frame
waiting c = moved_to c.frame c.frame.at c.frame.locals c.passed.beneath ∷ c.below

-- the call is over at once, and leaves these operands above the others
abbrev pub goes_past : World → Calling → List Value → Option Change
goes_past world c results = option_map (λ (f : Frame). goes world c.thread (f ∷ c.below)) (after c.frame (results ++ c.passed.beneath))

-- it throws a new object of the class
abbrev pub call_throws : Program → World → Calling → Name → Change
call_throws program world c class = throws_new program world c.number c.thread (c.frame ∷ c.below) class None

-- the receiver, which is no null
abbrev pub on_receiver : Program → World → Calling → (Value → Option Change) → Option Change
on_receiver program world c f =
    option_and_then (λ (v : Value). if is_null v then Some (call_throws program world c null_pointer) else f v) c.passed.receiver

-- ---- threads

-- what an object that is to be run gives: its own `run`, with the object
abbrev pub run_of : Program → List Object → Value → Option (Given × Value)
run_of program heap on = do
  class ← class_of_value heap on
  to ← client_run program class
  Some (to, on)

-- the target of an object, which is null of one that is no Thread
abbrev pub target_in : Object → Value
target_in (objects.Plain class fields target thread) = target
target_in (objects.Array desc items) = values.Null
target_in (objects.Text text) = values.Null

abbrev pub target_of : List Object → Value → Value
target_of heap (values.Int n) = values.Null
target_of heap values.Null = values.Null
target_of heap (values.Ref at) = option_map_or target_in (slice_get heap at) values.Null
target_of heap (values.Class index) = values.Null
target_of heap (values.Lit index) = values.Null

-- the thread that begins with this `run`, or has ended at once
abbrev pub begun_thread : Program → Option (Given × Value) → Thread
begun_thread program None = ended_thread
begun_thread program (Some run) =
    option_map_or (λ (method : Method). running (frame_of program run.0 method (Some run.1) [] ∷ []) []) (method_at program run.0.0 run.0.1) ended_thread

-- the object, as that of the thread with this number
abbrev pub started_as : ℕ → Object → Object
started_as number (objects.Plain class fields target thread) = objects.Plain class fields target (Some number)
started_as number (objects.Array desc items) = objects.Array desc items
started_as number (objects.Text text) = objects.Text text

-- the object with this target
abbrev pub aimed_at : Value → Object → Object
aimed_at on (objects.Plain class fields target thread) = objects.Plain class fields on thread
aimed_at on (objects.Array desc items) = objects.Array desc items
aimed_at on (objects.Text text) = objects.Text text

-- the number of the thread that was started by the object, if one was
abbrev pub thread_in : Object → Option ℕ
thread_in (objects.Plain class fields target thread) = thread
thread_in (objects.Array desc items) = None
thread_in (objects.Text text) = None

-- the same of a reference; nothing of a number, of null, and of no object of the heap
abbrev pub thread_of_value : List Object → Value → Option (Option ℕ)
thread_of_value heap (values.Int n) = None
thread_of_value heap values.Null = None
thread_of_value heap (values.Ref at) = option_map thread_in (slice_get heap at)
thread_of_value heap (values.Class index) = Some None
thread_of_value heap (values.Lit index) = Some None

-- the heap with the object of the reference changed
abbrev pub with_changed : List Object → Value → (Object → Object) → List Object
with_changed heap (values.Int n) f = heap
with_changed heap values.Null f = heap
with_changed heap (values.Ref at) f = option_map_or (λ (object : Object). slice_set heap at (f object)) (slice_get heap at) heap
with_changed heap (values.Class index) f = heap
with_changed heap (values.Lit index) f = heap

abbrev pub is_ended : Doing → Bool
is_ended doings.Running = false
is_ended (doings.InCall method receiver arguments) = false
is_ended doings.Ended = true

-- whether the thread of this number has ended
abbrev pub has_ended : Machine → ℕ → Bool
has_ended machine number = option_map_or (λ (t : Thread). is_ended t.doing) (slice_get machine.threads number) false

abbrev pub with_begun : Change → Thread → Change
with_begun change thread = record { world = change.world; thread = change.thread; begins = Some thread; stops = change.stops; event = change.event }

abbrev pub second_start : Name
second_start = codes "java/lang/IllegalThreadStateException"

-- starting a thread, which gets the next number: it runs the object's own `run`, or else that of its target
abbrev pub started : Program → Machine → Calling → Value → Option ℕ → Option Change
started program machine c on (Some number) = Some (call_throws program (world_of machine) c second_start)
started program machine c on None =
    option_map (λ (change : Change). with_begun change (begun_thread program (option_or (run_of program machine.heap on) (run_of program machine.heap (target_of machine.heap on)))))
    (goes_past (with_heap (world_of machine) (with_changed machine.heap on (started_as (length machine.threads)))) c [])

abbrev pub starts : Program → Machine → Calling → Value → Option Change
starts program machine c on = option_and_then (started program machine c on) (thread_of_value machine.heap on)

-- waiting for a thread: nothing while it is started and has not ended
abbrev pub joined : Machine → Calling → Option ℕ → Option Change
joined machine c None = goes_past (world_of machine) c []
joined machine c (Some number) = if has_ended machine number then goes_past (world_of machine) c [] else None

abbrev pub joins : Machine → Calling → Value → Option Change
joins machine c on = option_and_then (joined machine c) (thread_of_value machine.heap on)

-- calling a `run`, or going past where there is none
abbrev pub runs : Program → World → Calling → Option (Given × Value) → Option Change
runs program world c None = goes_past world c []
runs program world c (Some run) = enters_method program world c.number c.thread (waiting c) run.0 (Some run.1) []

-- Thread's own `run`: that of its target; of an object that is no Thread nothing
abbrev pub runs_target : Program → World → Calling → Value → Option Change
runs_target program world c on =
    if option_map_or (is_thread program) (class_of_value world.heap on) false then runs program world c (run_of program world.heap (target_of world.heap on)) else goes_past world c []

-- a call of `run` that names no given method: the object's own, or else Thread's; of the very method Thread's
abbrev pub runs_object : Program → World → Calling → How → Value → Option Change
runs_object program world c hows.Special on = runs_target program world c on
runs_object program world c hows.Virtual on = option_map_or (λ run. runs program world c (Some run)) (run_of program world.heap on) (runs_target program world c on)
runs_object program world c hows.Interface on = option_map_or (λ run. runs program world c (Some run)) (run_of program world.heap on) (runs_target program world c on)
runs_object program world c hows.Static on = None

-- ---- built-in methods

abbrev pub stopped_by : World → Calling → ℤ → Option Change
stopped_by world c n =
    option_map (λ (change : Change). record { world = change.world; thread = change.thread; begins = None; stops = Some n; event = None }) (goes_past world c [])

abbrev pub exits : World → Calling → Option Change
exits world c = option_and_then (stopped_by world c) (option_and_then number_in (slice_get c.passed.arguments 0))

abbrev pub aims : World → Calling → Value → Option Change
aims world c on = option_and_then (λ (to : Value). goes_past (with_heap world (with_changed world.heap on (aimed_at to))) c []) (slice_get c.passed.arguments 0)

abbrev pub built_in : Program → Machine → Calling → How → Builtin → Option Change
built_in program machine c how builtins.Make = goes_past (world_of machine) c []
built_in program machine c how builtins.MakeOn = on_receiver program (world_of machine) c (aims (world_of machine) c)
built_in program machine c how builtins.Start = on_receiver program (world_of machine) c (starts program machine c)
built_in program machine c how builtins.Run = on_receiver program (world_of machine) c (runs_object program (world_of machine) c how)
built_in program machine c how builtins.Join = on_receiver program (world_of machine) c (joins machine c)
built_in program machine c how builtins.Exit = exits (world_of machine) c
built_in program machine c how builtins.Length =
    on_receiver program (world_of machine) c (λ on. goes_past (world_of machine) c (values.Int (pos (characters (string_of program machine.heap on))) ∷ []))

-- ---- given methods

-- A class that lacks the method: of `run` what Thread does; of any other the thread ends.
abbrev pub lacking : Program → World → Calling → Method → Value → Option Change
lacking program world c method on = if is_run method then runs_target program world c on else Some (ends_thread world c.number (c.frame ∷ c.below))

-- what is done where the class has no such method
abbrev pub lacked : Program → World → Calling → How → Method → Value → Option Change
lacked program world c hows.Virtual method on = lacking program world c method on
lacked program world c hows.Interface method on = lacking program world c method on
lacked program world c hows.Special method on = Some (ends_thread world c.number (c.frame ∷ c.below))
lacked program world c hows.Static method on = None

-- the call of a given method on an object of the class
abbrev pub enters_of : Program → World → Calling → How → Given → Method → Value → Name → Option Change
enters_of program world c how to method on class =
    option_map_or (λ (found : Given). enters_method program world c.number c.thread (waiting c) found c.passed.receiver c.passed.arguments)
    (method_run program c.frame.class how to method class) (lacked program world c how method on)

abbrev pub enters_on : Program → World → Calling → How → Given → Method → Value → Option Change
enters_on program world c how to method on = option_and_then (enters_of program world c how to method on) (class_of_value world.heap on)

abbrev pub calls_given : Program → World → Calling → How → Given → Method → Option Change
calls_given program world c hows.Static to method = enters_method program world c.number c.thread (waiting c) to None c.passed.arguments
calls_given program world c hows.Special to method = on_receiver program world c (enters_on program world c hows.Special to method)
calls_given program world c hows.Virtual to method = on_receiver program world c (enters_on program world c hows.Virtual to method)
calls_given program world c hows.Interface to method = on_receiver program world c (enters_on program world c hows.Interface to method)

-- ---- methods of the library

-- the thread waits for the answer, and the library sees the call
abbrev pub calls_library : Program → World → Calling → ℕ → Change
calls_library program world c method = record {
  world = world;
  thread = record { frames = waiting c; to_begin = c.thread.to_begin; doing = doings.InCall method c.passed.receiver c.passed.arguments };
  begins = None;
  stops = None;
  event = Some (events.Call c.number method (values_shown program world.heap c.passed.arguments));
}

-- ---- calls by what they name

-- the descriptor of the method that is named
abbrev pub desc_named : Program → Target → Option Name
desc_named program (target.ApiMethod index) = option_map (λ (m : ListedMethod). m.id.desc) (slice_get program.listing.methods index)
desc_named program (target.Builtin index) = option_map (λ (row : MethodRow). row.2) (slice_get method_rows index)
desc_named program (target.Method class method) = option_map (λ (m : Method). m.desc) (method_at program class method)
desc_named program target.None = None
desc_named program (target.Field class field) = None
desc_named program (target.ApiField index) = None
desc_named program (target.ClassName name) = None
desc_named program (target.Number n) = None
desc_named program (target.Literal index) = None

abbrev pub is_static_call : How → Bool
is_static_call how = not (has_receiver how)

abbrev pub calls_named : Program → Machine → Calling → How → Target → Option Change
calls_named program machine c how (target.ApiMethod index) = Some (calls_library program (world_of machine) c index)
calls_named program machine c how (target.Builtin index) = option_and_then (built_in program machine c how) (builtin_at index)
calls_named program machine c how (target.Method class method) = option_and_then (calls_given program (world_of machine) c how (class, method)) (method_at program class method)
calls_named program machine c how target.None = None
calls_named program machine c how (target.Field class field) = None
calls_named program machine c how (target.ApiField index) = None
calls_named program machine c how (target.ClassName name) = None
calls_named program machine c how (target.Number n) = None
calls_named program machine c how (target.Literal index) = None

abbrev pub calls : Program → Machine → ℕ → Thread → Frame → List Frame → How → Target → Option Change
calls program machine number thread frame below how ref = do
  desc ← desc_named program ref
  passed ← taken (is_static_call how) (arity desc) frame.stack.items
  calls_named program machine (record { number = number; thread = thread; frame = frame; below = below; passed = passed }) how ref
