-- Which steps are enabled, by the rules alone: the thread is there and has not ended, the program has not stopped, and nothing is
-- waited for. (docs/MACHINE.md)
use Rattle.std.specs.Prelude.{◌≡◌, ℕ, ◌==◌, ◌&&◌, Bool, true, false, not, if◌then◌else◌, List, [], ◌∷◌, find, slice_get, Option, Some, None, option_and_then}
use Rattle.std.specs.Option.{option_map_or}
use Rattle.insn_codec.specs.declared.insn.Insn.{Insn}
use Rattle.insn_codec.specs.declared.shape.Heap.{Heap}
use Rattle.insn_codec.specs.declared.shape.Heap.TheVariants as heap
use Rattle.insn_codec.specs.declared.shape.How.{How}
use Rattle.insn_codec.specs.Shapes.{shape_of}
use Rattle.bytecode_model.specs.declared.program.Method.{Method}
use Rattle.bytecode_model.specs.declared.program.Program.{Program}
use Rattle.bytecode_model.specs.declared.program.Target.{Target}
use Rattle.bytecode_model.specs.declared.program.Target.TheVariants as target
use Rattle.guest_heap.specs.declared.frame.Frame.{Frame}
use Rattle.guest_heap.specs.declared.object.Monitor.{Monitor}
use Rattle.guest_heap.specs.declared.object.Object.{Object}
use Rattle.guest_heap.specs.declared.thread.Doing.{Doing}
use Rattle.guest_heap.specs.declared.thread.Doing.TheVariants as doings
use Rattle.guest_heap.specs.declared.thread.Thread.{Thread}
use Rattle.guest_heap.specs.declared.value.Value.{Value}
use Rattle.guest_model.specs.declared.machine.Choice.{Choice}
use Rattle.guest_model.specs.declared.machine.Choice.TheVariants as choices
use Rattle.guest_model.specs.declared.machine.Machine.{Machine}
use Rattle.guest_model.specs.declared.machine.Step.{Step}
use Rattle.guest_model.specs.Calls.{Taken, arity, taken}
use Rattle.guest_model.specs.Places.{insn_at, method_at}
use Rattle.guest_frames.specs.Values.{are_one, is_null}
use Rattle.guest_model.specs.declared.builtin.Builtin.{Builtin}
use Rattle.guest_model.specs.declared.builtin.Builtin.TheVariants as builtins
use Rattle.guest_model.specs.Answering.{method_takes}
use Rattle.guest_model.specs.Builtins.{builtin_at}
use Rattle.guest_model.specs.Calling.{desc_named, has_ended, is_static_call, thread_of_value}
use Rattle.guest_model.specs.Changes.{Change, lock_of}
use Rattle.guest_model.specs.Finding.{Given, method_run}
use Rattle.guest_model.specs.Kinds.{class_of_value}
use Rattle.guest_model.specs.Stepping.{changed, heap_in, is_on_null}
use Rattle.guest_model.specs.Options.{◌>>=◌}

-- ---- monitors

-- another thread holds the monitor of the value
abbrev pub is_held_by_other : List Monitor → ℕ → Value → Bool
is_held_by_other monitors number on = option_map_or (λ (m : Monitor). not (m.owner == number)) (find (λ (m : Monitor). are_one m.on on) monitors) false

-- the monitor that a method takes as it is called, of a class's object or of the receiver
abbrev pub lock_wanted : Program → Given → Option Value → Option Value
lock_wanted program to receiver = option_and_then (λ (method : Method). lock_of program to.0 method receiver) (method_at program to.0 to.1)

-- the monitor that a call of a given method takes: of what runs on the receiver, where that is no null
abbrev pub lock_on : Program → List Object → ℕ → How → Given → Method → Value → Option Value
lock_on program heap own how to method on = do
  class ← class_of_value heap on
  found ← method_run program own how to method class
  lock_wanted program found (Some on)

abbrev pub lock_of_call : Program → List Object → ℕ → How → Given → Method → Option Value → Option Value
lock_of_call program heap own how to method None = lock_wanted program to None
lock_of_call program heap own how to method (Some on) = if is_null on then None else lock_on program heap own how to method on

-- ---- what the next instruction waits for

-- the thread that a built-in method waits for
abbrev pub thread_awaited : List Object → Builtin → Option Value → Option ℕ
thread_awaited heap builtins.Join receiver = option_and_then (λ (number : Option ℕ). number) (option_and_then (thread_of_value heap) receiver)
thread_awaited heap builtins.Make receiver = None
thread_awaited heap builtins.MakeOn receiver = None
thread_awaited heap builtins.Start receiver = None
thread_awaited heap builtins.Run receiver = None
thread_awaited heap builtins.Exit receiver = None
thread_awaited heap builtins.Length receiver = None

abbrev pub waits_for_monitor : Machine → ℕ → Option Value → Bool
waits_for_monitor machine number wanted = option_map_or (is_held_by_other machine.monitors number) wanted false

abbrev pub waits_for_thread : Machine → Option ℕ → Bool
waits_for_thread machine awaited = option_map_or (λ (n : ℕ). not (has_ended machine n)) awaited false

abbrev pub call_waits : Program → Machine → ℕ → ℕ → How → Target → Taken → Bool
call_waits program machine number own how (target.Method class method) passed =
    option_map_or (λ (m : Method). waits_for_monitor machine number (lock_of_call program machine.heap own how (class, method) m passed.receiver)) (method_at program class method) false
call_waits program machine number own how (target.Builtin index) passed =
    option_map_or (λ (b : Builtin). waits_for_thread machine (thread_awaited machine.heap b passed.receiver)) (builtin_at index) false
call_waits program machine number own how (target.ApiMethod index) passed = false
call_waits program machine number own how target.None passed = false
call_waits program machine number own how (target.Field class field) passed = false
call_waits program machine number own how (target.ApiField index) passed = false
call_waits program machine number own how (target.ClassName name) passed = false
call_waits program machine number own how (target.Number n) passed = false
call_waits program machine number own how (target.Literal index) passed = false

-- what a call passes
abbrev pub passed_by : Program → Frame → How → Target → Option Taken
passed_by program frame how ref = option_and_then (λ desc. taken (is_static_call how) (arity desc) frame.stack.items) (desc_named program ref)

abbrev pub heap_waits : Program → Machine → ℕ → Frame → Heap → Target → Bool
heap_waits program machine number frame (heap.Call how) ref =
    option_map_or (call_waits program machine number frame.class how ref) (passed_by program frame how ref) false
heap_waits program machine number frame heap.Enter ref =
    option_map_or (λ (on : Value). not (is_null on) && is_held_by_other machine.monitors number on) (slice_get frame.stack.items 0) false
heap_waits program machine number frame heap.Exit ref = false
heap_waits program machine number frame heap.Throw ref = false
heap_waits program machine number frame (heap.Return kind) ref = false
heap_waits program machine number frame heap.Constant ref = false
heap_waits program machine number frame (heap.ReadItem item) ref = false
heap_waits program machine number frame (heap.WriteItem item) ref = false
heap_waits program machine number frame (heap.Divide remainder) ref = false
heap_waits program machine number frame heap.ReadStatic ref = false
heap_waits program machine number frame heap.WriteStatic ref = false
heap_waits program machine number frame heap.ReadField ref = false
heap_waits program machine number frame heap.WriteField ref = false
heap_waits program machine number frame heap.New ref = false
heap_waits program machine number frame (heap.NewArray kind) ref = false
heap_waits program machine number frame heap.NewArrayOf ref = false
heap_waits program machine number frame heap.Length ref = false
heap_waits program machine number frame heap.Cast ref = false
heap_waits program machine number frame heap.IsInstance ref = false

-- the next instruction of a thread with these frames waits
abbrev pub waits : Program → Machine → ℕ → List Frame → Bool
waits program machine number [] = false
waits program machine number (frame ∷ below) =
    option_map_or (λ (next : Insn × Target). option_map_or (λ what. heap_waits program machine number frame what next.1) (heap_in (shape_of next.0)) false) (insn_at program frame) false

-- ---- steps

-- A running thread makes a plain step.
abbrev pub MayGoOn : Program → Machine → ℕ → List Frame → Choice → Type 0
MayGoOn program machine number frames choices.Plain = waits program machine number frames ≡ false
MayGoOn program machine number frames (choices.Answer answer) = ⊥

-- A thread in a call goes on where the receiver is null, and else takes an answer that fits.
abbrev pub MayAnswer : Program → Machine → ℕ → Option Value → List Value → Choice → Type 0
MayAnswer program machine method receiver arguments choices.Plain = is_on_null receiver ≡ true
MayAnswer program machine method receiver arguments (choices.Answer answer) =
    (is_on_null receiver ≡ false) × (method_takes program machine.heap method receiver arguments answer ≡ true)

abbrev pub MayStep : Program → Machine → ℕ → List Frame → Doing → Choice → Type 0
MayStep program machine number frames doings.Running choice = MayGoOn program machine number frames choice
MayStep program machine number frames (doings.InCall method receiver arguments) choice = MayAnswer program machine method receiver arguments choice
MayStep program machine number frames doings.Ended choice = ⊥

pub record IsEnabled (program : Program) (machine : Machine) (step : Step) : Type 0 where
  pub runs : machine.stopped ≡ None
  pub thread : Thread
  pub there : slice_get machine.threads step.thread ≡ Some thread
  pub may : MayStep program machine step.thread thread.frames thread.doing step.choice

-- Each step that the machine makes is enabled by the rules.
abbrev pub StepsAreEnabled : Type 0
StepsAreEnabled = (program : Program) (machine : Machine) (step : Step) (change : Change) → changed program machine step ≡ Some change → IsEnabled program machine step
