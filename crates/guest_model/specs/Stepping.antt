-- One step of a program: a case for each group of instructions. A step that is not enabled has no value. (docs/MACHINE.md)
use Rattle.std.specs.Prelude.{ℕ, Bool, false, if◌then◌else◌, List, [], ◌∷◌, drop, Option, Some, None, Result, Ok, Err, is_some, option_map, option_and_then, slice_get}
use Rattle.std.specs.Option.{option_map_or, option_to_list}
use Rattle.api_listing.specs.declared.events.Event.{Event}
use Rattle.api_listing.specs.declared.events.Event.TheVariants as events
use Rattle.insn_codec.specs.declared.insn.Insn.{Insn}
use Rattle.insn_codec.specs.declared.shape.Heap.{Heap}
use Rattle.insn_codec.specs.declared.shape.Heap.TheVariants as heap
use Rattle.insn_codec.specs.declared.shape.ValueKind.{ValueKind}
use Rattle.insn_codec.specs.declared.shape.Shape.{Shape}
use Rattle.insn_codec.specs.declared.shape.Shape.TheVariants as shapes
use Rattle.insn_codec.specs.Shapes.{shape_of}
use Rattle.bytecode_model.specs.declared.program.Program.{Program}
use Rattle.bytecode_model.specs.declared.program.Target.{Target}
use Rattle.bytecode_model.specs.SearchOrder.{Name}
use Rattle.guest_heap.specs.declared.frame.Frame.{Frame}
use Rattle.guest_heap.specs.declared.object.Monitor.{Monitor}
use Rattle.guest_heap.specs.declared.thread.Doing.{Doing}
use Rattle.guest_heap.specs.declared.thread.Doing.TheVariants as doings
use Rattle.guest_heap.specs.declared.thread.Thread.{Thread}
use Rattle.guest_heap.specs.declared.value.Value.{Value}
use Rattle.guest_model.specs.declared.machine.Choice.{Choice}
use Rattle.guest_model.specs.declared.machine.Choice.TheVariants as choices
use Rattle.guest_model.specs.declared.machine.Machine.{Machine}
use Rattle.guest_model.specs.declared.machine.Step.{Step}
use Rattle.guest_model.specs.Monitors.{entered, left, all_given_up}
use Rattle.guest_model.specs.Places.{insn_at}
use Rattle.guest_frames.specs.Stepping.{after, frame_stepped}
use Rattle.guest_model.specs.Parts.{bad_monitor, null_pointer, result_of}
use Rattle.guest_frames.specs.Values.{is_null}
use Rattle.guest_model.specs.Answering.{answered}
use Rattle.guest_model.specs.Calling.{calls}
use Rattle.guest_model.specs.Changes.{World, Change, applied, goes, returned, throws, throws_new, with_monitors, world_of}
use Rattle.guest_model.specs.Kinds.{class_of_value}
use Rattle.guest_model.specs.HeapOperations.{heap_result}

-- the thread that makes a step, its number, and its frames
pub record Acting : Type 0 where
  pub number : ℕ
  pub thread : Thread
  pub frame : Frame
  pub below : List Frame

-- ---- throwing

abbrev pub acts_throwing : Program → World → Acting → Name → Change
acts_throwing program world a class = throws_new program world a.number a.thread (a.frame ∷ a.below) class None

-- what is on top is thrown
abbrev pub throws_top : Program → World → Acting → Value → Option Change
throws_top program world a v =
    if is_null v then Some (acts_throwing program world a null_pointer)
    else option_map (λ class. throws program world a.number a.thread (a.frame ∷ a.below) v class None) (class_of_value world.heap v)

-- ---- going on with the frame alone changed

abbrev pub acts_on : World → Acting → Option Frame → Option Change
acts_on world a frame = option_map (λ (f : Frame). goes world a.thread (f ∷ a.below)) frame

-- ---- the heap, static fields, division

abbrev pub comes_to : Program → World → Acting → Result (World × List Value) Name → Option Change
comes_to program world a (Ok made) = acts_on made.0 a (after a.frame made.1)
comes_to program world a (Err class) = Some (acts_throwing program world a class)

abbrev pub operates : Program → World → Acting → Heap → Target → Option Change
operates program world a what ref = option_and_then (comes_to program world a) (heap_result program world what ref a.frame.stack.items)

-- ---- monitors

-- nothing while another thread holds it
abbrev pub enters : Program → World → Acting → Value → Option Change
enters program world a on =
    if is_null on then Some (acts_throwing program world a null_pointer)
    else option_and_then (λ held. acts_on (with_monitors world held) a (after a.frame (drop 1 a.frame.stack.items))) (entered world.monitors a.number on)

abbrev pub left_with : Program → World → Acting → Option (List Monitor) → Option Change
left_with program world a None = Some (acts_throwing program world a bad_monitor)
left_with program world a (Some held) = acts_on (with_monitors world held) a (after a.frame (drop 1 a.frame.stack.items))

abbrev pub leaves : Program → World → Acting → Value → Option Change
leaves program world a on = if is_null on then Some (acts_throwing program world a null_pointer) else left_with program world a (left world.monitors a.number on)

-- ---- returns

abbrev pub returns : Program → World → Acting → Option ValueKind → Option Change
returns program world a kind =
    option_and_then (λ result. returned program (with_monitors world (all_given_up world.monitors a.number (option_to_list a.frame.lock))) a.thread a.below result None)
    (result_of kind a.frame.stack.items)

-- ---- instructions

abbrev pub heap_stepped : Program → Machine → Acting → Heap → Target → Option Change
heap_stepped program machine a (heap.Call how) ref = calls program machine a.number a.thread a.frame a.below how ref
heap_stepped program machine a heap.Throw ref = option_and_then (throws_top program (world_of machine) a) (slice_get a.frame.stack.items 0)
heap_stepped program machine a heap.Enter ref = option_and_then (enters program (world_of machine) a) (slice_get a.frame.stack.items 0)
heap_stepped program machine a heap.Exit ref = option_and_then (leaves program (world_of machine) a) (slice_get a.frame.stack.items 0)
heap_stepped program machine a (heap.Return kind) ref = returns program (world_of machine) a kind
heap_stepped program machine a heap.Constant ref = operates program (world_of machine) a heap.Constant ref
heap_stepped program machine a (heap.ReadItem item) ref = operates program (world_of machine) a (heap.ReadItem item) ref
heap_stepped program machine a (heap.WriteItem item) ref = operates program (world_of machine) a (heap.WriteItem item) ref
heap_stepped program machine a (heap.Divide remainder) ref = operates program (world_of machine) a (heap.Divide remainder) ref
heap_stepped program machine a heap.ReadStatic ref = operates program (world_of machine) a heap.ReadStatic ref
heap_stepped program machine a heap.WriteStatic ref = operates program (world_of machine) a heap.WriteStatic ref
heap_stepped program machine a heap.ReadField ref = operates program (world_of machine) a heap.ReadField ref
heap_stepped program machine a heap.WriteField ref = operates program (world_of machine) a heap.WriteField ref
heap_stepped program machine a heap.New ref = operates program (world_of machine) a heap.New ref
heap_stepped program machine a (heap.NewArray kind) ref = operates program (world_of machine) a (heap.NewArray kind) ref
heap_stepped program machine a heap.NewArrayOf ref = operates program (world_of machine) a heap.NewArrayOf ref
heap_stepped program machine a heap.Length ref = operates program (world_of machine) a heap.Length ref
heap_stepped program machine a heap.Cast ref = operates program (world_of machine) a heap.Cast ref
heap_stepped program machine a heap.IsInstance ref = operates program (world_of machine) a heap.IsInstance ref

-- what an instruction does with more than its frame
abbrev pub heap_in : Shape → Option Heap
heap_in (shapes.Heap what) = Some what
heap_in shapes.Nothing = None
heap_in (shapes.Push n) = None
heap_in shapes.PushNull = None
heap_in (shapes.Load kind slot) = None
heap_in (shapes.Store kind slot) = None
heap_in (shapes.Move form) = None
heap_in (shapes.Two op) = None
heap_in (shapes.One op) = None
heap_in (shapes.Increment slot by) = None
heap_in (shapes.Test relation to) = None
heap_in (shapes.Compare relation to) = None
heap_in (shapes.CompareReferences same to) = None
heap_in (shapes.TestNull null to) = None
heap_in (shapes.Goto to) = None
heap_in shapes.Switch = None

abbrev pub insn_stepped : Program → Machine → Acting → Insn × Target → Option Change
insn_stepped program machine a next =
    option_map_or (λ what. heap_stepped program machine a what next.1) (heap_in (shape_of next.0)) (acts_on (world_of machine) a (frame_stepped next.0 a.frame))

-- ---- threads

abbrev pub frames_stepped : Program → Machine → ℕ → Thread → List Frame → Option Change
frames_stepped program machine number thread [] = None
frames_stepped program machine number thread (frame ∷ below) =
    option_and_then (insn_stepped program machine (record { number = number; thread = thread; frame = frame; below = below })) (insn_at program frame)

-- A call on null throws; every other waits for an answer.
abbrev pub is_on_null : Option Value → Bool
is_on_null receiver = option_map_or is_null receiver false

abbrev pub null_thrown : Program → World → ℕ → Thread → ℕ → Option Change
null_thrown program world number thread method = Some (throws_new program world number thread thread.frames null_pointer (Some (events.Except number method)))

abbrev pub call_stepped : Program → World → ℕ → Thread → ℕ → Option Value → List Value → Choice → Option Change
call_stepped program world number thread method receiver arguments choices.Plain =
    if is_on_null receiver then null_thrown program world number thread method else None
call_stepped program world number thread method receiver arguments (choices.Answer answer) =
    if is_on_null receiver then None else answered program world number thread method receiver arguments answer

abbrev pub running_stepped : Program → Machine → ℕ → Thread → Choice → Option Change
running_stepped program machine number thread choices.Plain = frames_stepped program machine number thread thread.frames
running_stepped program machine number thread (choices.Answer answer) = None

abbrev pub doing_stepped : Program → Machine → ℕ → Thread → Doing → Choice → Option Change
doing_stepped program machine number thread doings.Running choice = running_stepped program machine number thread choice
doing_stepped program machine number thread (doings.InCall method receiver arguments) choice =
    call_stepped program (world_of machine) number thread method receiver arguments choice
doing_stepped program machine number thread doings.Ended choice = None

-- ---- the program

-- what the step changes; nothing where it is not enabled
abbrev pub changed : Program → Machine → Step → Option Change
changed program machine step =
    if is_some machine.stopped then None
    else option_and_then (λ (thread : Thread). doing_stepped program machine step.thread thread thread.doing step.choice) (slice_get machine.threads step.thread)

-- the machine after a step, and what the library saw
abbrev pub stepped : Program → Machine → Step → Option (Machine × Option Event)
stepped program machine step = option_map (λ (change : Change). (applied step.thread machine change, change.event)) (changed program machine step)
