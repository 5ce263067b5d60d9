-- The machine moves: what each step needs, in the words of the instructions, and that it has a value where that is there.
-- (The Java Virtual Machine Specification, section 6.5.)
use Rattle.std.specs.Prelude.{
  ◌≡◌,
  ℕ,
  ◌+◌,
  ◌<◌,
  ◌≤◌,
  ◌⊎◌,
  false,
  IsTrue,
  List,
  [],
  ◌∷◌,
  length,
  slice_get,
  Option,
  Some,
  None,
  Ok,
  Err,
  IsSome,
  IsSomeAnd,
}
use Rattle.api_listing.specs.declared.events.ApiAnswer.{ApiAnswer}
use Rattle.api_listing.specs.declared.events.ApiAnswer.TheVariants as answers
use Rattle.api_listing.specs.Listing.{is_known}
use Rattle.insn_codec.specs.declared.insn.Insn.{Insn}
use Rattle.insn_codec.specs.declared.shape.Heap.{Heap}
use Rattle.insn_codec.specs.declared.shape.Heap.TheVariants as heap
use Rattle.insn_codec.specs.declared.shape.How.{How}
use Rattle.insn_codec.specs.declared.shape.How.TheVariants as hows
use Rattle.insn_codec.specs.declared.shape.Item.{Item}
use Rattle.insn_codec.specs.declared.shape.ValueKind.{ValueKind}
use Rattle.insn_codec.specs.declared.shape.ValueKind.TheVariants as kinds
use Rattle.insn_codec.specs.Shapes.{shape_of}
use Rattle.bytecode_model.specs.declared.program.LinkedClass.{LinkedClass}
use Rattle.bytecode_model.specs.declared.program.Program.{Program}
use Rattle.bytecode_model.specs.declared.program.Target.{Target}
use Rattle.bytecode_model.specs.declared.program.Target.TheVariants as target
use Rattle.bytecode_model.specs.Classes.{classes_of}
use Rattle.bytecode_model.specs.LinkedClasses.{AreLinkedClasses}
use Rattle.guest_heap.specs.declared.frame.Frame.{Frame}
use Rattle.guest_heap.specs.declared.object.Monitor.{Monitor}
use Rattle.guest_heap.specs.declared.object.Object.{Object}
use Rattle.guest_heap.specs.declared.object.Object.TheVariants as objects
use Rattle.guest_heap.specs.declared.thread.Doing.{Doing}
use Rattle.guest_heap.specs.declared.thread.Doing.TheVariants as doings
use Rattle.guest_heap.specs.declared.thread.Thread.{Thread}
use Rattle.guest_heap.specs.declared.value.Value.{Value}
use Rattle.guest_heap.specs.declared.value.Value.TheVariants as values
use Rattle.guest_heap.specs.Heap.{places_of}
use Rattle.guest_model.specs.declared.machine.Choice.{Choice}
use Rattle.guest_model.specs.declared.machine.Choice.TheVariants as choices
use Rattle.guest_model.specs.declared.machine.Machine.{Machine}
use Rattle.guest_model.specs.declared.machine.Step.{Step}
use Rattle.guest_model.specs.Calls.{Taken}
use Rattle.guest_model.specs.Monitors.{entered}
use Rattle.guest_model.specs.Places.{insn_at}
use Rattle.guest_frames.specs.Stepping.{frame_stepped}
use Rattle.guest_frames.specs.Values.{fits}
use Rattle.guest_model.specs.declared.builtin.Builtin.{Builtin}
use Rattle.guest_model.specs.declared.builtin.Builtin.TheVariants as builtins
use Rattle.guest_model.specs.Builtins.{builtin_at}
use Rattle.guest_model.specs.Changes.{World, world_of}
use Rattle.guest_model.specs.Enabled.{IsEnabled, MayAnswer, heap_waits, is_held_by_other, passed_by}
use Rattle.guest_model.specs.Layout.{place_of_field}
use Rattle.guest_model.specs.Stepping.{Acting, call_stepped, changed, heap_in, heap_stepped}
use Rattle.guest_model.specs.HeapOperations.{HeapResult, has_items, item_kind, heap_result}

-- ---- values

abbrev pub IsNumber : Value → Type 0
IsNumber (values.Int n) = Unit {0}
IsNumber values.Null = ⊥
IsNumber (values.Ref at) = ⊥
IsNumber (values.Class index) = ⊥
IsNumber (values.Lit index) = ⊥

-- The value is of an object, or null.
abbrev pub IsReference : Value → Type 0
IsReference (values.Int n) = ⊥
IsReference values.Null = Unit {0}
IsReference (values.Ref at) = Unit {0}
IsReference (values.Class index) = Unit {0}
IsReference (values.Lit index) = Unit {0}

abbrev pub IsAny : Value → Type 0
IsAny v = Unit {0}

abbrev pub IsArray : Object → Type 0
IsArray (objects.Plain class fields target thread) = ⊥
IsArray (objects.Array desc items) = Unit {0}
IsArray (objects.Text text) = ⊥

-- an array of such items
abbrev pub HasItems : Item → Object → Type 0
HasItems item (objects.Plain class fields target thread) = ⊥
HasItems item (objects.Array desc items) = IsTrue (has_items item desc)
HasItems item (objects.Text text) = ⊥

-- The value is a number, or else a reference or null.
abbrev pub IsOf : ValueKind → Value → Type 0
IsOf kind v = IsTrue (fits kind v)

-- The value is null, or of an object that is there.
abbrev pub IsObject : List Object → Value → Type 0
IsObject heap (values.Int n) = ⊥
IsObject heap values.Null = Unit {0}
IsObject heap (values.Ref at) = at < length heap
IsObject heap (values.Class index) = Unit {0}
IsObject heap (values.Lit index) = Unit {0}

-- The value is null, or of such an object of the heap.
abbrev pub IsNullOr : (Object → Type 0) → List Object → Value → Type 0
IsNullOr P heap (values.Int n) = ⊥
IsNullOr P heap values.Null = Unit {0}
IsNullOr P heap (values.Ref at) = IsSomeAnd (slice_get heap at) P
IsNullOr P heap (values.Class index) = ⊥
IsNullOr P heap (values.Lit index) = ⊥

abbrev pub HasPlaceAt : ℕ → Object → Type 0
HasPlaceAt place object = place < length (places_of object)

-- ---- operands, the topmost first

abbrev pub HasOne : (Value → Type 0) → List Value → Type 0
HasOne P [] = ⊥
HasOne P (v ∷ below) = P v

abbrev pub HasTwo : (Value → Type 0) → (Value → Type 0) → List Value → Type 0
HasTwo P Q [] = ⊥
HasTwo P Q (v ∷ below) = P v × HasOne Q below

abbrev pub HasThree : (Value → Type 0) → (Value → Type 0) → (Value → Type 0) → List Value → Type 0
HasThree P Q R [] = ⊥
HasThree P Q R (v ∷ below) = P v × HasTwo Q R below

-- ---- what instructions name

-- a number, a string, or a class that is known
abbrev pub NamesConstant : Program → Target → Type 0
NamesConstant program (target.Number n) = Unit {0}
NamesConstant program (target.Literal index) = Unit {0}
NamesConstant program (target.ClassName name) = IsTrue (is_known (classes_of program) name)
NamesConstant program target.None = ⊥
NamesConstant program (target.ApiMethod index) = ⊥
NamesConstant program (target.Builtin index) = ⊥
NamesConstant program (target.Method class method) = ⊥
NamesConstant program (target.Field class field) = ⊥
NamesConstant program (target.ApiField index) = ⊥

-- a class or an array
abbrev pub NamesClass : Target → Type 0
NamesClass (target.ClassName name) = Unit {0}
NamesClass target.None = ⊥
NamesClass (target.ApiMethod index) = ⊥
NamesClass (target.Builtin index) = ⊥
NamesClass (target.Method class method) = ⊥
NamesClass (target.Field class field) = ⊥
NamesClass (target.ApiField index) = ⊥
NamesClass (target.Number n) = ⊥
NamesClass (target.Literal index) = ⊥

-- a field of the objects of a given class, which has such a place in these
abbrev pub NamesField : Program → (ℕ → Type 0) → Target → Type 0
NamesField program P (target.Field class field) =
    IsSomeAnd (slice_get program.classes class) (λ (c : LinkedClass). P (place_of_field program c field))
NamesField program P target.None = ⊥
NamesField program P (target.ApiMethod index) = ⊥
NamesField program P (target.Builtin index) = ⊥
NamesField program P (target.Method class method) = ⊥
NamesField program P (target.ApiField index) = ⊥
NamesField program P (target.ClassName name) = ⊥
NamesField program P (target.Number n) = ⊥
NamesField program P (target.Literal index) = ⊥

-- a static field of a given class
abbrev pub NamesOwnStatic : World → Target → Type 0
NamesOwnStatic world (target.Field class field) = IsSomeAnd (slice_get world.statics class) (λ (fields : List Value). field < length fields)
NamesOwnStatic world target.None = ⊥
NamesOwnStatic world (target.ApiMethod index) = ⊥
NamesOwnStatic world (target.Builtin index) = ⊥
NamesOwnStatic world (target.Method class method) = ⊥
NamesOwnStatic world (target.ApiField index) = ⊥
NamesOwnStatic world (target.ClassName name) = ⊥
NamesOwnStatic world (target.Number n) = ⊥
NamesOwnStatic world (target.Literal index) = ⊥

-- one of the listing
abbrev pub NamesListedStatic : Program → Target → Type 0
NamesListedStatic program (target.ApiField index) = index < length program.listing.fields
NamesListedStatic program target.None = ⊥
NamesListedStatic program (target.ApiMethod index) = ⊥
NamesListedStatic program (target.Builtin index) = ⊥
NamesListedStatic program (target.Method class method) = ⊥
NamesListedStatic program (target.Field class field) = ⊥
NamesListedStatic program (target.ClassName name) = ⊥
NamesListedStatic program (target.Number n) = ⊥
NamesListedStatic program (target.Literal index) = ⊥

-- ---- the heap, static fields, division

-- What an instruction needs that works on the heap or on static fields, or divides.
abbrev pub IsReadyFor : Program → World → Heap → Target → List Value → Type 0
IsReadyFor program world heap.Constant ref items = NamesConstant program ref
IsReadyFor program world (heap.ReadItem item) ref items = HasTwo IsNumber (IsNullOr (HasItems item) world.heap) items
IsReadyFor program world (heap.WriteItem item) ref items = HasThree (IsOf (item_kind item)) IsNumber (IsNullOr (HasItems item) world.heap) items
IsReadyFor program world (heap.Divide remainder) ref items = HasTwo IsNumber IsNumber items
IsReadyFor program world heap.ReadStatic ref items = NamesOwnStatic world ref ⊎ NamesListedStatic program ref
IsReadyFor program world heap.WriteStatic ref items = NamesOwnStatic world ref × HasOne IsAny items
IsReadyFor program world heap.ReadField ref items = NamesField program (λ place. HasOne (IsNullOr (HasPlaceAt place) world.heap) items) ref
IsReadyFor program world heap.WriteField ref items =
    NamesField program (λ place. HasTwo IsAny (IsNullOr (HasPlaceAt place) world.heap) items) ref
IsReadyFor program world heap.New ref items = NamesClass ref
IsReadyFor program world (heap.NewArray kind) ref items = HasOne IsNumber items
IsReadyFor program world heap.NewArrayOf ref items = NamesClass ref × HasOne IsNumber items
IsReadyFor program world heap.Length ref items = HasOne (IsNullOr IsArray world.heap) items
IsReadyFor program world heap.Cast ref items = NamesClass ref × HasOne IsReference items
IsReadyFor program world heap.IsInstance ref items = NamesClass ref × HasOne IsReference items
-- these have laws of their own
IsReadyFor program world (heap.Call how) ref items = ⊥
IsReadyFor program world heap.Throw ref items = ⊥
IsReadyFor program world heap.Enter ref items = ⊥
IsReadyFor program world heap.Exit ref items = ⊥
IsReadyFor program world (heap.Return kind) ref items = ⊥

-- What is ready comes to something.
abbrev pub ReadyOperates : Type 0
ReadyOperates = (program : Program) (world : World) (what : Heap) (ref : Target) (items : List Value) → IsReadyFor program world what ref items
    → IsSome (heap_result program world what ref items)

-- how many operands an instruction takes that works on the heap or on static fields, or divides
abbrev pub taken_by : Heap → ℕ
taken_by heap.Constant = 0
taken_by (heap.ReadItem item) = 2
taken_by (heap.WriteItem item) = 3
taken_by (heap.Divide remainder) = 2
taken_by heap.ReadStatic = 0
taken_by heap.WriteStatic = 1
taken_by heap.ReadField = 1
taken_by heap.WriteField = 2
taken_by heap.New = 0
taken_by (heap.NewArray kind) = 1
taken_by heap.NewArrayOf = 1
taken_by heap.Length = 1
taken_by heap.Cast = 1
taken_by heap.IsInstance = 1
-- these do not work so
taken_by (heap.Call how) = 0
taken_by heap.Throw = 0
taken_by heap.Enter = 0
taken_by heap.Exit = 0
taken_by (heap.Return kind) = 0

-- and how many it pushes
abbrev pub pushed_by : Heap → ℕ
pushed_by heap.Constant = 1
pushed_by (heap.ReadItem item) = 1
pushed_by (heap.WriteItem item) = 0
pushed_by (heap.Divide remainder) = 1
pushed_by heap.ReadStatic = 1
pushed_by heap.WriteStatic = 0
pushed_by heap.ReadField = 1
pushed_by heap.WriteField = 0
pushed_by heap.New = 1
pushed_by (heap.NewArray kind) = 1
pushed_by heap.NewArrayOf = 1
pushed_by heap.Length = 1
pushed_by heap.Cast = 1
pushed_by heap.IsInstance = 1
pushed_by (heap.Call how) = 0
pushed_by heap.Throw = 0
pushed_by heap.Enter = 0
pushed_by heap.Exit = 0
pushed_by (heap.Return kind) = 0

-- Of so many operands it takes so many, and pushes so many, if it does not throw.
abbrev pub Leaves : ℕ → ℕ → ℕ → HeapResult → Type 0
Leaves takes pushes count None = Unit {0}
Leaves takes pushes count (Some (Ok made)) = length made.1 + takes ≡ count + pushes
Leaves takes pushes count (Some (Err class)) = Unit {0}

abbrev pub LeavesAsMany : Type 0
LeavesAsMany = (program : Program) (world : World) (what : Heap) (ref : Target) (items : List Value)
    → Leaves (taken_by what) (pushed_by what) (length items) (heap_result program world what ref items)

-- What it leaves fits on the stack.
abbrev pub HasRoomFor : Frame → Heap → Type 0
HasRoomFor frame what = length frame.stack.items + pushed_by what ≤ frame.stack.size + taken_by what

-- A thread whose next instruction is ready makes the step.
abbrev pub ReadySteps : Type 0
ReadySteps = (program : Program) (machine : Machine) (a : Acting) (what : Heap) (ref : Target)
    → IsReadyFor program (world_of machine) what ref a.frame.stack.items
    → HasRoomFor a.frame what
    → IsSome (heap_stepped program machine a what ref)

-- ---- monitors

-- A monitor that no other thread holds is entered.
abbrev pub FreeIsEntered : Type 0
FreeIsEntered = (monitors : List Monitor) (number : ℕ) (on : Value) → is_held_by_other monitors number on ≡ false
    → IsSome (entered monitors number on)

-- There are at most as many operands as the stack's size.
abbrev pub StackFits : Frame → Type 0
StackFits frame = length frame.stack.items ≤ frame.stack.size

-- A thread enters the monitor of a reference where nothing is waited for.
abbrev pub EnteringSteps : Type 0
EnteringSteps = (program : Program) (machine : Machine) (a : Acting) (ref : Target) → HasOne IsReference a.frame.stack.items
    → StackFits a.frame
    → heap_waits program machine a.number a.frame heap.Enter ref ≡ false → IsSome (heap_stepped program machine a heap.Enter ref)

-- It leaves one always: what it does not hold throws.
abbrev pub LeavingSteps : Type 0
LeavingSteps = (program : Program) (machine : Machine) (a : Acting) (ref : Target) → HasOne IsReference a.frame.stack.items
    → StackFits a.frame
    → IsSome (heap_stepped program machine a heap.Exit ref)

-- ---- throwing and returning

-- What is thrown is null, or an object that is there.
abbrev pub ThrowingSteps : Type 0
ThrowingSteps = (program : Program) (machine : Machine) (a : Acting) (ref : Target)
    → HasOne (IsObject machine.heap) a.frame.stack.items
    → IsSome (heap_stepped program machine a heap.Throw ref)

-- The caller, if there is one, has room for so many results.
abbrev pub HasRoom : ℕ → List Frame → Type 0
HasRoom results [] = Unit {0}
HasRoom results (caller ∷ below) = results + length caller.stack.items ≤ caller.stack.size

abbrev pub CanReturn : Option ValueKind → List Value → List Frame → Type 0
CanReturn None items below = HasRoom 0 below
CanReturn (Some kinds.Int) items below = HasOne IsNumber items × HasRoom 1 below
CanReturn (Some kinds.Reference) items below = HasOne IsReference items × HasRoom 1 below

abbrev pub ReturningSteps : Type 0
ReturningSteps = (program : Program) (machine : Machine) (a : Acting) (kind : Option ValueKind) (ref : Target)
    → CanReturn kind a.frame.stack.items a.below
    → IsSome (heap_stepped program machine a (heap.Return kind) ref)

-- ---- answers

-- The caller can take what the answer gives.
abbrev pub CanTake : ApiAnswer → List Frame → Type 0
CanTake answers.Nothing frames = HasRoom 0 frames
CanTake (answers.Int n) frames = HasRoom 1 frames
CanTake answers.Null frames = HasRoom 1 frames
CanTake (answers.Text text) frames = HasRoom 1 frames
CanTake (answers.Fresh class) frames = HasRoom 1 frames
CanTake (answers.Arg i) frames = HasRoom 1 frames
CanTake answers.Receiver frames = HasRoom 1 frames
CanTake (answers.Throws class) frames = Unit {0}

abbrev pub CanGoOn : Choice → List Frame → Type 0
CanGoOn choices.Plain frames = Unit {0}
CanGoOn (choices.Answer answer) frames = CanTake answer frames

-- Each answer that fits is taken, and a call on null throws.
abbrev pub AnswersStep : Type 0
AnswersStep =
    (program : Program) (machine : Machine) (number : ℕ) (thread : Thread) (method : ℕ) (receiver : Option Value) (arguments : List Value)
    (choice : Choice)
    → MayAnswer program machine method receiver arguments choice → CanGoOn choice thread.frames
    → IsSome (call_stepped program (world_of machine) number thread method receiver arguments choice)

-- ---- calls

-- The call is on an object, or on null.
abbrev pub IsOnObject : How → Type 0
IsOnObject hows.Virtual = Unit {0}
IsOnObject hows.Special = Unit {0}
IsOnObject hows.Interface = Unit {0}
IsOnObject hows.Static = ⊥

-- What a built-in method needs.
abbrev pub IsReadyToRun : List Object → How → Builtin → Taken → Type 0
IsReadyToRun heap how builtins.Make passed = Unit {0}
IsReadyToRun heap how builtins.MakeOn passed = IsSomeAnd passed.receiver IsReference × HasOne IsReference passed.arguments
IsReadyToRun heap how builtins.Start passed = IsSomeAnd passed.receiver (IsObject heap)
IsReadyToRun heap how builtins.Run passed = IsOnObject how × IsSomeAnd passed.receiver (IsObject heap)
IsReadyToRun heap how builtins.Join passed = IsSomeAnd passed.receiver (IsObject heap)
IsReadyToRun heap how builtins.Exit passed = HasOne IsNumber passed.arguments
IsReadyToRun heap how builtins.Length passed = IsSomeAnd passed.receiver IsReference

-- A call of a given method needs a receiver, where it is not static.
abbrev pub IsReceived : List Object → How → Taken → Type 0
IsReceived heap hows.Static passed = Unit {0}
IsReceived heap hows.Virtual passed = IsSomeAnd passed.receiver (IsObject heap)
IsReceived heap hows.Special passed = IsSomeAnd passed.receiver (IsObject heap)
IsReceived heap hows.Interface passed = IsSomeAnd passed.receiver (IsObject heap)

-- What a call needs, by what it names; where it passes something it names a method.
abbrev pub IsReadyToCall : List Object → How → Target → Taken → Type 0
IsReadyToCall heap how (target.ApiMethod index) passed = Unit {0}
IsReadyToCall heap how (target.Builtin index) passed = IsSomeAnd (builtin_at index) (λ (what : Builtin). IsReadyToRun heap how what passed)
IsReadyToCall heap how (target.Method class method) passed = IsReceived heap how passed
IsReadyToCall heap how target.None passed = ⊥
IsReadyToCall heap how (target.Field class field) passed = ⊥
IsReadyToCall heap how (target.ApiField index) passed = ⊥
IsReadyToCall heap how (target.ClassName name) passed = ⊥
IsReadyToCall heap how (target.Number n) passed = ⊥
IsReadyToCall heap how (target.Literal index) passed = ⊥

-- A thread of a linked program makes a call that is ready where nothing is waited for: a lock, or the end of a thread.
abbrev pub CallingSteps : Type 0
CallingSteps = (program : Program) (machine : Machine) (a : Acting) (how : How) (ref : Target) (passed : Taken)
    → AreLinkedClasses program → StackFits a.frame
    → passed_by program a.frame how ref ≡ Some passed → IsReadyToCall machine.heap how ref passed
    → heap_waits program machine a.number a.frame (heap.Call how) ref ≡ false
    → IsSome (heap_stepped program machine a (heap.Call how) ref)

-- ---- steps

-- The operands of an instruction that works on the heap are there, and what it leaves fits.
abbrev pub CanOperate : Program → Machine → Acting → Heap → Target → Type 0
CanOperate program machine a what ref =
    IsReadyFor program (world_of machine) what ref a.frame.stack.items × HasRoomFor a.frame what

-- What an instruction needs that does more than change its frame.
abbrev pub CanDo : Program → Machine → Acting → Heap → Target → Type 0
CanDo program machine a (heap.Call how) ref =
    StackFits a.frame × IsSomeAnd (passed_by program a.frame how ref) (λ (passed : Taken). IsReadyToCall machine.heap how ref passed)
CanDo program machine a heap.Throw ref = HasOne (IsObject machine.heap) a.frame.stack.items
CanDo program machine a heap.Enter ref = StackFits a.frame × HasOne IsReference a.frame.stack.items
CanDo program machine a heap.Exit ref = StackFits a.frame × HasOne IsReference a.frame.stack.items
CanDo program machine a (heap.Return kind) ref = CanReturn kind a.frame.stack.items a.below
CanDo program machine a heap.Constant ref = CanOperate program machine a heap.Constant ref
CanDo program machine a (heap.ReadItem item) ref = CanOperate program machine a (heap.ReadItem item) ref
CanDo program machine a (heap.WriteItem item) ref = CanOperate program machine a (heap.WriteItem item) ref
CanDo program machine a (heap.Divide remainder) ref = CanOperate program machine a (heap.Divide remainder) ref
CanDo program machine a heap.ReadStatic ref = CanOperate program machine a heap.ReadStatic ref
CanDo program machine a heap.WriteStatic ref = CanOperate program machine a heap.WriteStatic ref
CanDo program machine a heap.ReadField ref = CanOperate program machine a heap.ReadField ref
CanDo program machine a heap.WriteField ref = CanOperate program machine a heap.WriteField ref
CanDo program machine a heap.New ref = CanOperate program machine a heap.New ref
CanDo program machine a (heap.NewArray kind) ref = CanOperate program machine a (heap.NewArray kind) ref
CanDo program machine a heap.NewArrayOf ref = CanOperate program machine a heap.NewArrayOf ref
CanDo program machine a heap.Length ref = CanOperate program machine a heap.Length ref
CanDo program machine a heap.Cast ref = CanOperate program machine a heap.Cast ref
CanDo program machine a heap.IsInstance ref = CanOperate program machine a heap.IsInstance ref

-- the same of each instruction: of one that changes its frame alone, that it can
abbrev pub CanDoNext : Program → Machine → Acting → Insn × Target → Option Heap → Type 0
CanDoNext program machine a next None = IsSome (frame_stepped next.0 a.frame)
CanDoNext program machine a next (Some what) = CanDo program machine a what next.1

-- A thread in these frames can do its next instruction.
abbrev pub CanRun : Program → Machine → ℕ → Thread → List Frame → Type 0
CanRun program machine number thread [] = ⊥
CanRun program machine number thread (frame ∷ below) =
    let a : Acting = record { number = number; thread = thread; frame = frame; below = below } in
    IsSomeAnd (insn_at program frame) (λ (next : Insn × Target). CanDoNext program machine a next (heap_in (shape_of next.0)))

-- What a thread needs for a step is there.
abbrev pub IsAble : Program → Machine → ℕ → Thread → Doing → Choice → Type 0
IsAble program machine number thread doings.Running choice = CanRun program machine number thread thread.frames
IsAble program machine number thread (doings.InCall method receiver arguments) choice = CanGoOn choice thread.frames
IsAble program machine number thread doings.Ended choice = Unit {0}

-- A step that is enabled by the rules is made, in a linked program, where what the thread needs for it is there.
abbrev pub EnabledIsMade : Type 0
EnabledIsMade = (program : Program) (machine : Machine) (step : Step) → AreLinkedClasses program → (enabled : IsEnabled program machine step)
    → IsAble program machine step.thread enabled.thread enabled.thread.doing step.choice → IsSome (changed program machine step)
