-- When a machine of a woven program mirrors one of its client: at rest, it is the same but for what conspec/State and blocks add.
-- (docs/TRANSPARENCY.md)
use Rattle.std.specs.Prelude.{◌≡◌, ◌≤◌, ◌<◌, ◌+◌, ℕ, ⊤, false, if◌then◌else◌, List, [], ◌∷◌, length, take, filter, Some, IfSome}
use Rattle.std.specs.List.{AllByRecursion}
use Rattle.bytecode_model.specs.declared.program.Handler.{Handler}
use Rattle.bytecode_model.specs.declared.program.Method.{Method}
use Rattle.bytecode_model.specs.declared.program.Program.{Program}
use Rattle.guest_heap.specs.declared.frame.Frame.{Frame}
use Rattle.guest_heap.specs.declared.object.Object.{Object}
use Rattle.guest_heap.specs.declared.thread.Doing.{Doing}
use Rattle.guest_heap.specs.declared.thread.Doing.TheVariants as doings
use Rattle.guest_heap.specs.declared.thread.Thread.{Thread}
use Rattle.guest_heap.specs.declared.value.Value.{Value}
use Rattle.guest_heap.specs.declared.value.Value.TheVariants as values
use Rattle.bytecode_model.specs.Classes.{classes_of}
use Rattle.bytecode_model.specs.Heads.{is_static}
use Rattle.bytecode_model.specs.SearchOrder.{Name}
use Rattle.guest_model.specs.Calling.{target_in}
use Rattle.guest_model.specs.Calls.{arity}
use Rattle.guest_model.specs.Finding.{Given}
use Rattle.guest_model.specs.declared.machine.Machine.{Machine}
use Rattle.guest_model.specs.Kinds.{class_of_object}
use Rattle.guest_model.specs.Places.{method_at}
use Rattle.guest_model.specs.Throwing.{handler_of}
use Rattle.guest_erasing.specs.Erasing.{erased, is_clients}
use Rattle.guest_erasing.specs.Laid.{IsClientName, IsLaid}
use Rattle.guest_erasing.specs.Places.{Sites, front, has_block, stand}

-- Two lists have as many items, and those of one place belong together.
abbrev pub AreAlike : {X Y : Type 0} → (X → Y → Type 0) → List X → List Y → Type 0
AreAlike Belong [] [] = ⊤
AreAlike Belong [] (y ∷ ys) = ⊥
AreAlike Belong (x ∷ xs) [] = ⊥
AreAlike Belong (x ∷ xs) (y ∷ ys) = Belong x y × AreAlike Belong xs ys

-- ---- frames

-- The frame of the woven program holds what that of the client does: the client's locals first, and the same operands.
pub record FrameMirrors (sites_of : Method → Sites) (client woven : Program) (frame other : Frame) : Type 0 where
  pub old : Method
  pub new : Method
  pub there : method_at client frame.class frame.method ≡ Some old
  pub woven_there : method_at woven frame.class frame.method ≡ Some new
  pub laid : IsLaid (sites_of old) old new
  pub class : other.class ≡ frame.class
  pub method : other.method ≡ frame.method
  pub lock : other.lock ≡ frame.lock
  pub locals : take old.max_locals other.locals ≡ frame.locals
  pub many : length frame.locals ≡ old.max_locals
  pub wide : length other.locals ≡ new.max_locals
  pub items : other.stack.items ≡ frame.stack.items
  pub size : frame.stack.size ≡ old.max_stack
  pub room : other.stack.size ≡ new.max_stack

-- It runs: it stands where the part of the client's instruction begins.
pub record IsAtFront (sites_of : Method → Sites) (client woven : Program) (frame other : Frame) : Type 0 where
  pub mirrors : FrameMirrors sites_of client woven frame other
  pub at : other.at ≡ front (sites_of mirrors.old) frame.at

-- It waits for the library: it stands at the call itself.
pub record IsAtCall (sites_of : Method → Sites) (client woven : Program) (frame other : Frame) : Type 0 where
  pub mirrors : FrameMirrors sites_of client woven frame other
  pub at : other.at ≡ stand (sites_of mirrors.old) frame.at

-- It waits for a frame above it: it stands at a call that has no block.
pub record IsBelow (sites_of : Method → Sites) (client woven : Program) (frame other : Frame) : Type 0 where
  pub mirrors : FrameMirrors sites_of client woven frame other
  pub at : other.at ≡ stand (sites_of mirrors.old) frame.at
  pub alone : has_block (sites_of mirrors.old) frame.at ≡ false

abbrev pub AreBelow : (Method → Sites) → Program → Program → List Frame → List Frame → Type 0
AreBelow sites_of client woven = AreAlike (IsBelow sites_of client woven)

-- The first frame is as told, and those below it wait.
abbrev pub AreFrames : (Method → Sites) → Program → Program → (Frame → Frame → Type 0) → List Frame → List Frame → Type 0
AreFrames sites_of client woven Top [] [] = ⊤
AreFrames sites_of client woven Top [] (other ∷ others) = ⊥
AreFrames sites_of client woven Top (frame ∷ frames) [] = ⊥
AreFrames sites_of client woven Top (frame ∷ frames) (other ∷ others) = Top frame other × AreBelow sites_of client woven frames others

-- ---- threads

abbrev pub FramesMirror : (Method → Sites) → Program → Program → Doing → List Frame → List Frame → Type 0
FramesMirror sites_of client woven doings.Running = AreFrames sites_of client woven (IsAtFront sites_of client woven)
FramesMirror sites_of client woven (doings.InCall method receiver arguments) = AreFrames sites_of client woven (IsAtCall sites_of client woven)
FramesMirror sites_of client woven doings.Ended = λ frames others. (frames ≡ []) × (others ≡ [])

pub record ThreadMirrors (sites_of : Method → Sites) (client woven : Program) (thread other : Thread) : Type 0 where
  pub doing : other.doing ≡ thread.doing
  pub to_begin : other.to_begin ≡ thread.to_begin
  pub frames : FramesMirror sites_of client woven thread.doing thread.frames other.frames

-- ---- machines

pub record Mirrors (sites_of : Method → Sites) (client woven : Program) (machine other : Machine) : Type 0 where
  pub heap : other.heap ≡ machine.heap
  pub statics : take (length client.classes) other.statics ≡ machine.statics
  pub classes : length machine.statics ≡ length client.classes
  pub monitors : filter (is_clients client) other.monitors ≡ machine.monitors
  pub threads : AreAlike (ThreadMirrors sites_of client woven) machine.threads other.threads
  pub stopped : other.stopped ≡ machine.stopped

-- ---- what is asked of a client's machine; its types give it

-- The value is the object of no class beside those of the client; so it is not that of conspec/State.
abbrev pub IsClientValue : Program → Value → Type 0
IsClientValue client (values.Int n) = ⊤
IsClientValue client values.Null = ⊤
IsClientValue client (values.Ref at) = ⊤
IsClientValue client (values.Class index) = index < length (classes_of client)
IsClientValue client (values.Lit index) = ⊤

-- Where the frame stands under a handler, it has room for what is caught.
abbrev pub HasRoomToCatch : Program → Frame → Type 0
HasRoomToCatch client frame = (class : Name) (handler : Handler) → handler_of client frame class ≡ Some handler → 1 ≤ frame.stack.size

pub record HoldsClientValues (client : Program) (frame : Frame) : Type 0 where
  pub items : AllByRecursion (IsClientValue client) frame.stack.items
  pub lock : IfSome frame.lock (IsClientValue client)
  pub room : HasRoomToCatch client frame

-- A call under way is of such values.
abbrev pub PassesClientValues : Program → Doing → Type 0
PassesClientValues client doings.Running = ⊤
PassesClientValues client (doings.InCall method receiver arguments) = IfSome receiver (IsClientValue client) × AllByRecursion (IsClientValue client) arguments
PassesClientValues client doings.Ended = ⊤

-- how many locals a call of the method takes
abbrev pub taken_locals : Method → ℕ
taken_locals method = if is_static method.flags then arity method.desc else arity method.desc + 1

-- What a call of the method passes fits its locals.
abbrev pub TakesCalls : Program → Given → Type 0
TakesCalls client to = (method : Method) → method_at client to.0 to.1 ≡ Some method → taken_locals method ≤ method.max_locals

-- It is a method of the client whose arguments fit its locals.
pub record CanBegin (client : Program) (to : Given) : Type 0 where
  pub method : Method
  pub there : method_at client to.0 to.1 ≡ Some method
  pub takes : taken_locals method ≤ method.max_locals

-- Its operands, its locks and what it passes are such values, and it can begin what it has still to begin.
pub record IsClientThread (client : Program) (thread : Thread) : Type 0 where
  pub frames : AllByRecursion (HoldsClientValues client) thread.frames
  pub passes : PassesClientValues client thread.doing
  pub begins : AllByRecursion (CanBegin client) thread.to_begin

-- It is of a class of the client, and its target is such a value.
pub record IsClientObject (client : Program) (object : Object) : Type 0 where
  pub class : IsClientName (class_of_object object)
  pub target : IsClientValue client (target_in object)

-- Each object is of a class of the client; no operand, lock, argument or target is the object of conspec/State; and a frame under a
-- handler has room for what is caught.
pub record IsClientMachine (client : Program) (machine : Machine) : Type 0 where
  pub objects : AllByRecursion (IsClientObject client) machine.heap
  pub threads : AllByRecursion (IsClientThread client) machine.threads

-- ---- the law

-- A machine that mirrors its client's is that machine, once what weaving added is erased.
abbrev pub MirrorsAreErased : Type 0
MirrorsAreErased = (sites_of : Method → Sites) (client woven : Program) (machine other : Machine) → Mirrors sites_of client woven machine other
    → erased sites_of client (λ v. v) other ≡ machine
