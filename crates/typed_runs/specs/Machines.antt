-- What it is for a machine to be as the typing of its program says. (docs/PROMISES.md)
use Rattle.std.specs.Prelude.{◌≡◌, ℕ, ◌<◌, ◌⊎◌, true, IsTrue, List, [], ◌++◌, codes, length, slice_get, Option, Some, IsSomeAnd}
use Rattle.std.specs.List.{AllByRecursion}
use Rattle.std.specs.Option.{option_to_list}
use Rattle.mon_base.specs.declared.method.MethodId.{MethodId}
use Rattle.api_listing.specs.declared.types.ListedMethod.{ListedMethod}
use Rattle.cert_format.specs.declared.typing.Typing.{Typing}
use Rattle.cert_format.specs.declared.typing.VType.TheVariants as types
use Rattle.bytecode_model.specs.declared.program.Method.{Method}
use Rattle.bytecode_model.specs.declared.program.Program.{Program}
use Rattle.bytecode_model.specs.Described.{result_type}
use Rattle.bytecode_model.specs.Heads.{is_static, main_desc, takes_nothing}
use Rattle.guest_heap.specs.declared.frame.Frame.{Frame}
use Rattle.guest_heap.specs.declared.object.Object.{Object}
use Rattle.guest_heap.specs.declared.thread.Doing.{Doing}
use Rattle.guest_heap.specs.declared.thread.Doing.TheVariants as doings
use Rattle.guest_heap.specs.declared.thread.Thread.{Thread}
use Rattle.guest_heap.specs.declared.value.Value.{Value}
use Rattle.guest_heap.specs.declared.value.Value.TheVariants as values
use Rattle.guest_model.specs.declared.machine.Machine.{Machine}
use Rattle.guest_model.specs.Places.{method_at}
use Rattle.guest_model.specs.Runs.{inner}
use Rattle.guest_model.specs.Parts.{main_argument}
use Rattle.guest_model.specs.Finding.{Given}
use Rattle.typed_runs.specs.Fitting.{fits_made, is_just, is_there, HeapFits, StaticsFit}
use Rattle.typed_runs.specs.Frames.{AreRunning, AreWaiting}
use Rattle.typed_runs.specs.Programs.{ImplementsInterfaces}

-- The method can be begun without a call: it is static and has code, and takes nothing, or what main takes.
pub record CanBegin (program : Program) (to : Given) : Type 0 where
  pub method : Method
  pub there : method_at program to.0 to.1 ≡ Some method
  pub code : 0 < length method.insns
  pub static : is_static method.flags ≡ true
  pub takes : (method.desc ≡ takes_nothing) ⊎ (method.desc ≡ main_desc)

-- What the method of the listing is called on is null, or an object of the method's class.
abbrev pub IsCalledOn : Program → List Object → ℕ → Option Value → Type 0
IsCalledOn program heap method receiver =
    (listed : ListedMethod) → slice_get program.listing.methods method ≡ Some listed
    → AllByRecursion (λ (v : Value). IsTrue (fits_made program heap v (types.Ref listed.id.class))) (option_to_list receiver)

-- A running thread has a frame that is ready; one in a call of the library waits for the result of that method, what it passed is
-- there, and, where the listing has interfaces alone after `implements`, what it called on is of the method's class; one that has
-- ended has no frame.
abbrev pub FramesFit : Program → Typing → List Object → List Frame → Doing → Type 0
FramesFit program typing heap frames doings.Running = AreRunning program typing heap frames
FramesFit program typing heap frames (doings.InCall method receiver arguments) =
    AllByRecursion (λ (v : Value). IsTrue (is_there heap v)) (option_to_list receiver ++ arguments)
    × IsSomeAnd (slice_get program.listing.methods method) (λ (listed : ListedMethod). AreWaiting program typing heap (result_type listed.id.desc) frames)
    × (ImplementsInterfaces program → IsCalledOn program heap method receiver)
FramesFit program typing heap frames doings.Ended = frames ≡ []

pub record ThreadFits (program : Program) (typing : Typing) (heap : List Object) (thread : Thread) : Type 0 where
  pub frames : FramesFit program typing heap thread.frames thread.doing
  pub to_begin : AllByRecursion (CanBegin program) thread.to_begin

-- The heap begins with an object for each field of the listing, of the field's class, and the array that main takes.
pub record BeginsRight (program : Program) (heap : List Object) : Type 0 where
  pub fields : (index : ℕ) (field : MethodId) → slice_get program.listing.fields index ≡ Some field
      → IsTrue (is_just heap (inner field.desc) (values.Ref index))
  pub main : IsTrue (is_just heap (codes "[Ljava/lang/String;") (main_argument program))

pub record MachineFits (program : Program) (typing : Typing) (machine : Machine) : Type 0 where
  pub heap : HeapFits program machine.heap
  pub first : BeginsRight program machine.heap
  pub statics : StaticsFit program machine.heap machine.statics
  pub threads : AllByRecursion (ThreadFits program typing machine.heap) machine.threads
