-- What a step leaves: what is shared fits, and so do the thread that made it and one that begins; and what the library sees of
-- it passes a number wherever the method takes one.
use Rattle.std.proofs.Common.{◌≡◌, ℕ, ℤ, List, reverse, Option, Some, None, Ok, Err, refl}
use Rattle.std.specs.Prelude.{IsTrue, slice_get}
use Rattle.std.specs.List.{AllByRecursion}
use Rattle.std.specs.Option.{option_to_list}
use Rattle.api_listing.specs.declared.descriptor.FieldType.{FieldType}
use Rattle.api_listing.specs.declared.events.ApiValue.{ApiValue}
use Rattle.api_listing.specs.declared.events.ApiValue.TheVariants as api
use Rattle.api_listing.specs.declared.events.Event.{Event}
use Rattle.api_listing.specs.declared.events.Event.TheVariants as events
use Rattle.api_listing.specs.declared.types.ListedMethod.{ListedMethod}
use Rattle.cert_format.specs.declared.typing.Typing.{Typing}
use Rattle.cert_format.specs.declared.typing.VType.{VType}
use Rattle.insn_codec.specs.Following.{Paired}
use Rattle.bytecode_model.specs.declared.program.LinkedClass.{LinkedClass}
use Rattle.bytecode_model.specs.declared.program.Method.{Method}
use Rattle.bytecode_model.specs.declared.program.Program.{Program}
use Rattle.guest_heap.specs.declared.frame.Frame.{Frame}
use Rattle.guest_heap.specs.declared.object.Object.{Object}
use Rattle.guest_heap.specs.declared.thread.Thread.{Thread}
use Rattle.guest_model.specs.Answers.{may_throw}
use Rattle.guest_model.specs.Calls.{types_of}
use Rattle.guest_model.specs.Changes.{Change, World, ended_thread, goes, with_event}
use Rattle.guest_model.specs.Numbers.{is_of_numbers}
use Rattle.guest_model.specs.HeapOperations.{HeapResult}
use Rattle.typed_runs.specs.Fitting.{fits_type, HeapFits, StaticsFit}
use Rattle.typed_runs.specs.Frames.{AreRunning}
use Rattle.typed_runs.specs.Growing.{Grows}
use Rattle.typed_runs.specs.Machines.{CanBegin, ThreadFits}

-- ---- what the library sees

-- A number is passed wherever the type is one of numbers.
abbrev pub ArePassedNumbers : List FieldType → List ApiValue → Type 0
ArePassedNumbers types arguments =
    (i : ℕ) (t : FieldType) → slice_get types i ≡ Some t → IsTrue (is_of_numbers t) → (n : ℤ) × (slice_get arguments i ≡ Some (api.Int n))

-- It is so in each call of a method of the listing.
abbrev pub PassesNumbers : Program → Event → Type 0
PassesNumbers program (events.Call thread method arguments) =
    (listed : ListedMethod) → slice_get program.listing.methods method ≡ Some listed → ArePassedNumbers (types_of listed.id.desc).arguments arguments
PassesNumbers program (events.Return thread method value) = Unit {0}
PassesNumbers program (events.Except thread method) = Unit {0}

-- It is so of the event, if there is one.
abbrev pub SeesNumbers : Program → Option Event → Type 0
SeesNumbers program event = AllByRecursion (PassesNumbers program) (option_to_list event)

-- ---- what fits

-- What is shared fits, and grew out of this heap.
pub record WorldFits (program : Program) (heap : List Object) (world : World) : Type 0 where
  pub grows : Grows heap world.heap
  pub objects : HeapFits program world.heap
  pub statics : StaticsFit program world.heap world.statics

pub record ChangeFits (program : Program) (typing : Typing) (heap : List Object) (change : Change) : Type 0 where
  pub world : WorldFits program heap change.world
  pub thread : ThreadFits program typing change.world.heap change.thread
  pub begins : AllByRecursion (ThreadFits program typing change.world.heap) (option_to_list change.begins)
  pub seen : SeesNumbers program change.event

-- What an instruction of the method comes to that works on the heap: operands of these types, which stand from the bottom, or an
-- exception that may be thrown.
abbrev pub OperationFits : Program → LinkedClass → Method → List Object → List VType → HeapResult → Type 0
OperationFits program class method heap left None = Unit {0}
OperationFits program class method heap left (Some (Ok made)) =
    WorldFits program heap made.0 × Paired (fits_type program made.0.heap class method) made.1 (reverse left)
OperationFits program class method heap left (Some (Err name)) = IsTrue (may_throw program name)

module _ (program : Program) (typing : Typing) where
  pub ended_fits : (heap : List Object) → ThreadFits program typing heap ended_thread
  ended_fits heap = record { frames = refl; to_begin = tt }

  -- a thread that runs in these frames
  pub goes_fits : (heap : List Object) (world : World) (thread : Thread) (frames : List Frame) → WorldFits program heap world
      → AllByRecursion (CanBegin program) thread.to_begin → AreRunning program typing world.heap frames
      → ChangeFits program typing heap (goes world thread frames)
  goes_fits heap world thread frames shared later running =
      record { world = shared; thread = record { frames = running; to_begin = later }; begins = tt; seen = tt }

  pub event_fits : (heap : List Object) (change : Change) (event : Option Event) → SeesNumbers program event → ChangeFits program typing heap change
      → ChangeFits program typing heap (with_event change event)
  event_fits heap change event seen fits = record { world = fits.world; thread = fits.thread; begins = fits.begins; seen = seen }
