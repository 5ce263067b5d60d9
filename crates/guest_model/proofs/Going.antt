-- Threads whose frames stand in a set of places, and changes that keep them there.
use Rattle.std.proofs.Common.{◌≡◌, ℕ, ◌+◌, true, false, List, [], ◌∷◌, length, drop, Option, Some, None, refl, ap, subst, ◌∙◌, arith}
use Rattle.std.specs.Prelude.{◌<◌, ◌==◌, IsTrue, not, option_map, nat_lt, if◌then◌else◌, slice_get}
use Rattle.std.specs.List.{AllByRecursion}
use Rattle.std.specs.Option.{option_to_list}
use Rattle.api_listing.specs.declared.events.Event.{Event}
use Rattle.insn_codec.specs.declared.insn.Insn.{Insn}
use Rattle.insn_codec.specs.Opcodes.{goes_on as may_go_on}
use Rattle.insn_codec.specs.Encoding.{opcode_of}
use Rattle.insn_codec.specs.declared.shape.Heap.TheVariants as heap
use Rattle.insn_codec.specs.declared.shape.How.{How}
use Rattle.insn_codec.specs.declared.shape.Shape.TheVariants as shapes
use Rattle.insn_codec.specs.Shapes.{shape_of}
use Rattle.insn_codec.specs.Table.{ends}
use Rattle.insn_codec.proofs.Table.{goes_on_alike}
use Rattle.bytecode_model.specs.declared.program.Method.{Method}
use Rattle.bytecode_model.specs.declared.program.Program.{Program}
use Rattle.bytecode_model.specs.declared.program.Target.{Target}
use Rattle.bytecode_model.specs.declared.program.Target.TheVariants as target
use Rattle.guest_heap.specs.declared.frame.Frame.{Frame}
use Rattle.guest_heap.specs.declared.thread.Doing.{Doing}
use Rattle.guest_heap.specs.declared.thread.Doing.TheVariants as doings
use Rattle.guest_heap.specs.declared.thread.Thread.{Thread}
use Rattle.guest_heap.specs.declared.value.Value.{Value}
use Rattle.guest_model.specs.Calls.{arity}
use Rattle.guest_model.specs.Places.{method_at}
use Rattle.guest_frames.specs.Stepping.{after, fitted, moved_to}
use Rattle.guest_model.specs.ClosedPlaces.{Places, IsAt, HasInsns, IsCalled, method_of, IsClosed}
use Rattle.guest_model.specs.Parts.{main_argument}
use Rattle.guest_model.specs.Changes.{Change, World, ended_thread, frame_begun, frame_of, goes, rests, returned, rests_now, with_event}
use Rattle.guest_model.specs.Finding.{Given}
use Rattle.guest_model.proofs.Options.{and_then_of, unless_of, IfThere, if_some, if_mapped, not_empty}

module _ (program : Program) (reached : Places) where
  -- Where the method of a frame has code, the frame stands at a place of the set.
  abbrev pub Stands : Frame → Type 0
  Stands frame =
      (of : Method) → method_at program frame.class frame.method ≡ Some of → 0 < length of.insns
      → IsTrue (reached frame.class frame.method frame.at)

  -- the frame stands at a call of this target
  pub record CallsFrom (frame : Frame) (ref : Target) : Type 0 where
    pub insn : Insn
    pub there : IsAt program frame.class frame.method frame.at insn ref
    pub how : How
    pub calls : shape_of insn ≡ shapes.Heap (heap.Call how)

  pub record Waits (frame : Frame) : Type 0 where
    pub ref : Target
    pub at_call : CallsFrom frame ref

  -- frames that stand in the set, of which all but the first wait for a call
  pub record Standing (frames : List Frame) : Type 0 where
    pub stand : AllByRecursion Stands frames
    pub wait : AllByRecursion Waits (drop 1 frames)

  -- the top frame stands at a call of the listed method
  abbrev pub TopCalls : ℕ → List Frame → Type 0
  TopCalls listed [] = ⊥
  TopCalls listed (frame ∷ below) = CallsFrom frame (target.ApiMethod listed)

  abbrev pub DoesWell : Doing → List Frame → Type 0
  DoesWell doings.Running frames = Unit {0}
  DoesWell (doings.InCall listed receiver arguments) frames = TopCalls listed frames
  DoesWell doings.Ended frames = Unit {0}

  pub record Well (thread : Thread) : Type 0 where
    pub frames : Standing thread.frames
    pub does : DoesWell thread.doing thread.frames

  abbrev pub SeenWell : Option Event → Type 0
  SeenWell None = Unit {0}
  SeenWell (Some event) = IsCalled program reached (method_of event)

  -- the thread of the change is well, and so is one that begins
  pub record Good (change : Change) : Type 0 where
    pub well : Well change.thread
    pub begins : AllByRecursion Well (option_to_list change.begins)
    pub seen : SeenWell change.event

  pub ended_well : Well ended_thread
  ended_well = record { frames = record { stand = tt; wait = tt }; does = tt }

  -- ---- from an instruction

  -- a method that has an instruction has code
  has_code : (class method at : ℕ) (insn : Insn) (ref : Target) (there : IsAt program class method at insn ref) → 0 < length there.of.insns
  has_code class method at insn ref there =
      let a = and_then_of (λ (i : Insn). option_map (λ (r : Target). (i, r)) (slice_get there.of.refs at)) (slice_get there.of.insns at)
      (insn, ref) there.is in
      not_empty there.of.insns at a.0 a.1

  pub inside : (frame : Frame) (insn : Insn) (ref : Target) → Stands frame → IsAt program frame.class frame.method frame.at insn ref
      → IsTrue (reached frame.class frame.method frame.at)
  inside frame insn ref stands there = stands there.of there.there (has_code frame.class frame.method frame.at insn ref there)

  pub called : (frame : Frame) (listed : ℕ) → Stands frame → CallsFrom frame (target.ApiMethod listed) → IsCalled program reached listed
  called frame listed stands from = record {
    class = frame.class;
    method = frame.method;
    at = frame.at;
    insn = from.insn;
    inside = inside frame from.insn (target.ApiMethod listed) stands from.there;
    there = from.there;
    how = from.how;
    calls = from.calls;
  }

  pub fitted_stands : (frame : Frame) (at : ℕ) (locals items : List Value) (f : Frame) → fitted frame at locals items ≡ Some f
      → IsTrue (reached frame.class frame.method at) → Stands f
  fitted_stands frame at locals items f e h =
      subst Stands (unless_of (nat_lt frame.stack.size (length items)) (moved_to frame at locals items) f e) (λ of there code. h)

  -- ---- going on

  pub goes_good : (world : World) (thread : Thread) (frames : List Frame) → Standing frames → Good (goes world thread frames)
  goes_good world thread frames standing = record { well = record { frames = standing; does = tt }; begins = tt; seen = tt }

  pub went_on : (world : World) (thread : Thread) (below : List Frame) (frame : Option Frame) → ((f : Frame) → frame ≡ Some f → Stands f)
      → AllByRecursion Stands below → AllByRecursion Waits below
      → IfThere Good (option_map (λ (f : Frame). goes world thread (f ∷ below)) frame)
  went_on world thread below frame stands stand wait =
      if_mapped Good (λ (f : Frame). goes world thread (f ∷ below)) frame
      (λ f e. goes_good world thread (f ∷ below) (record { stand = (stands f e, stand); wait = wait }))

  pub event_good : (change : Change) (event : Option Event) → Good change → SeenWell event → Good (with_event change event)
  event_good change event good seen = record { well = good.well; begins = good.begins; seen = seen }

  module _ (sound : HasInsns program) (closed : IsClosed program reached) where
    -- control goes on from an instruction after which it can
    pub next_inside : (frame : Frame) (insn : Insn) (ref : Target) → Stands frame → IsAt program frame.class frame.method frame.at insn ref
        → ends (shape_of insn) ≡ false → IsTrue (reached frame.class frame.method (frame.at + 1))
    next_inside frame insn ref stands there stays =
        let good = sound frame.class frame.method frame.at insn ref there in
        let goes : may_go_on (opcode_of insn) ≡ true = goes_on_alike insn good ∙ ap not stays in
        closed.next frame.class frame.method frame.at insn ref (inside frame insn ref stands there) there (frame.at + 1)
        (rw goes (0, omega arith, refl))

    pub after_insn : (frame : Frame) (insn : Insn) (ref : Target) → Stands frame → IsAt program frame.class frame.method frame.at insn ref
        → ends (shape_of insn) ≡ false → (items : List Value) (f : Frame) → after frame items ≡ Some f → Stands f
    after_insn frame insn ref stands there stays items f e =
        fitted_stands frame (frame.at + 1) frame.locals items f e (next_inside frame insn ref stands there stays)

    pub after_call : (frame : Frame) → Stands frame → Waits frame → (items : List Value) (f : Frame) → after frame items ≡ Some f
        → Stands f
    after_call frame stands waits items f e =
        after_insn frame waits.at_call.insn waits.ref stands waits.at_call.there (ap ends waits.at_call.calls) items f e

    -- ---- frames that begin

    pub begun_stands : (to : Given) (method : Method) (receiver : Option Value) (arguments : List Value)
        → Stands (frame_of program to method receiver arguments)
    begun_stands to method receiver arguments = closed.begin to.0 to.1

    begun_well : (to : Given) (o : Option Frame) → IfThere Stands o → (to_begin : List Given)
        → Well (record { frames = option_to_list o; to_begin = to_begin; doing = doings.Running })
    unfolding IfThere
    begun_well to None h to_begin = record { frames = record { stand = tt; wait = tt }; does = tt }
    begun_well to (Some f) h to_begin = record { frames = record { stand = (h f refl, tt); wait = tt }; does = tt }

    pub rests_well : (to_begin : List Given) → Well (rests program to_begin)
    rests_well [] = ended_well
    rests_well (next ∷ to_begin) =
        begun_well next (frame_begun program next)
        (if_mapped Stands _ (method_at program next.0 next.1)
        (λ method e. begun_stands next method None (if arity method.desc == 0 then [] else main_argument program ∷ []))) to_begin

    -- ---- returning

    pub returned_good : (world : World) (thread : Thread) (frames : List Frame) (result : Option Value) (event : Option Event)
        → AllByRecursion Stands frames → AllByRecursion Waits frames → SeenWell event
        → IfThere Good (returned program world thread frames result event)
    returned_good world thread [] result event stand wait seen =
        if_some Good (with_event (rests_now program world thread) event)
        (record { well = rests_well thread.to_begin; begins = tt; seen = seen })
    returned_good world thread (caller ∷ below) result event stand wait seen =
        if_mapped Good (λ (f : Frame). with_event (goes world thread (f ∷ below)) event) (after caller _)
        (λ f e. event_good (goes world thread (f ∷ below)) event
        (goes_good world thread (f ∷ below) (record { stand = (after_call caller stand.0 wait.0 _ f e, stand.1); wait = wait.1 })) seen)
