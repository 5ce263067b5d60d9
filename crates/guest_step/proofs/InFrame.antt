-- An instruction that works on the heap, in its frame.
use Rattle.std.proofs.Common.{◌≡◌, ◌+◌, ℕ, Bool, true, false, cond, List, [], ◌∷◌, length, drop, Option, Some, None, Result, Ok, Err, refl, sym, ap, ◌∙◌, subst}
use Rattle.std.specs.Prelude.{IsSomeAnd, nat_lt, option_map, option_and_then, slice_get, slice_set}
use Rattle.api_listing.specs.declared.events.Event.{Event}
use Rattle.insn_codec.specs.declared.shape.Heap.{Heap}
use Rattle.bytecode_model.specs.declared.program.Program.{Program}
use Rattle.bytecode_model.specs.declared.program.Target.{Target}
use Rattle.bytecode_model.specs.SearchOrder.{Name}
use Rattle.guest_heap.specs.declared.frame.Frame.{Frame}
use Rattle.guest_heap.specs.declared.object.Object.{Object}
use Rattle.guest_heap.specs.declared.value.Value.{Value}
use Rattle.guest_heap.specs.Stack.{Operands}
use Rattle.guest_frames.specs.Stepping.{after, moved_to}
use Rattle.guest_heap.specs.declared.thread.Thread.{Thread}
use Rattle.guest_model.specs.declared.machine.Machine.{Machine}
use Rattle.guest_model.specs.Parts.{running}
use Rattle.guest_model.specs.Changes.{Change, World, goes, throws_new, world_of}
use Rattle.guest_model.specs.Stepping.{Acting, comes_to, operates}
use Rattle.guest_model.specs.HeapOperations.{HeapResult, heap_result}
use Rattle.guest_operations.specs.declared.completion.Completion.{Completion}
use Rattle.guest_operations.specs.declared.completion.Completion.TheVariants as completions
use Rattle.guest_model.specs.declared.fault.StepFault.{StepFault}
use Rattle.guest_model.specs.declared.fault.StepFault.TheVariants as faults
use Rattle.guest_model.specs.declared.thrown.Thrown.{Thrown}
use Rattle.guest_threads.specs.Acts.{ActsIn, IsDone, acting}
use Rattle.guest_step.specs.InFrame.{Inside, OperatesIn, at_after, gone, inside}
use Rattle.guest_operations.specs.Operates.{Operates, OperationState, at, fitting}
use Rattle.guest_model.specs.Exceptions.{name_of}

module _ (frame : Frame) where
  -- it goes on
  pub gone_on : (w : HeapResult) (world : World) (items : List Value) → fitting frame.stack.size w ≡ Some (Ok (world, items))
      → gone frame w ≡ Some (Ok (world, moved_to frame (frame.at + 1) frame.locals items))
  gone_on None world items e = absurd cc
  gone_on (Some (Err class)) world items e = absurd cc
  gone_on (Some (Ok made)) world items e = by (nat_lt frame.stack.size (length made.1)) e where
    by : (b : Bool) → cond {A = HeapResult} b None (Some (Ok made)) ≡ Some (Ok (world, items))
        → option_map {U = Result (World × Frame) Name} (λ (f : Frame). Ok (made.0, f)) (cond {A = Option Frame} b None (Some (moved_to frame (frame.at + 1) frame.locals made.1))) ≡ Some (Ok (world, moved_to frame (frame.at + 1) frame.locals items))
    by true h = absurd cc
    by false h = let m : made ≡ (world, items) = cc in ap (λ (m : World × List Value). Some (Ok (m.0, moved_to frame (frame.at + 1) frame.locals m.1))) m

  -- it comes to nothing
  pub gone_nowhere : (w : HeapResult) → fitting frame.stack.size w ≡ None → gone frame w ≡ None
  gone_nowhere None e = refl
  gone_nowhere (Some (Err class)) e = absurd cc
  gone_nowhere (Some (Ok made)) e = by (nat_lt frame.stack.size (length made.1)) e where
    by : (b : Bool) → cond {A = HeapResult} b None (Some (Ok made)) ≡ None
        → option_map {U = Result (World × Frame) Name} (λ (f : Frame). Ok (made.0, f)) (cond {A = Option Frame} b None (Some (moved_to frame (frame.at + 1) frame.locals made.1))) ≡ None
    by true h = refl
    by false h = absurd cc

  -- it throws
  pub gone_thrown : (w : HeapResult) (name : Name) → fitting frame.stack.size w ≡ Some (Err name) → gone frame w ≡ Some (Err name)
  gone_thrown None name e = absurd cc
  gone_thrown (Some (Err class)) name e = let same : class ≡ name = cc in ap (λ (n : Name). Some (Err n)) same
  gone_thrown (Some (Ok made)) name e = by (nat_lt frame.stack.size (length made.1)) e where
    by : (b : Bool) → cond {A = HeapResult} b None (Some (Ok made)) ≡ Some (Err name)
        → option_map {U = Result (World × Frame) Name} (λ (f : Frame). Ok (made.0, f)) (cond {A = Option Frame} b None (Some (moved_to frame (frame.at + 1) frame.locals made.1))) ≡ Some (Err name)
    by true h = absurd cc
    by false h = absurd cc

-- the frame with another stack, at another place
abbrev pub standing : Frame → ℕ → Operands → Frame
standing frame at stack = record { class = frame.class; method = frame.method; at = at; locals = frame.locals; stack = stack; lock = frame.lock }

-- what an instruction did to heap, static fields and stack, it did in its frame
pub in_frame : (completion : Option Completion) (frame : Frame) (heap heap_left : List Object) (statics statics_left : List (List Value)) (stack : Operands) (made : World → HeapResult) (n : ℕ)
    → Operates (Ok completion) (at heap statics frame.stack) (at heap_left statics_left stack) made → n ≡ at_after completion frame.at
    → OperatesIn (Ok completion) (inside heap statics frame) (inside heap_left statics_left (standing frame n stack)) made
in_frame None frame heap heap_left statics statics_left stack made n h is = (
  λ monitors. gone_nowhere frame (made (record { heap = heap; statics = statics; monitors = monitors })) (h.0 monitors),
  ap (λ (p : OperationState). inside p.heap p.statics (standing frame n p.stack)) h.1 ∙ ap (λ (k : ℕ). inside heap statics (standing frame k frame.stack)) is,
)
in_frame (Some completions.Goes) frame heap heap_left statics statics_left stack made n h is = (
  λ monitors. gone_on frame (made (record { heap = heap; statics = statics; monitors = monitors })) (record { heap = heap_left; statics = statics_left; monitors = monitors }) stack.items (h.0 monitors)
      ∙ ap (λ (f : Frame). Some (Ok (record { heap = heap_left; statics = statics_left; monitors = monitors }, f)))
      (sym (ap (λ (k : ℕ). standing frame k stack) is ∙ ap (λ (size : ℕ). standing frame (frame.at + 1) (record { items = stack.items; size = size })) h.1)),
  tt,
)
in_frame (Some (completions.Throws t)) frame heap heap_left statics statics_left stack made n h is = (
  λ monitors. gone_thrown frame (made (record { heap = heap; statics = statics; monitors = monitors })) (name_of t) (h.0 monitors),
  ap (λ (p : OperationState). inside p.heap p.statics (standing frame n p.stack)) h.1 ∙ ap (λ (k : ℕ). inside heap statics (standing frame k frame.stack)) is,
)

-- ---- in a thread

-- what a thread does whose instruction comes to this
abbrev pub operates_by : Program → World → ℕ → Thread → List Frame → Option (Result (World × Frame) Name) → Option Change
operates_by program world number thread frames None = None
operates_by program world number thread frames (Some (Ok made)) = Some (goes made.0 thread (made.1 ∷ drop 1 frames))
operates_by program world number thread frames (Some (Err class)) = Some (throws_new program world number thread frames class None)

module _ (program : Program) (world : World) (number : ℕ) (thread : Thread) (what : Heap) (ref : Target) where
  by_frame : (frame : Frame) (below : List Frame) (w : HeapResult)
      → option_and_then (comes_to program world (record { number = number; thread = thread; frame = frame; below = below })) w
      ≡ operates_by program world number thread (frame ∷ below) (gone frame w)
  by_frame frame below None = refl
  by_frame frame below (Some (Err class)) = refl
  by_frame frame below (Some (Ok made)) = by (after frame made.1) where
    by : (o : Option Frame) → option_map (λ (f : Frame). goes made.0 thread (f ∷ below)) o
        ≡ operates_by program world number thread (frame ∷ below) (option_map {U = Result (World × Frame) Name} (λ (f : Frame). Ok (made.0, f)) o)
    by None = refl
    by (Some f) = refl

  pub acting_operates : (frames : List Frame) (f : Frame) → slice_get frames 0 ≡ Some f
      → acting number thread frames (λ (a : Acting). operates program world a what ref)
      ≡ operates_by program world number thread frames (gone f (heap_result program world what ref f.stack.items))
  acting_operates [] f there = absurd cc
  acting_operates (g ∷ below) f there =
      let same : g ≡ f = cc in
      by_frame g below (heap_result program world what ref g.stack.items)
      ∙ ap (λ (x : Frame). operates_by program world number thread (g ∷ below) (gone x (heap_result program world what ref x.stack.items))) same

-- ---- what becomes of the thread and the machine

-- the machine with this heap and these static fields
abbrev pub sharing : Machine → List Object → List (List Value) → Machine
sharing m heap statics = record { heap = heap; statics = statics; monitors = m.monitors; threads = m.threads; stopped = m.stopped }

-- the thread with this frame on top
abbrev pub with_top : Thread → Frame → Thread
with_top t frame = record { frames = slice_set t.frames 0 frame; to_begin = t.to_begin; doing = t.doing }

set_same : (frames : List Frame) (f : Frame) → slice_get frames 0 ≡ Some f → slice_set frames 0 f ≡ frames
set_same [] f there = refl
set_same (g ∷ below) f there = let same : g ≡ f = cc in ap (λ (x : Frame). x ∷ below) (sym same)

set_top : (frames : List Frame) (f g : Frame) → slice_get frames 0 ≡ Some f → slice_set frames 0 g ≡ g ∷ drop 1 frames
set_top [] f g there = absurd cc
set_top (x ∷ below) f g there = refl

-- what is thrown in the same machine by the same thread
thrown_as : (program : Program) (number : ℕ) (r : Result (Option Event) StepFault) (m same new : Machine) (t alike left : Thread) (class name : Name)
    → same ≡ m → alike ≡ t → name ≡ class
    → ActsIn r same new alike left (Some (throws_new program (world_of same) number alike alike.frames name None))
    → ActsIn r m new t left (Some (throws_new program (world_of m) number t t.frames class None))
thrown_as program number r m same new t alike left class name e h k acts =
    subst (λ (c : Name). ActsIn r m new t left (Some (throws_new program (world_of m) number t t.frames c None))) k
    (subst (λ (x : Thread). ActsIn r m new x left (Some (throws_new program (world_of m) number x x.frames name None))) h
    (subst (λ (x : Machine). ActsIn r x new alike left (Some (throws_new program (world_of x) number alike alike.frames name None))) e acts))

module _ (program : Program) (m : Machine) (number : ℕ) (t : Thread) (what : Heap) (ref : Target) (f : Frame) (there : slice_get t.frames 0 ≡ Some f)
    (heap : List Object) (statics : List (List Value)) (g : Frame) where
  abbrev made : World → HeapResult
  made world = heap_result program world what ref f.stack.items

  abbrev does : Option Change
  does = acting number t t.frames (λ (a : Acting). operates program (world_of m) a what ref)

  comes : (o : Option (Result (World × Frame) Name)) → gone f (made (world_of m)) ≡ o → does ≡ operates_by program (world_of m) number t t.frames o
  comes o e = acting_operates program (world_of m) number t what ref t.frames f there ∙ ap (operates_by program (world_of m) number t t.frames) e

  same_machine : inside heap statics g ≡ inside m.heap m.statics f → sharing m heap statics ≡ m
  same_machine e = ap (λ (p : Inside). sharing m p.heap p.statics) e

  same_thread : inside heap statics g ≡ inside m.heap m.statics f → with_top t g ≡ t
  same_thread e =
      ap (λ (p : Inside). with_top t p.frame) e
      ∙ ap (λ (frames : List Frame). record { frames = frames; to_begin = t.to_begin; doing = t.doing }) (set_same t.frames f there)

  -- it comes to nothing
  pub operates_nowhere : OperatesIn (Ok None) (inside m.heap m.statics f) (inside heap statics g) made
      → ActsIn (Err faults.NotEnabled) m (sharing m heap statics) t (with_top t g) does
  operates_nowhere h = (comes None (h.0 m.monitors), same_machine h.1, same_thread h.1)

  -- it goes on
  pub operates_on : OperatesIn (Ok (Some completions.Goes)) (inside m.heap m.statics f) (inside heap statics g) made
      → ActsIn (Ok None) m (sharing m heap statics) t (running (slice_set t.frames 0 g) t.to_begin) does
  operates_on h =
      subst (λ (o : Option Change). IsSomeAnd o (λ (change : Change). IsDone change m (sharing m heap statics) (running (slice_set t.frames 0 g) t.to_begin) None))
      (sym (comes _ (h.0 m.monitors)))
      (record { world = refl; thread = ap (λ (frames : List Frame). running frames t.to_begin) (set_top t.frames f g there); begins = refl; stops = refl; event_is = refl })

  -- it throws
  pub operates_thrown : (thrown : Thrown) (r : Result (Option Event) StepFault) (new : Machine) (left : Thread) (name : Name)
      → OperatesIn (Ok (Some (completions.Throws thrown))) (inside m.heap m.statics f) (inside heap statics g) made → name ≡ name_of thrown
      → ActsIn r (sharing m heap statics) new (with_top t g) left
      (Some (throws_new program (world_of (sharing m heap statics)) number (with_top t g) (slice_set t.frames 0 g) name None))
      → ActsIn r m new t left does
  operates_thrown thrown r new left name h named acts =
      subst (λ (o : Option Change). ActsIn r m new t left o) (sym (comes _ (h.0 m.monitors)))
      (thrown_as program number r m (sharing m heap statics) new t (with_top t g) left (name_of thrown) name (same_machine h.1) (same_thread h.1) named acts)
