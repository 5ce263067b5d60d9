-- What a thread did that is taken out of the machine's list, beside what the machine's definition says. (docs/MACHINE.md)
use Rattle.std.specs.Prelude.{◌≡◌, ◌<◌, ◌-◌, ◌^◌, ⊤, ℕ, List, [], ◌∷◌, ◌++◌, Option, Some, None, Result, Ok, Err, IfSome, IsSomeAnd, drop, option_and_then, option_map, slice_get}
use Rattle.std.specs.Option.{option_map_or, option_or, option_to_list}
use Rattle.api_listing.specs.declared.events.Event.{Event}
use Rattle.bytecode_model.specs.declared.program.Program.{Program}
use Rattle.guest_heap.specs.declared.frame.Frame.{Frame}
use Rattle.guest_heap.specs.declared.object.Monitor.{Monitor}
use Rattle.guest_heap.specs.declared.thread.Thread.{Thread}
use Rattle.guest_heap.specs.declared.value.Value.{Value}
use Rattle.guest_frames.specs.Stepping.{after, moved_to}
use Rattle.guest_model.specs.declared.machine.Machine.{Machine}
use Rattle.guest_model.specs.Parts.{running}
use Rattle.guest_model.specs.Changes.{Change, rests, world_of}
use Rattle.guest_model.specs.Stepping.{Acting}
use Rattle.guest_model.specs.declared.fault.StepFault.{StepFault}
use Rattle.guest_model.specs.declared.fault.StepFault.TheVariants as faults

-- the threads, and after them the one that begins
abbrev pub with_begun : List Thread → Option Thread → List Thread
with_begun threads None = threads
with_begun threads (Some begun) = threads ++ begun ∷ []

-- The change was made: what is shared is what it says, and so is the thread, which stands apart; the thread that begins stands
-- after the others.
pub record IsDone (change : Change) (old new : Machine) (left : Thread) (event : Option Event) : Type 0 where
  pub world : world_of new ≡ change.world
  pub thread : left ≡ change.thread
  pub begins : new.threads ≡ with_begun old.threads change.begins
  pub stops : new.stopped ≡ option_or change.stops old.stopped
  pub event_is : change.event ≡ event

-- The thread did what the definition says; or that is not enabled, or memory ran out, and all is as it was.
abbrev pub ActsIn : Result (Option Event) StepFault → Machine → Machine → Thread → Thread → Option Change → Type 0
ActsIn (Ok event) old new thread left made = IsSomeAnd made (λ (change : Change). IsDone change old new left event)
ActsIn (Err faults.NotEnabled) old new thread left made = (made ≡ None) × (new ≡ old) × (left ≡ thread)
ActsIn (Err faults.Memory) old new thread left made = (new ≡ old) × (left ≡ thread)

-- what a thread with these frames does, of which the first acts; one without frames does nothing
abbrev pub acting : ℕ → Thread → List Frame → (Acting → Option Change) → Option Change
acting number thread [] act = None
acting number thread (frame ∷ below) act = act (record { number = number; thread = thread; frame = frame; below = below })

-- the lock of the top frame, if there is one
abbrev pub lock_on_top : List Frame → List Value
lock_on_top frames = option_map_or (λ (f : Frame). option_to_list f.lock) (slice_get frames 0) []

-- the thread that goes on in these frames with a result above the operands of the first, or else rests
abbrev pub thread_returned : Program → Thread → List Frame → Option Value → Option Thread
thread_returned program thread [] result = Some (rests program thread.to_begin)
thread_returned program thread (caller ∷ below) result =
    option_map (λ (f : Frame). running (f ∷ below) thread.to_begin) (after caller (option_to_list result ++ caller.stack.items))

-- whether the frame can go on after its instruction with these operands, at this place
abbrev pub CanGoOn : Result ℕ StepFault → Frame → List Value → Type 0
CanGoOn (Ok at) frame items = after frame items ≡ Some (moved_to frame at frame.locals items)
CanGoOn (Err faults.NotEnabled) frame items = after frame items ≡ None
CanGoOn (Err faults.Memory) frame items = ⊤

-- The same of what is never refused for want of memory.
abbrev pub Acted : Option (Option Event) → Machine → Machine → Thread → Thread → Option Change → Type 0
Acted (Some event) old new thread left made = IsSomeAnd made (λ (change : Change). IsDone change old new left event)
Acted None old new thread left made = (made ≡ None) × (new ≡ old) × (left ≡ thread)

-- The top frame, if there is one, can go on after its instruction: that is not the last that a number of 32 bits counts.
abbrev pub StandsLow : List Frame → Type 0
StandsLow frames = IfSome (slice_get frames 0) (λ (f : Frame). f.at < 2 ^ 32 - 1)

-- the monitors, and the frame gone on after its instruction, which takes one operand
abbrev pub past : Frame → Option (List Monitor) → Option (List Monitor × Frame)
past frame monitors = option_and_then (λ (held : List Monitor). option_map (λ (f : Frame). (held, f)) (after frame (drop 1 frame.stack.items))) monitors
