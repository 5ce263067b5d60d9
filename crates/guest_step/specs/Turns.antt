-- What a thread does in its turn, in parts. (docs/MACHINE.md)
use Rattle.std.specs.Prelude.{◌^◌, ◌<◌, List, [], ◌∷◌, Option, None, IfSome, Result, Ok, Err, option_map, slice_get}
use Rattle.api_listing.specs.declared.events.Event.{Event}
use Rattle.insn_codec.specs.declared.insn.Insn.{Insn}
use Rattle.guest_heap.specs.declared.frame.Frame.{Frame}
use Rattle.guest_heap.specs.declared.thread.Doing.{Doing}
use Rattle.guest_heap.specs.declared.thread.Thread.{Thread}
use Rattle.guest_frames.specs.Stepping.{frame_stepped}
use Rattle.guest_model.specs.Parts.{running}
use Rattle.guest_model.specs.declared.fault.StepFault.{StepFault}

-- the thread once an instruction that changes its frame alone is done in the first of these frames
abbrev pub thread_stepped : Thread → List Frame → Insn → Option Thread
thread_stepped thread [] insn = None
thread_stepped thread (frame ∷ below) insn = option_map (λ (f : Frame). running (f ∷ below) thread.to_begin) (frame_stepped insn frame)

-- the same answer, of what the library does not see
abbrev pub unseen : Result (Unit {0}) StepFault → Result (Option Event) StepFault
unseen (Ok done) = Ok None
unseen (Err fault) = Err fault

-- the thread, doing this
abbrev pub doing_this : Thread → Doing → Thread
doing_this thread doing = record { frames = thread.frames; to_begin = thread.to_begin; doing = doing }

-- The top frame stands at an instruction of a linked program, so that there is a number after its counter.
abbrev pub StandsInCode : List Frame → Type 0
StandsInCode frames = IfSome (slice_get frames 0) (λ (f : Frame). f.at < 2 ^ 16)
