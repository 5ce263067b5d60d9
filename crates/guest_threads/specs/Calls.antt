-- What a call passes, as the code holds it, beside what the machine's definition says. (docs/MACHINE.md)
use Rattle.std.specs.Prelude.{◌≡◌, ℕ, List, [], ◌∷◌, ◌++◌, drop, Option, None, IfSome, option_map}
use Rattle.guest_heap.specs.declared.frame.Frame.{Frame}
use Rattle.guest_heap.specs.declared.thread.Thread.{Thread}
use Rattle.guest_heap.specs.declared.value.Value.{Value}
use Rattle.guest_frames.specs.Stepping.{after, moved_to}
use Rattle.guest_model.specs.Calls.{Taken}
use Rattle.guest_model.specs.Parts.{running}
use Rattle.guest_model.specs.Calling.{Calling}
use Rattle.guest_model.specs.Changes.{Change}
use Rattle.guest_threads.specs.declared.passing.Call.{Call}

-- a call of the thread with this number, if there is one
abbrev pub told_of : ℕ → Option Call → Type 0
told_of number call = IfSome call (λ (c : Call). c.number ≡ number)

-- what the call takes from these operands
abbrev pub taken_from : List Value → Call → Taken
taken_from stack call = record { receiver = call.receiver; arguments = call.arguments; beneath = drop call.taken stack }

-- what the call does of a thread with these frames, in the first; one without frames does nothing
abbrev pub calling : Call → Thread → List Frame → (Calling → Option Change) → Option Change
calling call thread [] act = None
calling call thread (frame ∷ below) act =
    act (record { number = call.number; thread = thread; frame = frame; below = below; passed = taken_from frame.stack.items call })

-- the thread once the first of these frames has gone past its call with these results
abbrev pub gone_past : Thread → List Frame → ℕ → List Value → Option Thread
gone_past thread [] taken results = None
gone_past thread (frame ∷ below) taken results =
    option_map (λ (f : Frame). running (f ∷ below) thread.to_begin) (after frame (results ++ drop taken frame.stack.items))

-- the frames while the first waits for the end of its call
abbrev pub waiting_in : List Frame → ℕ → List Frame
waiting_in [] taken = []
waiting_in (frame ∷ below) taken = moved_to frame frame.at frame.locals (drop taken frame.stack.items) ∷ below

-- the frames while the second waits for the end of its call, which runs in the first
abbrev pub entered_in : List Frame → ℕ → List Frame
entered_in [] taken = []
entered_in (top ∷ below) taken = top ∷ waiting_in below taken
