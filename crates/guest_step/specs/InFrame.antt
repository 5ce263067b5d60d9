-- What an instruction that works on the heap did in its frame. (docs/MACHINE.md)
use Rattle.std.specs.Prelude.{◌≡◌, ⊤, ℕ, ◌+◌, List, Option, Some, None, Result, Ok, Err, option_map}
use Rattle.bytecode_model.specs.SearchOrder.{Name}
use Rattle.mon_base.specs.declared.memory.NoMemory.{NoMemory}
use Rattle.guest_heap.specs.declared.frame.Frame.{Frame}
use Rattle.guest_heap.specs.declared.object.Monitor.{Monitor}
use Rattle.guest_heap.specs.declared.object.Object.{Object}
use Rattle.guest_heap.specs.declared.value.Value.{Value}
use Rattle.guest_frames.specs.Stepping.{after}
use Rattle.guest_model.specs.Changes.{World}
use Rattle.guest_model.specs.HeapOperations.{HeapResult}
use Rattle.guest_operations.specs.declared.completion.Completion.{Completion}
use Rattle.guest_operations.specs.declared.completion.Completion.TheVariants as completions
use Rattle.guest_model.specs.Exceptions.{name_of}

-- the heap, the static fields, and a frame
pub record Inside : Type 0 where
  pub heap : List Object
  pub statics : List (List Value)
  pub frame : Frame

abbrev pub inside : List Object → List (List Value) → Frame → Inside
inside heap statics frame = record { heap = heap; statics = statics; frame = frame }

abbrev pub shared : Inside → List Monitor → World
shared place monitors = record { heap = place.heap; statics = place.statics; monitors = monitors }

-- what is shared and the frame after its instruction, or the class of what is thrown
abbrev pub gone : Frame → HeapResult → Option (Result (World × Frame) Name)
gone frame None = None
gone frame (Some (Err class)) = Some (Err class)
gone frame (Some (Ok made)) = option_map (λ (f : Frame). Ok (made.0, f)) (after frame made.1)

-- the same as an outcome tells it, with what was left
abbrev pub told_in : Inside → List Monitor → Option Completion → Option (Result (World × Frame) Name)
told_in left monitors None = None
told_in left monitors (Some completions.Goes) = Some (Ok (shared left monitors, left.frame))
told_in left monitors (Some (completions.Throws t)) = Some (Err (name_of t))

-- all is as it was, unless it went on
abbrev pub StaysIn : Inside → Inside → Option Completion → Type 0
StaysIn old new None = new ≡ old
StaysIn old new (Some completions.Goes) = ⊤
StaysIn old new (Some (completions.Throws t)) = new ≡ old

-- Whatever the monitors are, the instruction comes to what the outcome tells; or memory ran out, and all is as it was.
abbrev pub OperatesIn : Result (Option Completion) NoMemory → Inside → Inside → (World → HeapResult) → Type 0
OperatesIn (Ok completion) old new made = ((monitors : List Monitor) → gone old.frame (made (shared old monitors)) ≡ told_in new monitors completion) × StaysIn old new completion
OperatesIn (Err e) old new made = new ≡ old

-- where a frame stands afterwards: after its instruction where that went on
abbrev pub at_after : Option Completion → ℕ → ℕ
at_after None at = at
at_after (Some completions.Goes) at = at + 1
at_after (Some (completions.Throws t)) at = at
