-- Frames that go on, and the step of an instruction that changes its frame alone. (docs/MACHINE.md)
use Rattle.std.specs.Prelude.{ℕ, ◌+◌, nat_lt, if◌then◌else◌, List, length, Option, Some, None, option_and_then}
use Rattle.insn_codec.specs.declared.insn.Insn.{Insn}
use Rattle.insn_codec.specs.Control.{next_of}
use Rattle.insn_codec.specs.Effect.{Moved, effect}
use Rattle.insn_codec.specs.Shapes.{shape_of}
use Rattle.guest_heap.specs.declared.frame.Frame.{Frame}
use Rattle.guest_heap.specs.declared.value.Value.{Value}
use Rattle.guest_frames.specs.Values.{values_moved, values_seen}

-- the frame, gone on to this instruction with these locals and operands
abbrev pub moved_to : Frame → ℕ → List Value → List Value → Frame
moved_to frame at locals items = record {
  class = frame.class;
  method = frame.method;
  at = at;
  locals = locals;
  stack = record { items = items; size = frame.stack.size };
  lock = frame.lock;
}

-- the same, where the operands are at most the stack's size
abbrev pub fitted : Frame → ℕ → List Value → List Value → Option Frame
fitted frame at locals items = if nat_lt frame.stack.size (length items) then None else Some (moved_to frame at locals items)

-- the frame after an instruction that left these operands
abbrev pub after : Frame → List Value → Option Frame
after frame items = fitted frame (frame.at + 1) frame.locals items

-- the frame after an instruction that changes it alone
abbrev pub frame_stepped : Insn → Frame → Option Frame
frame_stepped insn frame =
    option_and_then (λ (m : Moved Value). fitted frame (next_of values_seen insn frame.at frame.stack.items) m.0 m.1)
    (effect values_moved (shape_of insn) frame.locals frame.stack.items)
