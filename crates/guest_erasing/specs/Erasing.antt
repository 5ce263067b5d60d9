-- The machine of a woven program as its client's machine: without the fields and the monitor of conspec/State, without the locals of
-- blocks, and each frame at the client's instruction. (docs/TRANSPARENCY.md)
use Rattle.std.specs.Prelude.{◌+◌, Bool, not, length, map, take, filter}
use Rattle.std.specs.Option.{option_map_or}
use Rattle.bytecode_model.specs.declared.program.Method.{Method}
use Rattle.bytecode_model.specs.declared.program.Program.{Program}
use Rattle.guest_heap.specs.declared.frame.Frame.{Frame}
use Rattle.guest_heap.specs.declared.object.Monitor.{Monitor}
use Rattle.guest_heap.specs.declared.thread.Thread.{Thread}
use Rattle.guest_heap.specs.declared.value.Value.{Value}
use Rattle.guest_heap.specs.declared.value.Value.TheVariants as values
use Rattle.guest_frames.specs.Values.{are_one}
use Rattle.guest_model.specs.declared.machine.Machine.{Machine}
use Rattle.guest_model.specs.Places.{method_at}
use Rattle.guest_erasing.specs.Places.{Sites, own}
use Rattle.guest_erasing.specs.Renumbering.{machine_with}

-- the object of conspec/State, which stands after all classes of the client
abbrev pub state_object : Program → Value
state_object client = values.Class (length client.listing.classes + length client.classes)

-- The monitor is not that of conspec/State.
abbrev pub is_clients : Program → Monitor → Bool
is_clients client m = not (are_one m.on (state_object client))

-- a frame of a method with these blocks, at the client's instruction, with the client's locals and room for operands
abbrev pub frame_erased : Method → Sites → Frame → Frame
frame_erased method sites frame = record {
  class = frame.class;
  method = frame.method;
  at = own sites frame.at;
  locals = take method.max_locals frame.locals;
  stack = record { items = frame.stack.items; size = method.max_stack };
  lock = frame.lock;
}

module _ (sites_of : Method → Sites) (client : Program) where
  abbrev pub erased_frame : Frame → Frame
  erased_frame frame = option_map_or (λ method. frame_erased method (sites_of method) frame) (method_at client frame.class frame.method) frame

  abbrev pub erased_thread : Thread → Thread
  erased_thread thread = record { frames = map erased_frame thread.frames; to_begin = thread.to_begin; doing = thread.doing }

  -- all values as they are
  abbrev pub erased_plainly : Machine → Machine
  erased_plainly machine = record {
    heap = machine.heap;
    statics = take (length client.classes) machine.statics;
    monitors = filter (is_clients client) machine.monitors;
    threads = map erased_thread machine.threads;
    stopped = machine.stopped;
  }

  abbrev pub erased : (Value → Value) → Machine → Machine
  erased f machine = machine_with f (erased_plainly machine)
