-- A machine with each of its values mapped. Today no value of a woven program differs from its client's; a program that gets texts of
-- its own will number its strings anew. (docs/TRANSPARENCY.md)
use Rattle.std.specs.Prelude.{map, option_map}
use Rattle.guest_heap.specs.declared.frame.Frame.{Frame}
use Rattle.guest_heap.specs.declared.object.Monitor.{Monitor}
use Rattle.guest_heap.specs.declared.object.Object.{Object}
use Rattle.guest_heap.specs.declared.object.Object.TheVariants as objects
use Rattle.guest_heap.specs.declared.thread.Doing.{Doing}
use Rattle.guest_heap.specs.declared.thread.Doing.TheVariants as doings
use Rattle.guest_heap.specs.declared.thread.Thread.{Thread}
use Rattle.guest_heap.specs.declared.value.Value.{Value}
use Rattle.guest_model.specs.declared.machine.Machine.{Machine}

abbrev pub object_with : (Value → Value) → Object → Object
object_with f (objects.Plain class fields target thread) = objects.Plain class (map f fields) (f target) thread
object_with f (objects.Array desc items) = objects.Array desc (map f items)
object_with f (objects.Text text) = objects.Text text

abbrev pub monitor_with : (Value → Value) → Monitor → Monitor
monitor_with f m = record { on = f m.on; owner = m.owner; count = m.count }

abbrev pub frame_with : (Value → Value) → Frame → Frame
frame_with f frame = record {
  class = frame.class;
  method = frame.method;
  at = frame.at;
  locals = map f frame.locals;
  stack = record { items = map f frame.stack.items; size = frame.stack.size };
  lock = option_map f frame.lock;
}

abbrev pub doing_with : (Value → Value) → Doing → Doing
doing_with f doings.Running = doings.Running
doing_with f (doings.InCall method receiver arguments) = doings.InCall method (option_map f receiver) (map f arguments)
doing_with f doings.Ended = doings.Ended

abbrev pub thread_with : (Value → Value) → Thread → Thread
thread_with f thread = record { frames = map (frame_with f) thread.frames; to_begin = thread.to_begin; doing = doing_with f thread.doing }

-- the machine with each value mapped
abbrev pub machine_with : (Value → Value) → Machine → Machine
machine_with f machine = record {
  heap = map (object_with f) machine.heap;
  statics = map (map f) machine.statics;
  monitors = map (monitor_with f) machine.monitors;
  threads = map (thread_with f) machine.threads;
  stopped = machine.stopped;
}
