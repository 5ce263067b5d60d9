-- What a step changes, and what threads do that go on, throw, or end. (docs/MACHINE.md)
use Rattle.std.specs.Prelude.{ℕ, ℤ, ◌==◌, ◌+◌, ◌-◌, if◌then◌else◌, List, [], ◌∷◌, ◌++◌, length, replicate, slice_set, Option, Some, None, option_map}
use Rattle.std.specs.List.{flat_map}
use Rattle.std.specs.Option.{option_map_or, option_to_list}
use Rattle.api_listing.specs.declared.events.Event.{Event}
use Rattle.bytecode_model.specs.declared.program.Method.{Method}
use Rattle.bytecode_model.specs.declared.program.Program.{Program}
use Rattle.bytecode_model.specs.Heads.{is_synchronized}
use Rattle.bytecode_model.specs.SearchOrder.{Name}
use Rattle.guest_heap.specs.declared.frame.Frame.{Frame}
use Rattle.guest_heap.specs.declared.object.Monitor.{Monitor}
use Rattle.guest_heap.specs.declared.object.Object.{Object}
use Rattle.guest_heap.specs.declared.thread.Doing.TheVariants as doings
use Rattle.guest_heap.specs.declared.thread.Thread.{Thread}
use Rattle.guest_heap.specs.declared.value.Value.{Value}
use Rattle.guest_heap.specs.declared.value.Value.TheVariants as values
use Rattle.guest_model.specs.declared.machine.Machine.{Machine}
use Rattle.guest_model.specs.Calls.{arity}
use Rattle.guest_model.specs.Monitors.{entered, all_given_up}
use Rattle.guest_model.specs.Places.{method_at}
use Rattle.guest_frames.specs.Stepping.{after}
use Rattle.guest_model.specs.Parts.{running, thrown_thread, main_argument}
use Rattle.guest_model.specs.Throwing.{unwound, locks_left, bare_object}
use Rattle.guest_model.specs.Finding.{Given}
use Rattle.guest_model.specs.Options.{◌>>=◌}

-- what all threads share
pub record World : Type 0 where
  pub heap : List Object
  pub statics : List (List Value)
  pub monitors : List Monitor

-- What a step changes: what is shared, its own thread, a thread that begins, whether the program stops, and what the library
-- sees. Every other thread stays as it was.
pub record Change : Type 0 where
  pub world : World
  pub thread : Thread
  pub begins : Option Thread
  pub stops : Option ℤ
  pub event : Option Event

abbrev pub world_of : Machine → World
world_of machine = record { heap = machine.heap; statics = machine.statics; monitors = machine.monitors }

-- the machine after the change by the thread of this number
abbrev pub applied : ℕ → Machine → Change → Machine
applied number machine change = record {
  heap = change.world.heap;
  statics = change.world.statics;
  monitors = change.world.monitors;
  threads = slice_set machine.threads number change.thread ++ option_to_list change.begins;
  stopped = change.stops;
}

abbrev pub with_heap : World → List Object → World
with_heap world heap = record { heap = heap; statics = world.statics; monitors = world.monitors }

abbrev pub with_object : World → Object → World
with_object world object = with_heap world (world.heap ++ object ∷ [])

abbrev pub with_statics : World → List (List Value) → World
with_statics world statics = record { heap = world.heap; statics = statics; monitors = world.monitors }

abbrev pub with_monitors : World → List Monitor → World
with_monitors world monitors = record { heap = world.heap; statics = world.statics; monitors = monitors }

-- ---- going on

-- the thread stands in these frames now
abbrev pub goes : World → Thread → List Frame → Change
goes world thread frames = record { world = world; thread = running frames thread.to_begin; begins = None; stops = None; event = None }

-- ---- ending

abbrev pub ended_thread : Thread
ended_thread = record { frames = []; to_begin = []; doing = doings.Ended }

abbrev pub locks_of : List Frame → List Value
locks_of frames = flat_map (λ (f : Frame). option_to_list f.lock) frames

-- The thread ends as by an exception that no handler takes: the locks of its frames are given up, and what it had still to
-- begin is dropped.
abbrev pub ends_thread : World → ℕ → List Frame → Change
ends_thread world number frames = record {
  world = with_monitors world (all_given_up world.monitors number (locks_of frames));
  thread = ended_thread;
  begins = None;
  stops = None;
  event = None;
}

-- ---- throwing

-- what is thrown is an object of the class
abbrev pub throws : Program → World → ℕ → Thread → List Frame → Value → Name → Option Event → Change
throws program world number thread frames thrown class event = record {
  world = with_monitors world (all_given_up world.monitors number (locks_left program thrown class frames));
  thread = thrown_thread (unwound program thrown class frames) thread.to_begin;
  begins = None;
  stops = None;
  event = event;
}

-- a new object of the class is thrown
abbrev pub throws_new : Program → World → ℕ → Thread → List Frame → Name → Option Event → Change
throws_new program world number thread frames class event =
    throws program (with_object world (bare_object class)) number thread frames (values.Ref (length world.heap)) class event

-- ---- frames that begin

-- the monitor that a synchronized method takes: that of its receiver, or else of the object of its class
abbrev pub lock_of : Program → ℕ → Method → Option Value → Option Value
lock_of program class method receiver =
    if is_synchronized method.flags then Some (option_map_or (λ (v : Value). v) receiver (values.Class (length program.listing.classes + class))) else None

-- a frame of the method, whose locals after its arguments are null
abbrev pub frame_of : Program → Given → Method → Option Value → List Value → Frame
frame_of program to method receiver arguments =
    let taken = option_to_list receiver ++ arguments in record {
      class = to.0;
      method = to.1;
      at = 0;
      locals = taken ++ replicate (method.max_locals - length taken) values.Null;
      stack = record { items = []; size = method.max_stack };
      lock = lock_of program to.0 method receiver;
    }

-- the monitors once the lock is taken, if there is one to take; nothing while another thread holds it
abbrev pub lock_taken : List Monitor → ℕ → Option Value → Option (List Monitor)
lock_taken monitors number None = Some monitors
lock_taken monitors number (Some on) = entered monitors number on

-- the method is called, in front of these frames
abbrev pub enters_method : Program → World → ℕ → Thread → List Frame → Given → Option Value → List Value → Option Change
enters_method program world number thread waiting to receiver arguments = do
  method ← method_at program to.0 to.1
  held ← lock_taken world.monitors number (lock_of program to.0 method receiver)
  Some (goes (with_monitors world held) thread (frame_of program to method receiver arguments ∷ waiting))

-- ---- frames that begin without a call: of main, of an initialiser, of `run`. None of these is synchronized.

-- the frame of a static method: main has one argument, an initialiser none
abbrev pub frame_begun : Program → Given → Option Frame
frame_begun program to =
    option_map (λ (method : Method). frame_of program to method None (if arity method.desc == 0 then [] else main_argument program ∷ [])) (method_at program to.0 to.1)

-- the thread once its frames are left: it begins the next method, or has ended
abbrev pub rests : Program → List Given → Thread
rests program [] = ended_thread
rests program (next ∷ to_begin) = running (option_to_list (frame_begun program next)) to_begin

-- ---- returning

abbrev pub with_event : Change → Option Event → Change
with_event change event = record { world = change.world; thread = change.thread; begins = change.begins; stops = change.stops; event = event }

-- the thread has no frame left, and rests
abbrev pub rests_now : Program → World → Thread → Change
rests_now program world thread = record { world = world; thread = rests program thread.to_begin; begins = None; stops = None; event = None }

-- the caller goes on after its call with the result, or the thread rests; the library may see it
abbrev pub returned : Program → World → Thread → List Frame → Option Value → Option Event → Option Change
returned program world thread [] result event = Some (with_event (rests_now program world thread) event)
returned program world thread (caller ∷ below) result event =
    option_map (λ (f : Frame). with_event (goes world thread (f ∷ below)) event) (after caller (option_to_list result ++ caller.stack.items))
