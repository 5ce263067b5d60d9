-- What an answer of the library takes of memory, and that it is there. (docs/RUNS.md)
use Rattle.std.specs.Prelude.{◌≡◌, ◌≤◌, ◌<◌, ◌^◌, ◌-◌, ℕ, true, List, [], ◌∷◌, length, max, Option, Some, None, Vec, IfSome, option_map, slice_get, vec_capacity, vec_len}
use Rattle.std.specs.Global.{Global}
use Rattle.std.specs.Option.{option_map_or}
use Rattle.api_listing.specs.declared.events.ApiAnswer.{ApiAnswer}
use Rattle.api_listing.specs.declared.events.ApiAnswer.TheVariants as answers
use Rattle.api_listing.specs.declared.types.ListedClass.{ListedClass}
use Rattle.bytecode_model.specs.declared.program.Program.{Program}
use Rattle.guest_heap.specs.declared.object.Object.{Object}
use Rattle.guest_heap.specs.declared.thread.Doing.{Doing}
use Rattle.guest_heap.specs.declared.thread.Doing.TheVariants as doings
use Rattle.guest_heap.specs.declared.thread.Thread.{Thread}
use Rattle.guest_heap.specs.declared.value.Value.{Value}
use Rattle.guest_heap.specs.declared.value.Value.TheVariants as values
use Rattle.guest_model.specs.declared.machine.Machine.{Machine}
use Rattle.guest_model.specs.Answering.{given, method_takes}
use Rattle.guest_model.specs.Changes.{World, rests, world_of}
use Rattle.guest_model.specs.Seen.{bytes_shown}
use Rattle.guest_step.specs.Living.{TakesThread, living_of}
use Rattle.guest_step.specs.declared.rooms.Rooms.{Rooms}
use Rattle.guest_threads.specs.Acts.{StandsLow}

-- ---- what is copied

-- the bytes in the object that an answer makes, if it makes one: a text, or the name of a class
abbrev pub bytes_made : ApiAnswer → List ℕ
bytes_made answers.Nothing = []
bytes_made (answers.Int n) = []
bytes_made answers.Null = []
bytes_made (answers.Text text) = text
bytes_made (answers.Fresh class) = class
bytes_made (answers.Arg i) = []
bytes_made answers.Receiver = []
bytes_made (answers.Throws class) = class

-- the bytes in what the library sees of a result
abbrev pub bytes_of_result : Program → World × Option Value → List ℕ
bytes_of_result program gave = option_map_or (bytes_shown program gave.0.heap) gave.1 []

-- the bytes in what the library sees of what the answer gives
abbrev pub bytes_given : Program → World → Option Value → List Value → ApiAnswer → List ℕ
bytes_given program world receiver arguments answer = option_map_or (bytes_of_result program) (given world receiver arguments answer) []

-- the result that an answer gives without a new object
abbrev pub value_given : Option Value → List Value → ApiAnswer → Option (Option Value)
value_given receiver arguments answers.Nothing = Some None
value_given receiver arguments (answers.Int n) = Some (Some (values.Int n))
value_given receiver arguments answers.Null = Some (Some values.Null)
value_given receiver arguments (answers.Text text) = Some None
value_given receiver arguments (answers.Fresh class) = Some None
value_given receiver arguments (answers.Arg i) = option_map (λ (v : Value). Some v) (slice_get arguments i)
value_given receiver arguments answers.Receiver = option_map (λ (v : Value). Some v) receiver
value_given receiver arguments (answers.Throws class) = Some None

-- ---- what is there

-- The rooms take the copies that the answer needs.
pub record HaveRoom (program : Program) (world : World) (receiver : Option Value) (arguments : List Value) (rooms : Rooms) (answer : ApiAnswer) : Type 0 where
  pub object : length (bytes_made answer) ≤ vec_capacity rooms.object.bytes
  pub event : length (bytes_given program world receiver arguments answer) ≤ vec_capacity rooms.event.bytes

-- The thread can return to its top frame; or it has none, and its next method is begun.
pub record CanReturn (program : Program) (thread : Thread) (rooms : Rooms) : Type 0 where
  pub stands : StandsLow thread.frames
  pub rested : thread.frames ≡ [] → rooms.rested ≡ Some (rests program thread.to_begin)

-- The rooms take the copies of whatever answer fits the call that a thread with this doing waits in.
abbrev pub RoomsSuffice : Program → World → Doing → Rooms → Type 0
RoomsSuffice program world doings.Running rooms = Unit {0}
RoomsSuffice program world (doings.InCall method receiver arguments) rooms =
    (answer : ApiAnswer) → method_takes program world.heap method receiver arguments answer ≡ true → HaveRoom program world receiver arguments rooms answer
RoomsSuffice program world doings.Ended rooms = Unit {0}

-- There is memory for whatever answer the thread takes while it does this.
pub record IsReadyFor (program : Program) (world : World) (thread : Thread) (doing : Doing) (rooms : Rooms) : Type 0 where
  pub returns : CanReturn program thread rooms
  pub suffice : RoomsSuffice program world doing rooms

-- The same of the thread with this number, if there is one.
abbrev pub IsPrepared : Program → Machine → ℕ → Rooms → Type 0
IsPrepared program machine number rooms =
    (thread : Thread) → slice_get machine.threads number ≡ Some thread → IsReadyFor program (world_of machine) thread thread.doing rooms

-- The heap takes one object more without asking for memory.
pub record TakesOne (heap : Vec Object Global) : Type 0 where
  pub few : vec_len heap < 2 ^ 32 - 1
  pub room : vec_len heap < vec_capacity heap

-- the machine with these objects in the place of its own
abbrev pub with_objects : Machine → List Object → Machine
with_objects machine heap = record { heap = heap; statics = machine.statics; monitors = machine.monitors; threads = machine.threads; stopped = machine.stopped }

-- ---- how much

-- The library sees at most so many bytes of each of the values.
abbrev pub EachShowsAtMost : Program → List Object → List Value → ℕ → Type 0
EachShowsAtMost program heap values most = (i : ℕ) (v : Value) → slice_get values i ≡ Some v → length (bytes_shown program heap v) ≤ most

-- The same of the receiver and the arguments of the call that a thread with this doing waits in.
abbrev pub ShowsAtMost : Program → List Object → Doing → ℕ → Type 0
ShowsAtMost program heap doings.Running most = Unit {0}
ShowsAtMost program heap (doings.InCall method receiver arguments) most =
    IfSome receiver (λ (v : Value). length (bytes_shown program heap v) ≤ most) × EachShowsAtMost program heap arguments most
ShowsAtMost program heap doings.Ended most = Unit {0}

-- ---- names

-- the length of the longest name among the classes
abbrev pub longest_name : List ListedClass → ℕ
longest_name [] = 0
longest_name (class ∷ classes) = max (length class.name) (longest_name classes)

-- ---- a program that runs

-- What is seen of a program that runs: the program, the machine, and, while the answer to a call is waited for, the heap with its place
-- and the memory for the answer.
pub record Run : Type 0 where
  pub program : Program
  pub machine : Machine
  pub apart : Option (Vec Object Global)
  pub rooms : Rooms

-- the machine, whose heap may stand apart
abbrev pub machine_with : Machine → Option (Vec Object Global) → Machine
machine_with machine None = machine
machine_with machine (Some heap) = with_objects machine heap.items

-- What holds of a program that runs, whose heap may stand apart: its threads have numbers of 32 bits, and those that live are on the
-- list; while an answer is waited for, there is a number and a place for one more.
pub record IsSound (program : Program) (machine : Machine) (numbers : Vec ℕ Global) (apart : Option (Vec Object Global)) (longest : ℕ) : Type 0 where
  pub names : longest ≡ longest_name program.listing.classes
  pub threads : length machine.threads < 2 ^ 32
  pub living : numbers.items ≡ living_of machine.threads
  pub waiting : IfSome apart (λ (heap : Vec Object Global). TakesThread (length machine.threads) numbers)

-- It waits for the answer to the call of the thread with this number, and has memory for it.
pub record WaitsFor (run : Run) (number : ℕ) : Type 0 where
  pub heap : Vec Object Global
  pub apart : run.apart ≡ Some heap
  pub place : TakesOne heap
  pub prepared : IsPrepared run.program run.machine number run.rooms
