-- What a step is made of: threads that go on, what instructions do to their frame, name, return and throw. (docs/MACHINE.md)
use Rattle.std.specs.Prelude.{ℕ, ℤ, codes, if◌then◌else◌, List, [], ◌∷◌, length, Option, Some, None, option_map, option_and_then, slice_get}
use Rattle.insn_codec.specs.declared.shape.ValueKind.{ValueKind}
use Rattle.bytecode_model.specs.declared.program.Program.{Program}
use Rattle.bytecode_model.specs.declared.program.Target.{Target}
use Rattle.bytecode_model.specs.declared.program.Target.TheVariants as target
use Rattle.guest_heap.specs.declared.frame.Frame.{Frame}
use Rattle.guest_heap.specs.declared.thread.Doing.TheVariants as doings
use Rattle.guest_heap.specs.declared.thread.Thread.{Thread}
use Rattle.guest_heap.specs.declared.value.Value.{Value}
use Rattle.guest_heap.specs.declared.value.Value.TheVariants as values
use Rattle.guest_model.specs.Places.{class_index}
use Rattle.guest_frames.specs.Values.{fits}

-- ---- threads

abbrev pub running : List Frame → List (ℕ × ℕ) → Thread
running frames to_begin = record { frames = frames; to_begin = to_begin; doing = doings.Running }

-- a thread that no handler saved has ended, and what it had still to begin is dropped
abbrev pub thrown_thread : List Frame → List (ℕ × ℕ) → Thread
thrown_thread [] to_begin = record { frames = []; to_begin = []; doing = doings.Ended }
thrown_thread (frame ∷ below) to_begin = running (frame ∷ below) to_begin

-- the argument of main: the array of no strings, which stands after an object for each field of the listing
abbrev pub main_argument : Program → Value
main_argument program = values.Ref (length program.listing.fields)

-- ---- exceptions

abbrev pub null_pointer : List ℕ
null_pointer = codes "java/lang/NullPointerException"

abbrev pub bad_monitor : List ℕ
bad_monitor = codes "java/lang/IllegalMonitorStateException"

-- ---- instructions

-- what a constant names
abbrev pub constant_value : Program → Target → Option Value
constant_value program (target.Number n) = Some (values.Int n)
constant_value program (target.Literal index) = Some (values.Lit index)
constant_value program (target.ClassName name) = option_map values.Class (class_index program name)
constant_value program target.None = None
constant_value program (target.ApiMethod index) = None
constant_value program (target.Builtin index) = None
constant_value program (target.Method class method) = None
constant_value program (target.Field class field) = None
constant_value program (target.ApiField index) = None

-- the result of a return, where it is of the kind that the instruction returns
abbrev pub result_of : Option ValueKind → List Value → Option (Option Value)
result_of None items = Some None
result_of (Some kind) items = option_and_then (λ v. if fits kind v then Some (Some v) else None) (slice_get items 0)

abbrev pub number_in : Value → Option ℤ
number_in (values.Int n) = Some n
number_in values.Null = None
number_in (values.Ref at) = None
number_in (values.Class index) = None
number_in (values.Lit index) = None
