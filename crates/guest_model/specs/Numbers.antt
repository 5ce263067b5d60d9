-- The numbers that the library sees are of 32 bits, and those that it returns are in the range of their type. (docs/MACHINE.md)
use Rattle.std.specs.Prelude.{◌≡◌, ℕ, ℤ, ◌==◌, ◌&&◌, Bool, true, false, IsTrue, List, length, Option, Some, None, slice_get, IsSomeAnd, FitsSigned}
use Rattle.std.specs.Int.{w32}
use Rattle.std.specs.List.{AllByRecursion}
use Rattle.api_listing.specs.declared.descriptor.Element.{Element}
use Rattle.api_listing.specs.declared.descriptor.Element.TheVariants as elements
use Rattle.api_listing.specs.declared.descriptor.FieldType.{FieldType}
use Rattle.api_listing.specs.declared.descriptor.MethodType.{MethodType}
use Rattle.api_listing.specs.declared.events.ApiValue.{ApiValue}
use Rattle.api_listing.specs.declared.events.ApiValue.TheVariants as api
use Rattle.api_listing.specs.declared.events.Event.{Event}
use Rattle.api_listing.specs.declared.events.Event.TheVariants as events
use Rattle.api_listing.specs.declared.types.ListedMethod.{ListedMethod}
use Rattle.bytecode_model.specs.declared.program.Program.{Program}
use Rattle.guest_heap.specs.declared.frame.Frame.{Frame}
use Rattle.guest_heap.specs.declared.thread.Thread.{Thread}
use Rattle.guest_heap.specs.declared.value.Value.TheVariants as values
use Rattle.guest_model.specs.declared.machine.Machine.{Machine}
use Rattle.guest_model.specs.declared.machine.Step.{Step}
use Rattle.guest_model.specs.Answers.{fits_number}
use Rattle.guest_model.specs.Calls.{types_of}
use Rattle.guest_model.specs.Runs.{exec, trace}
use Rattle.insn_codec.specs.declared.shape.One.{One}
use Rattle.insn_codec.specs.declared.shape.Two.{Two}
use Rattle.guest_frames.specs.Values.{made_of_one, made_of_two}

-- What is made of two numbers is of 32 bits, where the first is.
abbrev pub TwoMakeWords : Type 0
TwoMakeWords = (op : Two) (x y : ℤ) → FitsSigned w32 x → FitsSigned w32 (made_of_two op x y)

-- What is made of one number is of 32 bits.
abbrev pub OneMakesWords : Type 0
OneMakesWords = (op : One) (x : ℤ) → FitsSigned w32 (made_of_one op x)

-- A number that the library may give is of 32 bits.
abbrev pub AnswersAreWords : Type 0
AnswersAreWords = (t : FieldType) (n : ℤ) → fits_number (Some t) n ≡ true → FitsSigned w32 n

-- ---- values

-- What the library sees is of 32 bits, if it is a number.
abbrev pub IsWordSeen : ApiValue → Type 0
IsWordSeen (api.Int n) = FitsSigned w32 n
IsWordSeen api.Null = Unit {0}
IsWordSeen (api.Text text) = Unit {0}
IsWordSeen (api.Obj class at) = Unit {0}
IsWordSeen (api.Class name) = Unit {0}

-- whether what stands in an array of the type, or alone, is a number
abbrev pub is_primitive : Element → Bool
is_primitive elements.Boolean = true
is_primitive elements.Byte = true
is_primitive elements.Char = true
is_primitive elements.Short = true
is_primitive elements.Int = true
is_primitive (elements.Class name) = false

-- whether a type is one of numbers
abbrev pub is_of_numbers : FieldType → Bool
is_of_numbers t = (t.dimensions == 0) && is_primitive t.element

-- ---- events

-- There are as many arguments as the method takes, and each number among them is of 32 bits.
pub record ArePassed (types : MethodType) (arguments : List ApiValue) : Type 0 where
  pub count : length arguments ≡ length types.arguments
  pub words : AllByRecursion IsWordSeen arguments

-- The value is a number in the range of the type.
abbrev pub IsInRangeOf : FieldType → Option ApiValue → Type 0
IsInRangeOf t value = (n : ℤ) × (value ≡ Some (api.Int n)) × (fits_number (Some t) n ≡ true)

-- A method without a result returns nothing, and one whose result is of numbers a number in its range.
abbrev pub IsReturned : Option FieldType → Option ApiValue → Type 0
IsReturned None value = value ≡ None
IsReturned (Some t) value = IsTrue (is_of_numbers t) → IsInRangeOf t value

-- The event is of a method of the listing, and what is passed or returned is what that method takes or gives.
abbrev pub IsInRange : Program → Event → Type 0
IsInRange program (events.Call thread method arguments) =
    IsSomeAnd (slice_get program.listing.methods method) (λ (listed : ListedMethod). ArePassed (types_of listed.id.desc) arguments)
IsInRange program (events.Return thread method value) =
    IsSomeAnd (slice_get program.listing.methods method) (λ (listed : ListedMethod). IsReturned (types_of listed.id.desc).result value)
IsInRange program (events.Except thread method) = Unit {0}

-- Whatever the steps are, each event is so.
abbrev pub SeesInRange : Program → Type 0
SeesInRange program = (steps : List Step) → AllByRecursion (IsInRange program) (trace program steps)

-- ---- locals

-- Each number in a local of a top frame is of 32 bits.
abbrev pub HasWords : Machine → Type 0
HasWords machine =
    (number local : ℕ) (thread : Thread) (frame : Frame) (n : ℤ) → slice_get machine.threads number ≡ Some thread → slice_get thread.frames 0 ≡ Some frame
    → slice_get frame.locals local ≡ Some (values.Int n) → FitsSigned w32 n

-- It is so whatever the steps are.
abbrev pub KeepsWords : Program → Type 0
KeepsWords program = (steps : List Step) → HasWords (exec program steps)
