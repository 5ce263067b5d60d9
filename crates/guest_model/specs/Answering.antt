-- The library's answers to calls: which fit, and what they give. (docs/MACHINE.md)
use Rattle.std.specs.Prelude.{ℕ, ◌&&◌, ◌||◌, Bool, true, false, not, nat_le, bytes_eq, if◌then◌else◌, List, length, slice_get, Option, Some, None, is_some, option_map, option_and_then}
use Rattle.std.specs.Option.{option_map_or}
use Rattle.api_listing.specs.declared.descriptor.FieldType.{FieldType}
use Rattle.api_listing.specs.declared.events.ApiAnswer.{ApiAnswer}
use Rattle.api_listing.specs.declared.events.ApiAnswer.TheVariants as answers
use Rattle.api_listing.specs.declared.events.Event.TheVariants as events
use Rattle.api_listing.specs.declared.types.ListedClass.{ListedClass}
use Rattle.api_listing.specs.declared.types.ListedMethod.{ListedMethod}
use Rattle.api_listing.specs.BuiltIn.{built_in_classes, object}
use Rattle.api_listing.specs.Descriptor.{type_encoded}
use Rattle.api_listing.specs.Listing.{is_known}
use Rattle.api_listing.specs.Nearest.{class_named}
use Rattle.bytecode_model.specs.declared.program.Program.{Program}
use Rattle.bytecode_model.specs.Assigning.{reference_of}
use Rattle.bytecode_model.specs.Classes.{is_below, is_interface}
use Rattle.bytecode_model.specs.SearchOrder.{Name}
use Rattle.guest_heap.specs.declared.object.Object.{Object}
use Rattle.guest_heap.specs.declared.object.Object.TheVariants as objects
use Rattle.guest_heap.specs.declared.thread.Thread.{Thread}
use Rattle.guest_heap.specs.declared.value.Value.{Value}
use Rattle.guest_heap.specs.declared.value.Value.TheVariants as values
use Rattle.guest_model.specs.Answers.{fits_number, may_throw}
use Rattle.guest_model.specs.Calls.{types_of}
use Rattle.guest_model.specs.Throwing.{bare_object}
use Rattle.guest_model.specs.Changes.{World, Change, returned, throws_new, with_object}
use Rattle.guest_model.specs.Kinds.{is_instance, string}
use Rattle.guest_model.specs.Seen.{value_shown}
use Rattle.guest_model.specs.Options.{◌>>=◌}

-- ---- which fit

-- the class, or the array, of a result that is no number
abbrev pub result_class : Option FieldType → Option Name
result_class None = None
result_class (Some t) = reference_of (type_encoded t)

-- the result is of a class, and of such a one
abbrev pub of_class : Option FieldType → (Name → Bool) → Bool
of_class result test = option_map_or test (result_class result) false

-- an object of the result's class, where an interface counts as Object
abbrev pub is_of : Program → List Object → Value → Name → Bool
is_of program heap (values.Int n) name = false
is_of program heap values.Null name = false
is_of program heap (values.Ref at) name = is_interface program name || is_instance program heap (values.Ref at) name
is_of program heap (values.Class index) name = is_interface program name || is_instance program heap (values.Class index) name
is_of program heap (values.Lit index) name = is_interface program name || is_instance program heap (values.Lit index) name

abbrev pub is_no_object : Value → Bool
is_no_object (values.Int n) = false
is_no_object values.Null = true
is_no_object (values.Ref at) = false
is_no_object (values.Class index) = false
is_no_object (values.Lit index) = false

abbrev pub takes_text : Program → Name → Bool
takes_text program name = bytes_eq name string || (bytes_eq name object || is_interface program name)

-- a class of the listing that is none of the built-in ones, and no interface
abbrev pub is_listed_class : Program → Name → Bool
is_listed_class program class =
    option_map_or (λ (c : ListedClass). not c.is_interface) (class_named program.listing.classes class) false && not (is_known built_in_classes class)

-- the answer fits a call of a method with this result, of this receiver and these arguments
abbrev pub answer_fits : Program → List Object → Option FieldType → Option Value → List Value → ApiAnswer → Bool
answer_fits program heap result receiver arguments answers.Nothing = not (is_some result)
answer_fits program heap result receiver arguments (answers.Int n) = fits_number result n
answer_fits program heap result receiver arguments answers.Null = is_some (result_class result)
answer_fits program heap result receiver arguments (answers.Text text) = of_class result (takes_text program) && nat_le (length text) 65535
answer_fits program heap result receiver arguments (answers.Fresh class) =
    of_class result (λ name. is_interface program name || is_below program class name) && is_listed_class program class
answer_fits program heap result receiver arguments (answers.Arg i) =
    option_map_or (λ (v : Value). of_class result (λ name. is_no_object v || is_of program heap v name)) (slice_get arguments i) false
answer_fits program heap result receiver arguments answers.Receiver =
    option_map_or (λ (v : Value). of_class result (is_of program heap v)) receiver false
answer_fits program heap result receiver arguments (answers.Throws class) = may_throw program class

-- the answer fits a call of the listed method with this index; none fits where there is no such method
abbrev pub method_takes : Program → List Object → ℕ → Option Value → List Value → ApiAnswer → Bool
method_takes program heap method receiver arguments answer =
    option_map_or (λ (listed : ListedMethod). answer_fits program heap (types_of listed.id.desc).result receiver arguments answer) (slice_get program.listing.methods method) false

-- ---- what they give

-- what is shared and the result afterwards; nothing where the answer throws
abbrev pub given : World → Option Value → List Value → ApiAnswer → Option (World × Option Value)
given world receiver arguments answers.Nothing = Some (world, None)
given world receiver arguments (answers.Int n) = Some (world, Some (values.Int n))
given world receiver arguments answers.Null = Some (world, Some values.Null)
given world receiver arguments (answers.Text text) = Some (with_object world (objects.Text text), Some (values.Ref (length world.heap)))
given world receiver arguments (answers.Fresh class) = Some (with_object world (bare_object class), Some (values.Ref (length world.heap)))
given world receiver arguments (answers.Arg i) = option_map (λ (v : Value). (world, Some v)) (slice_get arguments i)
given world receiver arguments answers.Receiver = option_map (λ (v : Value). (world, Some v)) receiver
given world receiver arguments (answers.Throws class) = None

abbrev pub thrown_by : ApiAnswer → Option Name
thrown_by answers.Nothing = None
thrown_by (answers.Int n) = None
thrown_by answers.Null = None
thrown_by (answers.Text text) = None
thrown_by (answers.Fresh class) = None
thrown_by (answers.Arg i) = None
thrown_by answers.Receiver = None
thrown_by (answers.Throws class) = Some class

-- the caller goes on with what is given, and the library sees the return
abbrev pub returned_by : Program → ℕ → Thread → ℕ → World × Option Value → Option Change
returned_by program number thread method gave =
    returned program gave.0 thread thread.frames gave.1 (Some (events.Return number method (option_map (value_shown program gave.0.heap) gave.1)))

-- the library throws, and sees that it did
abbrev pub thrown_by_library : Program → World → ℕ → Thread → ℕ → Name → Option Change
thrown_by_library program world number thread method class = Some (throws_new program world number thread thread.frames class (Some (events.Except number method)))

abbrev pub answered_well : Program → World → ℕ → Thread → ℕ → Option Value → List Value → ApiAnswer → Option Change
answered_well program world number thread method receiver arguments answer =
    option_map_or (thrown_by_library program world number thread method) (thrown_by answer)
    (option_and_then (returned_by program number thread method) (given world receiver arguments answer))

-- the answer of the library to a call of the method; nothing where it does not fit
abbrev pub answered : Program → World → ℕ → Thread → ℕ → Option Value → List Value → ApiAnswer → Option Change
answered program world number thread method receiver arguments answer = do
  listed ← slice_get program.listing.methods method
  if answer_fits program world.heap (types_of listed.id.desc).result receiver arguments answer
      then answered_well program world number thread method receiver arguments answer else None
