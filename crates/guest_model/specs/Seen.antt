-- What the library sees of values, and the texts of objects. (docs/RECORDS.md)
use Rattle.std.specs.Prelude.{ℕ, if◌then◌else◌, List, [], map, slice_get}
use Rattle.std.specs.Option.{option_map_or}
use Rattle.api_listing.specs.declared.events.ApiValue.{ApiValue}
use Rattle.api_listing.specs.declared.events.ApiValue.TheVariants as api
use Rattle.bytecode_model.specs.declared.program.Program.{Program}
use Rattle.bytecode_model.specs.Classes.{classes_of, is_below}
use Rattle.guest_heap.specs.declared.object.Object.{Object}
use Rattle.guest_heap.specs.declared.object.Object.TheVariants as objects
use Rattle.guest_heap.specs.declared.value.Value.{Value}
use Rattle.guest_heap.specs.declared.value.Value.TheVariants as values
use Rattle.guest_model.specs.Calls.{name_at}
use Rattle.guest_model.specs.Kinds.{string}

-- ---- texts

-- an object of String, or of a class below it, that is no text counts as the empty one
abbrev pub text_in : Object → List ℕ
text_in (objects.Plain class fields target thread) = []
text_in (objects.Array desc items) = []
text_in (objects.Text text) = text

abbrev pub literal_at : Program → ℕ → List ℕ
literal_at program index = option_map_or (λ (t : List ℕ). t) (slice_get program.literals index) []

abbrev pub string_of : Program → List Object → Value → List ℕ
string_of program heap (values.Int n) = []
string_of program heap values.Null = []
string_of program heap (values.Ref at) = option_map_or text_in (slice_get heap at) []
string_of program heap (values.Class index) = []
string_of program heap (values.Lit index) = literal_at program index

-- ---- what the library sees

abbrev pub object_shown : Program → ℕ → Object → ApiValue
object_shown program at (objects.Plain class fields target thread) = if is_below program class string then api.Text [] else api.Obj class at
object_shown program at (objects.Array desc items) = api.Obj desc at
object_shown program at (objects.Text text) = api.Text text

abbrev pub value_shown : Program → List Object → Value → ApiValue
value_shown program heap (values.Int n) = api.Int n
value_shown program heap values.Null = api.Null
value_shown program heap (values.Ref at) = option_map_or (object_shown program at) (slice_get heap at) api.Null
value_shown program heap (values.Class index) = api.Class (name_at (classes_of program) index)
value_shown program heap (values.Lit index) = api.Text (literal_at program index)

abbrev pub values_shown : Program → List Object → List Value → List ApiValue
values_shown program heap arguments = map (value_shown program heap) arguments

-- ---- what is copied for it

abbrev pub object_bytes : Program → Object → List ℕ
object_bytes program (objects.Plain class fields target thread) = if is_below program class string then [] else class
object_bytes program (objects.Array desc items) = desc
object_bytes program (objects.Text text) = text

-- the bytes in what the library sees of a value: a text, or the name of a class
abbrev pub bytes_shown : Program → List Object → Value → List ℕ
bytes_shown program heap (values.Int n) = []
bytes_shown program heap values.Null = []
bytes_shown program heap (values.Ref at) = option_map_or (object_bytes program) (slice_get heap at) []
bytes_shown program heap (values.Class index) = name_at (classes_of program) index
bytes_shown program heap (values.Lit index) = literal_at program index
