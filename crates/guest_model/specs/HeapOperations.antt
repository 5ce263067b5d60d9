-- What instructions do that work on the heap, on static fields, or divide. (The Java Virtual Machine Specification, section 6.5.)
use Rattle.std.specs.Prelude.{ℕ, ℤ, pos, negsuc, int_rem, Bool, true, false, ◌||◌, bytes_eq, codes, nat_lt, if◌then◌else◌, List, ◌∷◌, length, drop, replicate, slice_get, slice_set, Option, Some, None, Result, Ok, Err, option_map, option_and_then}
use Rattle.std.specs.Int.{w32, int_wrapping_div, int_bit_and}
use Rattle.std.specs.Ordering.{int_eq}
use Rattle.std.specs.Option.{option_map_or}
use Rattle.insn_codec.specs.declared.shape.Heap.{Heap}
use Rattle.insn_codec.specs.declared.shape.Heap.TheVariants as heap
use Rattle.insn_codec.specs.declared.shape.Item.{Item}
use Rattle.insn_codec.specs.declared.shape.Item.TheVariants as items
use Rattle.insn_codec.specs.declared.shape.ValueKind.{ValueKind}
use Rattle.insn_codec.specs.declared.shape.ValueKind.TheVariants as kinds
use Rattle.insn_codec.specs.declared.shape.One.TheVariants as one
use Rattle.bytecode_model.specs.declared.program.LinkedClass.{LinkedClass}
use Rattle.bytecode_model.specs.declared.program.Program.{Program}
use Rattle.bytecode_model.specs.declared.program.Target.{Target}
use Rattle.bytecode_model.specs.declared.program.Target.TheVariants as target
use Rattle.bytecode_model.specs.Arrays.{array_of}
use Rattle.bytecode_model.specs.Assigning.{reference_of}
use Rattle.bytecode_model.specs.Makes.{array_named}
use Rattle.bytecode_model.specs.SearchOrder.{Name}
use Rattle.guest_heap.specs.declared.object.Object.{Object}
use Rattle.guest_heap.specs.declared.object.Object.TheVariants as objects
use Rattle.guest_heap.specs.declared.value.Value.{Value}
use Rattle.guest_heap.specs.declared.value.Value.TheVariants as values
use Rattle.guest_heap.specs.Heap.{places_of, with_value_at}
use Rattle.guest_model.specs.Parts.{constant_value, null_pointer, number_in}
use Rattle.guest_frames.specs.Values.{fits, made_of_one}
use Rattle.guest_model.specs.Changes.{World, with_heap, with_object, with_statics}
use Rattle.guest_model.specs.Kinds.{is_instance}
use Rattle.guest_model.specs.Layout.{first_value, is_of_references, new_of, place_of_field}
use Rattle.guest_model.specs.Options.{◌>>=◌}

-- What an instruction comes to: what is shared and the operands afterwards, or the class of what it throws. There is nothing
-- where an operand is missing, or is not the number, the array or the object that is worked on.
abbrev pub HeapResult : Type 0
HeapResult = Option (Result (World × List Value) Name)

-- ---- exceptions

abbrev pub bad_division : Name
bad_division = codes "java/lang/ArithmeticException"

abbrev pub bad_place : Name
bad_place = codes "java/lang/ArrayIndexOutOfBoundsException"

abbrev pub bad_item : Name
bad_item = codes "java/lang/ArrayStoreException"

abbrev pub bad_size : Name
bad_size = codes "java/lang/NegativeArraySizeException"

abbrev pub bad_cast : Name
bad_cast = codes "java/lang/ClassCastException"

-- ---- numbers

abbrev pub number_operand : List Value → ℕ → Option ℤ
number_operand items i = option_and_then number_in (slice_get items i)

-- the least number divided by -1 gives itself, and the remainder 0
abbrev pub quotient : Bool → ℤ → ℤ → ℤ
quotient false x y = int_wrapping_div w32 x y
quotient true x y = int_rem x y

abbrev pub divided : World → Bool → ℤ → ℤ → List Value → HeapResult
divided world remainder x y items = if int_eq y (pos 0) then Some (Err bad_division) else Some (Ok (world, values.Int (quotient remainder x y) ∷ items))

abbrev pub divides : World → Bool → List Value → HeapResult
divides world remainder items = do
  y ← number_operand items 0
  x ← number_operand items 1
  divided world remainder x y (drop 2 items)

-- ---- arrays

-- an array: where it is on the heap, its descriptor, and its items
pub record ArrayAt : Type 0 where
  pub at : ℕ
  pub desc : Name
  pub items : List Value

abbrev pub array_in : ℕ → Object → Option ArrayAt
array_in at (objects.Plain class fields target thread) = None
array_in at (objects.Array desc items) = Some (record { at = at; desc = desc; items = items })
array_in at (objects.Text text) = None

-- what is done with the array of a reference; a null one throws
abbrev pub on_array : List Object → Value → (ArrayAt → HeapResult) → HeapResult
on_array heap (values.Int n) f = None
on_array heap values.Null f = Some (Err null_pointer)
on_array heap (values.Ref at) f = option_and_then (λ (object : Object). option_and_then f (array_in at object)) (slice_get heap at)
on_array heap (values.Class index) f = None
on_array heap (values.Lit index) f = None

-- whether an array of this descriptor has such items; those of `baload` and `bastore` are bytes, or truth values
abbrev pub has_items : Item → Name → Bool
has_items items.Int desc = bytes_eq desc (codes "[I")
has_items items.Reference desc = is_of_references (drop 1 desc)
has_items items.Byte desc = bytes_eq desc (codes "[B") || bytes_eq desc (codes "[Z")
has_items items.Char desc = bytes_eq desc (codes "[C")
has_items items.Short desc = bytes_eq desc (codes "[S")

-- what is done with an array of such items
abbrev pub on_items : Item → List Object → Value → (ArrayAt → HeapResult) → HeapResult
on_items item heap array f = on_array heap array (λ (a : ArrayAt). if has_items item a.desc then f a else None)

-- what such an item is: a reference, or a number
abbrev pub item_kind : Item → ValueKind
item_kind items.Int = kinds.Int
item_kind items.Reference = kinds.Reference
item_kind items.Byte = kinds.Int
item_kind items.Char = kinds.Int
item_kind items.Short = kinds.Int

-- the place that a number names, if it is one of so many
abbrev pub place_among : ℕ → ℤ → Option ℕ
place_among count (pos n) = if nat_lt n count then Some n else None
place_among count (negsuc n) = None

abbrev pub item_read : World → ArrayAt → ℤ → List Value → HeapResult
item_read world array index items =
    option_map_or (λ (v : Value). Some (Ok (world, v ∷ items))) (option_and_then (slice_get array.items) (place_among (length array.items) index)) (Some (Err bad_place))

abbrev pub reads_item : Item → World → List Value → HeapResult
reads_item item world operands = do
  index ← number_operand operands 0
  array ← slice_get operands 1
  on_items item world.heap array (λ (a : ArrayAt). item_read world a index (drop 2 operands))

-- what the items of an array keep of a number
abbrev pub kept_number : Name → ℤ → ℤ
kept_number desc n =
    if bytes_eq desc (codes "[Z") then int_bit_and w32 n (pos 1)
    else if bytes_eq desc (codes "[B") then made_of_one one.ToByte n
    else if bytes_eq desc (codes "[C") then made_of_one one.ToChar n
    else if bytes_eq desc (codes "[S") then made_of_one one.ToShort n
    else n

abbrev pub kept : Name → Value → Value
kept desc (values.Int n) = values.Int (kept_number desc n)
kept desc values.Null = values.Null
kept desc (values.Ref at) = values.Ref at
kept desc (values.Class index) = values.Class index
kept desc (values.Lit index) = values.Lit index

-- whether an array may hold the object: null, or one of the class or the array of its items
abbrev pub may_hold : Program → List Object → Name → Value → Bool
may_hold program heap desc values.Null = true
may_hold program heap desc (values.Int n) = true
may_hold program heap desc (values.Ref at) = option_map_or (is_instance program heap (values.Ref at)) (reference_of (drop 1 desc)) false
may_hold program heap desc (values.Class index) = option_map_or (is_instance program heap (values.Class index)) (reference_of (drop 1 desc)) false
may_hold program heap desc (values.Lit index) = option_map_or (is_instance program heap (values.Lit index)) (reference_of (drop 1 desc)) false

abbrev pub item_written : Program → World → ArrayAt → ℕ → Value → List Value → HeapResult
item_written program world array place value items =
    if may_hold program world.heap array.desc value
    then Some (Ok (with_heap world (with_value_at world.heap array.at place (kept array.desc value)), items))
    else Some (Err bad_item)

-- the operand at this depth, where it is of the kind
abbrev pub operand_of : ValueKind → List Value → ℕ → Option Value
operand_of kind operands i = option_and_then (λ (v : Value). if fits kind v then Some v else None) (slice_get operands i)

abbrev pub writes_item : Item → Program → World → List Value → HeapResult
writes_item item program world operands = do
  value ← operand_of (item_kind item) operands 0
  index ← number_operand operands 1
  array ← slice_get operands 2
  on_items item world.heap array (λ (a : ArrayAt). option_map_or (λ place. item_written program world a place value (drop 3 operands)) (place_among (length a.items) index) (Some (Err bad_place)))

abbrev pub length_told : World → List Value → HeapResult
length_told world items = do
  array ← slice_get items 0
  on_array world.heap array (λ (a : ArrayAt). Some (Ok (world, values.Int (pos (length a.items)) ∷ drop 1 items)))

-- a new array of this descriptor, whose items are 0 or null
abbrev pub array_made : World → Name → ℤ → List Value → HeapResult
array_made world desc (pos n) items =
    Some (Ok (with_object world (objects.Array desc (replicate n (first_value (drop 1 desc)))), values.Ref (length world.heap) ∷ items))
array_made world desc (negsuc n) items = Some (Err bad_size)

abbrev pub makes_array : World → Name → List Value → HeapResult
makes_array world desc items = option_and_then (λ n. array_made world desc n (drop 1 items)) (number_operand items 0)

-- ---- fields

-- the place of a field in the objects that have it
abbrev pub place_named : Program → Target → Option ℕ
place_named program (target.Field class field) = option_map (λ (c : LinkedClass). place_of_field program c field) (slice_get program.classes class)
place_named program target.None = None
place_named program (target.ApiMethod index) = None
place_named program (target.Builtin index) = None
place_named program (target.Method class method) = None
place_named program (target.ApiField index) = None
place_named program (target.ClassName name) = None
place_named program (target.Number n) = None
place_named program (target.Literal index) = None

-- what is done with the object of a reference, by its index and what it holds; a null one throws
abbrev pub on_object : List Object → Value → (ℕ → List Value → HeapResult) → HeapResult
on_object heap (values.Int n) f = None
on_object heap values.Null f = Some (Err null_pointer)
on_object heap (values.Ref at) f = option_and_then (λ (object : Object). f at (places_of object)) (slice_get heap at)
on_object heap (values.Class index) f = None
on_object heap (values.Lit index) f = None

abbrev pub reads_field : Program → World → Target → List Value → HeapResult
reads_field program world ref items = do
  place ← place_named program ref
  object ← slice_get items 0
  on_object world.heap object (λ at fields. option_map (λ (v : Value). Ok (world, v ∷ drop 1 items)) (slice_get fields place))

abbrev pub writes_field : Program → World → Target → List Value → HeapResult
writes_field program world ref items = do
  place ← place_named program ref
  value ← slice_get items 0
  object ← slice_get items 1
  on_object world.heap object (λ at fields. option_map (λ (old : Value). Ok (with_heap world (with_value_at world.heap at place value), drop 2 items)) (slice_get fields place))

-- a listed field is an object of its own, which stands in the heap from the start
abbrev pub reads_static : Program → World → Target → List Value → HeapResult
reads_static program world (target.ApiField index) items =
    if nat_lt index (length program.listing.fields) then Some (Ok (world, values.Ref index ∷ items)) else None
reads_static program world (target.Field class field) items =
    option_map (λ (v : Value). Ok (world, v ∷ items)) (option_and_then (λ (fields : List Value). slice_get fields field) (slice_get world.statics class))
reads_static program world target.None items = None
reads_static program world (target.ApiMethod index) items = None
reads_static program world (target.Builtin index) items = None
reads_static program world (target.Method class method) items = None
reads_static program world (target.ClassName name) items = None
reads_static program world (target.Number n) items = None
reads_static program world (target.Literal index) items = None

abbrev pub static_written : World → ℕ → ℕ → Value → Option World
static_written world class field value = do
  fields ← slice_get world.statics class
  old ← slice_get fields field
  Some (with_statics world (slice_set world.statics class (slice_set fields field value)))

abbrev pub writes_static : World → Target → List Value → HeapResult
writes_static world (target.Field class field) items =
    option_and_then (λ (value : Value). option_map (λ (new : World). Ok (new, drop 1 items)) (static_written world class field value)) (slice_get items 0)
writes_static world target.None items = None
writes_static world (target.ApiMethod index) items = None
writes_static world (target.Builtin index) items = None
writes_static world (target.Method class method) items = None
writes_static world (target.ApiField index) items = None
writes_static world (target.ClassName name) items = None
writes_static world (target.Number n) items = None
writes_static world (target.Literal index) items = None

-- ---- classes

-- the class or the array that is named
abbrev pub name_named : Target → Option Name
name_named (target.ClassName name) = Some name
name_named target.None = None
name_named (target.ApiMethod index) = None
name_named (target.Builtin index) = None
name_named (target.Method class method) = None
name_named (target.Field class field) = None
name_named (target.ApiField index) = None
name_named (target.Number n) = None
name_named (target.Literal index) = None

abbrev pub makes_object : Program → World → Name → List Value → HeapResult
makes_object program world name items = Some (Ok (with_object world (new_of program name), values.Ref (length world.heap) ∷ items))

-- null is cast to every class
abbrev pub is_cast : Program → List Object → Value → Name → Bool
is_cast program heap values.Null name = true
is_cast program heap (values.Int n) name = false
is_cast program heap (values.Ref at) name = is_instance program heap (values.Ref at) name
is_cast program heap (values.Class index) name = is_instance program heap (values.Class index) name
is_cast program heap (values.Lit index) name = is_instance program heap (values.Lit index) name

abbrev pub casts : Program → World → Name → List Value → HeapResult
casts program world name items =
    option_map (λ (v : Value). if is_cast program world.heap v name then Ok (world, items) else Err bad_cast) (operand_of kinds.Reference items 0)

abbrev pub truth : Bool → Value
truth true = values.Int (pos 1)
truth false = values.Int (pos 0)

abbrev pub tells_instance : Program → World → Name → List Value → HeapResult
tells_instance program world name items =
    option_map (λ (v : Value). Ok (world, truth (is_instance program world.heap v name) ∷ drop 1 items)) (operand_of kinds.Reference items 0)

-- ---- the rows

abbrev pub heap_result : Program → World → Heap → Target → List Value → HeapResult
heap_result program world heap.Constant ref items = option_map (λ (v : Value). Ok (world, v ∷ items)) (constant_value program ref)
heap_result program world (heap.ReadItem item) ref items = reads_item item world items
heap_result program world (heap.WriteItem item) ref items = writes_item item program world items
heap_result program world (heap.Divide remainder) ref items = divides world remainder items
heap_result program world heap.ReadStatic ref items = reads_static program world ref items
heap_result program world heap.WriteStatic ref items = writes_static world ref items
heap_result program world heap.ReadField ref items = reads_field program world ref items
heap_result program world heap.WriteField ref items = writes_field program world ref items
heap_result program world heap.New ref items = option_and_then (λ name. makes_object program world name items) (name_named ref)
heap_result program world (heap.NewArray kind) ref items = makes_array world (array_named kind) items
heap_result program world heap.NewArrayOf ref items = option_and_then (λ name. makes_array world (array_of name) items) (name_named ref)
heap_result program world heap.Length ref items = length_told world items
heap_result program world heap.Cast ref items = option_and_then (λ name. casts program world name items) (name_named ref)
heap_result program world heap.IsInstance ref items = option_and_then (λ name. tells_instance program world name items) (name_named ref)
-- these do not go on after themselves, or not at once
heap_result program world (heap.Call how) ref items = None
heap_result program world heap.Throw ref items = None
heap_result program world heap.Enter ref items = None
heap_result program world heap.Exit ref items = None
heap_result program world (heap.Return kind) ref items = None
