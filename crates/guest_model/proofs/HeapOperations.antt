-- What is ready comes to something.
use Rattle.std.proofs.Common.{
  ◌≡◌,
  ℕ,
  ℤ,
  pos,
  negsuc,
  ◌+◌,
  ◌<◌,
  Bool,
  true,
  false,
  cond,
  List,
  [],
  ◌∷◌,
  length,
  Option,
  Some,
  None,
  refl,
  inl,
  inr,
}
use Rattle.std.specs.Prelude.{◌⊎◌, ◌||◌, IsSome, slice_set, IsSomeAnd, bytes_eq, slice_get, option_map, option_and_then}
use Rattle.std.specs.List.{list_any, position_from}
use Rattle.std.specs.Ordering.{int_eq}
use Rattle.std.proofs.lemmas.Bool.{lt-ltb}
use Rattle.api_listing.specs.declared.types.ListedClass.{ListedClass}
use Rattle.insn_codec.specs.declared.shape.Heap.TheVariants as heap
use Rattle.insn_codec.specs.declared.shape.Item.{Item}
use Rattle.insn_codec.specs.declared.shape.ValueKind.{ValueKind}
use Rattle.insn_codec.specs.declared.shape.ValueKind.TheVariants as kinds
use Rattle.bytecode_model.specs.declared.program.LinkedClass.{LinkedClass}
use Rattle.bytecode_model.specs.declared.program.Program.{Program}
use Rattle.bytecode_model.specs.declared.program.Target.{Target}
use Rattle.bytecode_model.specs.declared.program.Target.TheVariants as target
use Rattle.bytecode_model.specs.Arrays.{array_of}
use Rattle.bytecode_model.specs.Classes.{classes_of}
use Rattle.bytecode_model.specs.Makes.{array_named}
use Rattle.bytecode_model.specs.SearchOrder.{Name}
use Rattle.guest_heap.specs.declared.object.Object.{Object}
use Rattle.guest_heap.specs.declared.object.Object.TheVariants as objects
use Rattle.guest_heap.specs.declared.value.Value.{Value}
use Rattle.guest_heap.specs.declared.value.Value.TheVariants as values
use Rattle.guest_heap.specs.Heap.{places_of}
use Rattle.guest_model.specs.Parts.{constant_value, number_in}
use Rattle.guest_frames.specs.Values.{fits}
use Rattle.guest_model.specs.Changes.{World, with_statics}
use Rattle.guest_model.specs.Layout.{place_of_field}
use Rattle.guest_model.specs.Moving.{
  HasItems,
  HasOne,
  HasPlaceAt,
  HasTwo,
  HasThree,
  IsAny,
  IsArray,
  NamesClass,
  NamesConstant,
  NamesField,
  NamesListedStatic,
  IsNullOr,
  IsNumber,
  IsOf,
  NamesOwnStatic,
  IsReadyFor,
  IsReference,
  ReadyOperates,
}
use Rattle.guest_model.specs.HeapOperations.{
  ArrayAt,
  HeapResult,
  array_in,
  array_made,
  casts,
  has_items,
  item_kind,
  length_told,
  makes_array,
  may_hold,
  name_named,
  on_array,
  on_items,
  on_object,
  operand_of,
  place_among,
  place_named,
  reads_field,
  reads_item,
  reads_static,
  static_written,
  tells_instance,
  heap_result,
  writes_field,
  writes_item,
  writes_static,
}
use Rattle.guest_model.proofs.There.{cond_either, map_or_some, map_some, then_some, get_some}

-- ---- values

pub number_some : (v : Value) → IsNumber v → IsSome (number_in v)
number_some (values.Int n) h = refl
number_some values.Null h = absurd h
number_some (values.Ref at) h = absurd h
number_some (values.Class index) h = absurd h
number_some (values.Lit index) h = absurd h

in_array : (at : ℕ) (o : Option Object) (f : ArrayAt → HeapResult) → IsSomeAnd o IsArray → ((a : ArrayAt) → IsSome (f a))
    → IsSome (option_and_then (λ (object : Object). option_and_then f (array_in at object)) o)
in_array at None f h each = absurd h
in_array at (Some (objects.Plain class fields target thread)) f h each = absurd h
in_array at (Some (objects.Array desc items)) f h each = each (record { at = at; desc = desc; items = items })
in_array at (Some (objects.Text text)) f h each = absurd h

array_some : (heap : List Object) (v : Value) (f : ArrayAt → HeapResult) → IsNullOr IsArray heap v → ((a : ArrayAt) → IsSome (f a))
    → IsSome (on_array heap v f)
array_some heap (values.Int n) f h each = absurd h
array_some heap values.Null f h each = refl
array_some heap (values.Ref at) f h each = in_array at (slice_get heap at) f h each
array_some heap (values.Class index) f h each = absurd h
array_some heap (values.Lit index) f h each = absurd h

if_true : {A : Type 0} (b : Bool) (o : Option A) → b ≡ true → IsSome o → IsSome (cond b o None)
if_true true o e h = h
if_true false o e h = absurd cc

-- what is done with the array, where it has such items
abbrev with_items : Item → (ArrayAt → HeapResult) → ArrayAt → HeapResult
with_items item f a = cond (has_items item a.desc) (f a) None

in_items : (item : Item) (at : ℕ) (o : Option Object) (f : ArrayAt → HeapResult) → IsSomeAnd o (HasItems item) → ((a : ArrayAt) → IsSome (f a))
    → IsSome (option_and_then (λ (object : Object). option_and_then (with_items item f) (array_in at object)) o)
in_items item at None f h each = absurd h
in_items item at (Some (objects.Plain class fields target thread)) f h each = absurd h
in_items item at (Some (objects.Array desc items)) f h each =
    if_true (has_items item desc) _ h (each (record { at = at; desc = desc; items = items }))
in_items item at (Some (objects.Text text)) f h each = absurd h

items_some : (item : Item) (heap : List Object) (v : Value) (f : ArrayAt → HeapResult) → IsNullOr (HasItems item) heap v
    → ((a : ArrayAt) → IsSome (f a)) → IsSome (on_items item heap v f)
items_some item heap (values.Int n) f h each = absurd h
items_some item heap values.Null f h each = refl
items_some item heap (values.Ref at) f h each = in_items item at (slice_get heap at) f h each
items_some item heap (values.Class index) f h each = absurd h
items_some item heap (values.Lit index) f h each = absurd h

-- the topmost operand, where it is of the kind
operand_some : (kind : ValueKind) (v : Value) (below : List Value) → IsOf kind v → IsSome (operand_of kind (v ∷ below) 0)
operand_some kind v below h = if_true (fits kind v) (Some v) h refl

reference_is : (v : Value) → IsReference v → IsOf kinds.Reference v
reference_is (values.Int n) h = absurd h
reference_is values.Null h = refl
reference_is (values.Ref at) h = refl
reference_is (values.Class index) h = refl
reference_is (values.Lit index) h = refl

in_object : (at place : ℕ) (o : Option Object) (f : ℕ → List Value → HeapResult) → IsSomeAnd o (HasPlaceAt place)
    → ((fields : List Value) → place < length fields → IsSome (f at fields))
    → IsSome (option_and_then (λ (object : Object). f at (places_of object)) o)
in_object at place None f h each = absurd h
in_object at place (Some object) f h each = each (places_of object) h

object_some : (heap : List Object) (place : ℕ) (v : Value) (f : ℕ → List Value → HeapResult) → IsNullOr (HasPlaceAt place) heap v
    → ((at : ℕ) (fields : List Value) → place < length fields → IsSome (f at fields)) → IsSome (on_object heap v f)
object_some heap place (values.Int n) f h each = absurd h
object_some heap place values.Null f h each = refl
object_some heap place (values.Ref at) f h each = in_object at place (slice_get heap at) f h (each at)
object_some heap place (values.Class index) f h each = absurd h
object_some heap place (values.Lit index) f h each = absurd h

-- ---- constants

position_or : {A : Type 0} (b : Bool) (p : A → Bool) (i : ℕ) (others : List A) → (b || list_any p others) ≡ true
    → (list_any p others ≡ true → IsSome (position_from p (i + 1) others)) → IsSome (cond b (Some i) (position_from p (i + 1) others))
position_or true p i others h later = refl
position_or false p i others h later = later h

position_some : {A : Type 0} (p : A → Bool) (i : ℕ) (xs : List A) → list_any p xs ≡ true → IsSome (position_from p i xs)
position_some p i [] h = absurd cc
position_some p i (x ∷ xs) h = position_or (p x) p i xs h (position_some p (i + 1) xs)

constant_some : (program : Program) (ref : Target) → NamesConstant program ref → IsSome (constant_value program ref)
constant_some program (target.Number n) h = refl
constant_some program (target.Literal index) h = refl
constant_some program (target.ClassName name) h =
    map_some values.Class _ (position_some (λ (c : ListedClass). bytes_eq c.name name) 0 (classes_of program) h)
constant_some program target.None h = absurd h
constant_some program (target.ApiMethod index) h = absurd h
constant_some program (target.Builtin index) h = absurd h
constant_some program (target.Method class method) h = absurd h
constant_some program (target.Field class field) h = absurd h
constant_some program (target.ApiField index) h = absurd h

module _ (program : Program) (world : World) where
  -- ---- arrays and numbers

  divide_some : (remainder : Bool) (ref : Target) (items : List Value) → HasTwo IsNumber IsNumber items
      → IsSome (heap_result program world (heap.Divide remainder) ref items)
  divide_some remainder ref [] h = absurd h
  divide_some remainder ref (v ∷ []) h = absurd h.1
  divide_some remainder ref (v ∷ w ∷ below) h =
      then_some _ (number_in v) (number_some v h.0)
      (λ y e. then_some _ (number_in w) (number_some w h.1) (λ x f. cond_either (int_eq y (pos 0)) _ _ refl refl))

  read_item_some : (item : Item) (items : List Value) → HasTwo IsNumber (IsNullOr (HasItems item) world.heap) items
      → IsSome (reads_item item world items)
  read_item_some item [] h = absurd h
  read_item_some item (v ∷ []) h = absurd h.1
  read_item_some item (v ∷ w ∷ below) h =
      then_some _ (number_in v) (number_some v h.0)
      (λ n e. items_some item world.heap w _ h.1
      (λ a. map_or_some _ (option_and_then (slice_get a.items) (place_among (length a.items) n)) _ (λ x. refl) refl))

  write_item_some : (item : Item) (items : List Value)
      → HasThree (IsOf (item_kind item)) IsNumber (IsNullOr (HasItems item) world.heap) items
      → IsSome (writes_item item program world items)
  write_item_some item [] h = absurd h
  write_item_some item (v ∷ []) h = absurd h.1
  write_item_some item (v ∷ w ∷ []) h = absurd h.1.1
  write_item_some item (v ∷ w ∷ u ∷ below) h =
      then_some _ (operand_of (item_kind item) (v ∷ w ∷ u ∷ below) 0) (operand_some (item_kind item) v (w ∷ u ∷ below) h.0)
      (λ value is. then_some _ (number_in w) (number_some w h.1.0)
      (λ n e. items_some item world.heap u _ h.1.1
      (λ a. map_or_some _ (place_among (length a.items) n) _
      (λ place. cond_either (may_hold program world.heap a.desc value) _ _ refl refl) refl)))

  length_some : (items : List Value) → HasOne (IsNullOr IsArray world.heap) items → IsSome (length_told world items)
  length_some [] h = absurd h
  length_some (v ∷ below) h = array_some world.heap v _ h (λ a. refl)

  made_some : (desc : Name) (n : ℤ) (items : List Value) → IsSome (array_made world desc n items)
  made_some desc (pos n) items = refl
  made_some desc (negsuc n) items = refl

  new_array_some : (desc : Name) (items : List Value) → HasOne IsNumber items → IsSome (makes_array world desc items)
  new_array_some desc [] h = absurd h
  new_array_some desc (v ∷ below) h = then_some _ (number_in v) (number_some v h) (λ n e. made_some desc n below)

  -- ---- fields

  field_then : {P : ℕ → Type 0} (o : Option LinkedClass) (g : LinkedClass → ℕ) (f : ℕ → HeapResult) → IsSomeAnd o (λ (c : LinkedClass). P (g c))
      → ((place : ℕ) → P place → IsSome (f place)) → IsSome (option_and_then f (option_map g o))
  field_then None g f h each = absurd h
  field_then (Some c) g f h each = each (g c) h

  field_some : (P : ℕ → Type 0) (ref : Target) (f : ℕ → HeapResult) → NamesField program P ref → ((place : ℕ) → P place → IsSome (f place))
      → IsSome (option_and_then f (place_named program ref))
  field_some P (target.Field class field) f h each =
      field_then {P = P} (slice_get program.classes class) (λ (c : LinkedClass). place_of_field program c field) f h each
  field_some P target.None f h each = absurd h
  field_some P (target.ApiMethod index) f h each = absurd h
  field_some P (target.Builtin index) f h each = absurd h
  field_some P (target.Method class method) f h each = absurd h
  field_some P (target.ApiField index) f h each = absurd h
  field_some P (target.ClassName name) f h each = absurd h
  field_some P (target.Number n) f h each = absurd h
  field_some P (target.Literal index) f h each = absurd h

  read_field_some : (ref : Target) (items : List Value) → IsReadyFor program world heap.ReadField ref items
      → IsSome (reads_field program world ref items)
  read_field_some ref [] h = field_some _ ref _ h (λ place p. absurd p)
  read_field_some ref (v ∷ below) h =
      field_some _ ref _ h (λ place p. object_some world.heap place v _ p (λ at fields lt. map_some _ _ (get_some fields place lt)))

  write_field_some : (ref : Target) (items : List Value) → IsReadyFor program world heap.WriteField ref items
      → IsSome (writes_field program world ref items)
  write_field_some ref [] h = field_some _ ref _ h (λ place p. absurd p)
  write_field_some ref (v ∷ []) h =
      field_some (λ place. HasTwo IsAny (IsNullOr (HasPlaceAt place) world.heap) (v ∷ [])) ref _ h (λ place p. absurd p.1)
  write_field_some ref (v ∷ w ∷ below) h =
      field_some (λ place. HasTwo IsAny (IsNullOr (HasPlaceAt place) world.heap) (v ∷ w ∷ below)) ref _ h
      (λ place p. object_some world.heap place w _ p.1 (λ at fields lt. map_some _ _ (get_some fields place lt)))

  -- ---- static fields

  listed_some : (ref : Target) (items : List Value) → NamesListedStatic program ref → IsSome (reads_static program world ref items)
  listed_some (target.ApiField index) items h = rw (lt-ltb index (length program.listing.fields) h) refl
  listed_some target.None items h = absurd h
  listed_some (target.ApiMethod index) items h = absurd h
  listed_some (target.Builtin index) items h = absurd h
  listed_some (target.Method class method) items h = absurd h
  listed_some (target.Field class field) items h = absurd h
  listed_some (target.ClassName name) items h = absurd h
  listed_some (target.Number n) items h = absurd h
  listed_some (target.Literal index) items h = absurd h

  static_there : (o : Option (List Value)) (field : ℕ) → IsSomeAnd o (λ (fields : List Value). field < length fields)
      → IsSome (option_and_then (λ (fields : List Value). slice_get fields field) o)
  static_there None field h = absurd h
  static_there (Some fields) field h = get_some fields field h

  own_some : (ref : Target) (items : List Value) → NamesOwnStatic world ref → IsSome (reads_static program world ref items)
  own_some (target.Field class field) items h = map_some _ _ (static_there (slice_get world.statics class) field h)
  own_some target.None items h = absurd h
  own_some (target.ApiMethod index) items h = absurd h
  own_some (target.Builtin index) items h = absurd h
  own_some (target.Method class method) items h = absurd h
  own_some (target.ApiField index) items h = absurd h
  own_some (target.ClassName name) items h = absurd h
  own_some (target.Number n) items h = absurd h
  own_some (target.Literal index) items h = absurd h

  read_static_some : (ref : Target) (items : List Value) → NamesOwnStatic world ref ⊎ NamesListedStatic program ref
      → IsSome (reads_static program world ref items)
  read_static_some ref items (inl h) = own_some ref items h
  read_static_some ref items (inr h) = listed_some ref items h

  written_there : (o : Option (List Value)) (field : ℕ) (f : List Value → World)
      → IsSomeAnd o (λ (fields : List Value). field < length fields)
      → IsSome (option_and_then (λ (fields : List Value). option_and_then (λ (old : Value). Some (f fields)) (slice_get fields field)) o)
  written_there None field f h = absurd h
  written_there (Some fields) field f h = then_some _ (slice_get fields field) (get_some fields field h) (λ old e. refl)

  write_static_some : (ref : Target) (items : List Value) → NamesOwnStatic world ref → HasOne IsAny items
      → IsSome (writes_static world ref items)
  write_static_some (target.Field class field) [] h k = absurd k
  write_static_some (target.Field class field) (v ∷ below) h k =
      map_some _ (static_written world class field v)
      (written_there (slice_get world.statics class) field
      (λ fields. with_statics world (slice_set world.statics class (slice_set fields field v))) h)
  write_static_some target.None items h k = absurd h
  write_static_some (target.ApiMethod index) items h k = absurd h
  write_static_some (target.Builtin index) items h k = absurd h
  write_static_some (target.Method class method) items h k = absurd h
  write_static_some (target.ApiField index) items h k = absurd h
  write_static_some (target.ClassName name) items h k = absurd h
  write_static_some (target.Number n) items h k = absurd h
  write_static_some (target.Literal index) items h k = absurd h

  -- ---- classes

  name_some : (ref : Target) (f : Name → HeapResult) → NamesClass ref → ((name : Name) → IsSome (f name))
      → IsSome (option_and_then f (name_named ref))
  name_some (target.ClassName name) f h each = each name
  name_some target.None f h each = absurd h
  name_some (target.ApiMethod index) f h each = absurd h
  name_some (target.Builtin index) f h each = absurd h
  name_some (target.Method class method) f h each = absurd h
  name_some (target.Field class field) f h each = absurd h
  name_some (target.ApiField index) f h each = absurd h
  name_some (target.Number n) f h each = absurd h
  name_some (target.Literal index) f h each = absurd h

  cast_some : (name : Name) (items : List Value) → HasOne IsReference items → IsSome (casts program world name items)
  cast_some name [] h = absurd h
  cast_some name (v ∷ below) h =
      map_some _ (operand_of kinds.Reference (v ∷ below) 0) (operand_some kinds.Reference v below (reference_is v h))

  instance_some : (name : Name) (items : List Value) → HasOne IsReference items → IsSome (tells_instance program world name items)
  instance_some name [] h = absurd h
  instance_some name (v ∷ below) h =
      map_some _ (operand_of kinds.Reference (v ∷ below) 0) (operand_some kinds.Reference v below (reference_is v h))

-- ---- the rows

pub ready_operates : ReadyOperates
ready_operates program world heap.Constant ref items h = map_some _ (constant_value program ref) (constant_some program ref h)
ready_operates program world (heap.ReadItem item) ref items h = read_item_some program world item items h
ready_operates program world (heap.WriteItem item) ref items h = write_item_some program world item items h
ready_operates program world (heap.Divide remainder) ref items h = divide_some program world remainder ref items h
ready_operates program world heap.ReadStatic ref items h = read_static_some program world ref items h
ready_operates program world heap.WriteStatic ref items h = write_static_some program world ref items h.0 h.1
ready_operates program world heap.ReadField ref items h = read_field_some program world ref items h
ready_operates program world heap.WriteField ref items h = write_field_some program world ref items h
ready_operates program world heap.New ref items h = name_some program world ref _ h (λ name. refl)
ready_operates program world (heap.NewArray kind) ref items h = new_array_some program world (array_named kind) items h
ready_operates program world heap.NewArrayOf ref items h =
    name_some program world ref _ h.0 (λ name. new_array_some program world (array_of name) items h.1)
ready_operates program world heap.Length ref items h = length_some program world items h
ready_operates program world heap.Cast ref items h = name_some program world ref _ h.0 (λ name. cast_some program world name items h.1)
ready_operates program world heap.IsInstance ref items h =
    name_some program world ref _ h.0 (λ name. instance_some program world name items h.1)
ready_operates program world (heap.Call how) ref items h = absurd h
ready_operates program world heap.Throw ref items h = absurd h
ready_operates program world heap.Enter ref items h = absurd h
ready_operates program world heap.Exit ref items h = absurd h
ready_operates program world (heap.Return kind) ref items h = absurd h
