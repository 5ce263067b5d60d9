-- What instructions come to that work on the heap: objects of classes of the client, and values that are not the object of conspec/State.
use Rattle.std.proofs.Common.{
  ◌≡◌,
  ℕ,
  ℤ,
  Bool,
  true,
  false,
  List,
  [],
  ◌∷◌,
  length,
  drop,
  replicate,
  Some,
  None,
  Result,
  Ok,
  Err,
  refl,
  subst,
  sym,
}
use Rattle.std.specs.Prelude.{pos, negsuc, nat_lt, slice_get, slice_set, option_and_then}
use Rattle.std.specs.List.{AllByRecursion}
use Rattle.std.specs.Ordering.{int_eq}
use Rattle.insn_codec.specs.declared.shape.Heap.{Heap}
use Rattle.insn_codec.specs.declared.shape.Heap.TheVariants as heap
use Rattle.insn_codec.specs.declared.shape.Item.{Item}
use Rattle.bytecode_model.specs.declared.program.Program.{Program}
use Rattle.bytecode_model.specs.declared.program.Target.{Target}
use Rattle.bytecode_model.specs.declared.program.Target.TheVariants as target
use Rattle.bytecode_model.specs.Arrays.{array_of}
use Rattle.bytecode_model.specs.Makes.{array_named}
use Rattle.bytecode_model.specs.SearchOrder.{Name}
use Rattle.guest_heap.specs.declared.object.Object.{Object}
use Rattle.guest_heap.specs.declared.object.Object.TheVariants as objects
use Rattle.guest_heap.specs.declared.value.Value.{Value}
use Rattle.guest_heap.specs.declared.value.Value.TheVariants as values
use Rattle.guest_heap.specs.Heap.{places_of, with_value, with_value_at}
use Rattle.guest_model.specs.Changes.{World, with_object, with_statics}
use Rattle.guest_model.specs.HeapOperations.{
  ArrayAt,
  HeapResult,
  array_in,
  array_made,
  casts,
  divides,
  has_items,
  heap_result,
  is_cast,
  item_kind,
  item_written,
  kept,
  length_told,
  makes_array,
  may_hold,
  name_named,
  number_operand,
  on_array,
  on_items,
  on_object,
  operand_of,
  place_among,
  place_named,
  reads_field,
  reads_item,
  reads_static,
  static_written,
  tells_instance,
  truth,
  writes_field,
  writes_item,
  writes_static,
}
use Rattle.guest_model.specs.Kinds.{class_of_object}
use Rattle.guest_model.specs.Layout.{first_value, is_of_references, new_of}
use Rattle.guest_model.specs.Parts.{constant_value}
use Rattle.guest_model.proofs.HeapResults.{Lasts}
use Rattle.guest_model.proofs.Options.{
  IfThere,
  all_append,
  all_get,
  all_set,
  if_either,
  if_made,
  if_mapped,
  if_none,
  if_some,
  if_then,
  is_there,
  there_or,
}
use Rattle.guest_erasing.specs.Laid.{IsClientName}
use Rattle.guest_erasing.proofs.Names.{free_client}
use Rattle.block_runs.proofs.Clients.Named.{IsFree, array_named_client, array_of_client}
use Rattle.block_runs.proofs.Clients.Values.{AreValues, IsValue, ObjectValues, WorldValues}

module _ (client : Program) where
  -- ---- values

  truth_value : (b : Bool) → IsValue client (truth b)
  truth_value true = tt
  truth_value false = tt

  pub first_is_value : (desc : Name) → IsValue client (first_value desc)
  first_is_value desc = by (is_of_references desc) where
    by : (b : Bool) → IsValue client (Rattle.std.specs.Prelude.cond b values.Null (values.Int (pos 0)))
    by true = tt
    by false = tt

  kept_value : (desc : Name) (v : Value) → IsValue client v → IsValue client (kept desc v)
  kept_value desc (values.Int n) h = tt
  kept_value desc values.Null h = tt
  kept_value desc (values.Ref at) h = tt
  kept_value desc (values.Class index) h = h
  kept_value desc (values.Lit index) h = tt

  pub values_last : Lasts (IsValue client) (ObjectValues client) (WorldValues client) (λ class. Unit {0})
  values_last = record {
    reference = λ at. tt;
    truths = truth_value;
    first = first_is_value;
    item = kept_value;
    quotients = λ remainder x y e h. tt;
    new = λ class list all. (all, tt);
    fields = λ class list on thread h. h.0;
    fields_set = λ class old list on thread all h. (all, h.1);
    items = λ desc list h. (h, tt);
    array = λ desc list all count. all;
    on_heap = λ world h. h.heap;
    heap_set = λ world list all h. record { heap = all; statics = h.statics };
    statics = λ world class list may h e. all_get (AreValues client) world.statics class list h.statics e;
    statics_set = λ world class old list may e all h. record {
      heap = h.heap;
      statics = all_set (AreValues client) world.statics class list h.statics all;
    };
  }

-- ---- names

-- The objects of the heap afterwards are of classes of the client, or what is thrown is.
abbrev pub NamedResult : Result (World × List Value) Name → Type 0
NamedResult (Ok made) = AllByRecursion (λ (o : Object). IsClientName (class_of_object o)) made.0.heap
NamedResult (Err class) = IsClientName class

abbrev NamedIf : HeapResult → Type 0
NamedIf made = IfThere NamedResult made

abbrev HasNames : List Object → Type 0
HasNames heap = AllByRecursion (λ (o : Object). IsClientName (class_of_object o)) heap

thrown : (class : Name) → IsClientName class → NamedIf (Some (Err class))
thrown class h = if_some NamedResult (Err class) h

set_named : (place : ℕ) (v : Value) (o : Object) → class_of_object (with_value place v o) ≡ class_of_object o
set_named place v (objects.Plain class fields on thread) = refl
set_named place v (objects.Array desc items) = refl
set_named place v (objects.Text text) = refl

set_names : (heap : List Object) (at place : ℕ) (v : Value) → HasNames heap → HasNames (with_value_at heap at place v)
set_names heap at place v names =
    there_or HasNames (λ (o : Object). slice_set heap at (with_value place v o)) (slice_get heap at) heap names
    (λ o e. all_set _ heap at (with_value place v o) names
    (subst IsClientName (sym (set_named place v o)) (all_get (λ (x : Object). IsClientName (class_of_object x)) heap at o names e)))

module _ (program : Program) (world : World) (names : HasNames world.heap) (items : List Value) where
  same : (left : List Value) → NamedIf (Some (Ok (world, left)))
  same left = if_some NamedResult (Ok (world, left)) names

  more : (object : Object) (left : List Value) → IsClientName (class_of_object object)
      → NamedIf (Some (Ok (with_object world object, left)))
  more object left name = if_some NamedResult _ (all_append _ world.heap (object ∷ []) names (name, tt))

  in_array : (at : ℕ) (object : Object) (f : ArrayAt → HeapResult) → ((a : ArrayAt) → NamedIf (f a))
      → NamedIf (option_and_then f (array_in at object))
  in_array at object f each = if_then NamedResult f (array_in at object) (λ a e. each a)

  on_array_named : (v : Value) (f : ArrayAt → HeapResult) → ((a : ArrayAt) → NamedIf (f a)) → NamedIf (on_array world.heap v f)
  on_array_named (values.Int n) f each = if_none NamedResult
  on_array_named values.Null f each = thrown _ refl
  on_array_named (values.Ref at) f each = if_then NamedResult _ (slice_get world.heap at) (λ object e. in_array at object f each)
  on_array_named (values.Class index) f each = if_none NamedResult
  on_array_named (values.Lit index) f each = if_none NamedResult

  on_items_named : (item : Item) (v : Value) (f : ArrayAt → HeapResult) → ((a : ArrayAt) → NamedIf (f a))
      → NamedIf (on_items item world.heap v f)
  on_items_named item v f each =
      on_array_named v _ (λ a. if_either NamedResult (has_items item a.desc) (f a) None (each a) (if_none NamedResult))

  on_object_named : (v : Value) (f : ℕ → List Value → HeapResult) → ((at : ℕ) (fields : List Value) → NamedIf (f at fields))
      → NamedIf (on_object world.heap v f)
  on_object_named (values.Int n) f each = if_none NamedResult
  on_object_named values.Null f each = thrown _ refl
  on_object_named (values.Ref at) f each = if_then NamedResult _ (slice_get world.heap at) (λ object e. each at (places_of object))
  on_object_named (values.Class index) f each = if_none NamedResult
  on_object_named (values.Lit index) f each = if_none NamedResult

  -- ---- division and items

  divides_named : (remainder : Bool) → NamedIf (divides world remainder items)
  divides_named remainder =
      if_then NamedResult _ (number_operand items 0)
      (λ y e. if_then NamedResult _ (number_operand items 1)
      (λ x f. if_either NamedResult (int_eq y (pos 0)) _ _ (thrown _ refl) (same _)))

  read_item_named : (item : Item) → NamedIf (reads_item item world items)
  read_item_named item =
      if_then NamedResult _ (number_operand items 0)
      (λ index e. if_then NamedResult _ (slice_get items 1)
      (λ array f. on_items_named item array _
      (λ a. there_or NamedIf (λ (v : Value). Some (Ok (world, v ∷ drop 2 items)))
      (option_and_then (slice_get a.items) (place_among (length a.items) index)) (Some (Err _)) (thrown _ refl) (λ v g. same _))))

  write_item_named : (item : Item) → NamedIf (writes_item item program world items)
  write_item_named item =
      if_then NamedResult _ (operand_of (item_kind item) items 0)
      (λ v e. if_then NamedResult _ (number_operand items 1)
      (λ index f. if_then NamedResult _ (slice_get items 2)
      (λ array g. on_items_named item array _
      (λ a. there_or NamedIf (λ place. item_written program world a place v (drop 3 items)) (place_among (length a.items) index) _
      (thrown _ refl)
      (λ place p. if_either NamedResult (may_hold program world.heap a.desc v) _ _
      (if_some NamedResult _ (set_names world.heap a.at place (kept a.desc v) names)) (thrown _ refl))))))

  length_named : NamedIf (length_told world items)
  length_named = if_then NamedResult _ (slice_get items 0) (λ array e. on_array_named array _ (λ a. same _))

  made_named : (desc : Name) (n : ℤ) → IsClientName desc → NamedIf (array_made world desc n (drop 1 items))
  made_named desc (pos n) name = more (objects.Array desc (replicate n (first_value (drop 1 desc)))) _ name
  made_named desc (negsuc n) name = thrown _ refl

  array_named_so : (desc : Name) → IsClientName desc → NamedIf (makes_array world desc items)
  array_named_so desc name = if_then NamedResult _ (number_operand items 0) (λ n e. made_named desc n name)

  -- ---- fields

  read_field_named : (ref : Target) → NamedIf (reads_field program world ref items)
  read_field_named ref =
      if_then NamedResult _ (place_named program ref)
      (λ place e. if_then NamedResult _ (slice_get items 0)
      (λ object f. on_object_named object _ (λ at fields. if_mapped NamedResult _ (slice_get fields place) (λ v g. names))))

  write_field_named : (ref : Target) → NamedIf (writes_field program world ref items)
  write_field_named ref =
      if_then NamedResult _ (place_named program ref)
      (λ place e. if_then NamedResult _ (slice_get items 0)
      (λ v f. if_then NamedResult _ (slice_get items 1)
      (λ object g. on_object_named object _
      (λ at fields. if_mapped NamedResult _ (slice_get fields place) (λ old k. set_names world.heap at place v names)))))

  read_static_named : (ref : Target) → NamedIf (reads_static program world ref items)
  read_static_named (target.ApiField index) =
      if_either NamedResult (nat_lt index (length program.listing.fields)) _ _ (same _) (if_none NamedResult)
  read_static_named (target.Field class field) = if_mapped NamedResult _ _ (λ v e. names)
  read_static_named target.None = if_none NamedResult
  read_static_named (target.ApiMethod index) = if_none NamedResult
  read_static_named (target.Builtin index) = if_none NamedResult
  read_static_named (target.Method class method) = if_none NamedResult
  read_static_named (target.ClassName name) = if_none NamedResult
  read_static_named (target.Number n) = if_none NamedResult
  read_static_named (target.Literal index) = if_none NamedResult

  abbrev KeepsNames : World → Type 0
  KeepsNames new = HasNames new.heap

  static_named : (class field : ℕ) (v : Value) → IfThere KeepsNames (static_written world class field v)
  static_named class field v =
      if_then KeepsNames _ (slice_get world.statics class)
      (λ fields e. if_then KeepsNames _ (slice_get fields field)
      (λ old f. if_some KeepsNames (with_statics world (slice_set world.statics class (slice_set fields field v))) names))

  write_static_named : (ref : Target) → NamedIf (writes_static world ref items)
  write_static_named (target.Field class field) =
      if_then NamedResult _ (slice_get items 0)
      (λ v e. if_made KeepsNames NamedResult _ (static_written world class field v) (λ new h. h) (static_named class field v))
  write_static_named target.None = if_none NamedResult
  write_static_named (target.ApiMethod index) = if_none NamedResult
  write_static_named (target.Builtin index) = if_none NamedResult
  write_static_named (target.Method class method) = if_none NamedResult
  write_static_named (target.ApiField index) = if_none NamedResult
  write_static_named (target.ClassName name) = if_none NamedResult
  write_static_named (target.Number n) = if_none NamedResult
  write_static_named (target.Literal index) = if_none NamedResult

  -- ---- classes

  cast_or : (b : Bool) (class : Name) → IsClientName class → NamedResult (Rattle.std.specs.Prelude.cond b (Ok (world, items)) (Err class))
  cast_or true class name = names
  cast_or false class name = name

  cast_named : (name : Name) → NamedIf (casts program world name items)
  cast_named name = if_mapped NamedResult _ _ (λ v e. cast_or (is_cast program world.heap v name) _ refl)

  instance_named : (name : Name) → NamedIf (tells_instance program world name items)
  instance_named name = if_mapped NamedResult _ _ (λ v e. names)

  -- ---- the rows

  pub result_named : (what : Heap) (ref : Target) → IfThere IsFree (name_named ref) → NamedIf (heap_result program world what ref items)
  result_named heap.Constant ref free = if_mapped NamedResult _ (constant_value program ref) (λ v e. names)
  result_named (heap.ReadItem item) ref free = read_item_named item
  result_named (heap.WriteItem item) ref free = write_item_named item
  result_named (heap.Divide remainder) ref free = divides_named remainder
  result_named heap.ReadStatic ref free = read_static_named ref
  result_named heap.WriteStatic ref free = write_static_named ref
  result_named heap.ReadField ref free = read_field_named ref
  result_named heap.WriteField ref free = write_field_named ref
  result_named heap.New ref free =
      if_then NamedResult _ (name_named ref)
      (λ name e. more (new_of program name) _ (free_client name (is_there IsFree (name_named ref) name free e)))
  result_named (heap.NewArray kind) ref free = array_named_so (array_named kind) (array_named_client kind)
  result_named heap.NewArrayOf ref free =
      if_then NamedResult _ (name_named ref)
      (λ name e. array_named_so (array_of name) (array_of_client name (is_there IsFree (name_named ref) name free e)))
  result_named heap.Length ref free = length_named
  result_named heap.Cast ref free = if_then NamedResult _ (name_named ref) (λ name e. cast_named name)
  result_named heap.IsInstance ref free = if_then NamedResult _ (name_named ref) (λ name e. instance_named name)
  result_named (heap.Call how) ref free = if_none NamedResult
  result_named heap.Throw ref free = if_none NamedResult
  result_named heap.Enter ref free = if_none NamedResult
  result_named heap.Exit ref free = if_none NamedResult
  result_named (heap.Return kind) ref free = if_none NamedResult
