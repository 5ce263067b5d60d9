-- What instructions come to that work on the heap, on static fields, or divide: what holds of each value, of each object and
-- of what is shared holds of these afterwards.
use Rattle.std.proofs.Common.{◌≡◌, ℕ, ℤ, zero, suc, Bool, true, false, cond, List, [], ◌∷◌, length, drop, replicate, Option, Some, None, Result, Ok, Err, refl}
use Rattle.std.specs.Prelude.{pos, negsuc, nat_lt, slice_get, slice_set, option_and_then}
use Rattle.std.specs.List.{AllByRecursion}
use Rattle.std.specs.Ordering.{int_eq}
use Rattle.class_codec.specs.declared.tree.Member.{Member}
use Rattle.insn_codec.specs.declared.shape.Heap.{Heap}
use Rattle.insn_codec.specs.declared.shape.Heap.TheVariants as heap
use Rattle.insn_codec.specs.declared.shape.Item.{Item}
use Rattle.insn_codec.specs.declared.shape.ValueKind.{ValueKind}
use Rattle.insn_codec.specs.declared.shape.ValueKind.TheVariants as kinds
use Rattle.bytecode_model.specs.declared.program.LinkedClass.{LinkedClass}
use Rattle.bytecode_model.specs.declared.program.Program.{Program}
use Rattle.bytecode_model.specs.declared.program.Target.{Target}
use Rattle.bytecode_model.specs.declared.program.Target.TheVariants as target
use Rattle.bytecode_model.specs.Arrays.{array_of}
use Rattle.bytecode_model.specs.Heads.{desc_of}
use Rattle.bytecode_model.specs.Makes.{array_named}
use Rattle.bytecode_model.specs.SearchOrder.{Name}
use Rattle.guest_heap.specs.declared.object.Object.{Object}
use Rattle.guest_heap.specs.declared.object.Object.TheVariants as objects
use Rattle.guest_heap.specs.declared.value.Value.{Value}
use Rattle.guest_heap.specs.declared.value.Value.TheVariants as values
use Rattle.guest_heap.specs.Heap.{places_of, with_value, with_value_at}
use Rattle.guest_frames.specs.Values.{fits}
use Rattle.guest_model.specs.Changes.{World, with_heap, with_object, with_statics}
use Rattle.guest_model.specs.Layout.{class_given, fields_up, first_value, new_of, own_fields}
use Rattle.guest_model.specs.Parts.{constant_value, null_pointer, number_in}
use Rattle.guest_model.specs.HeapOperations.{
  ArrayAt,
  HeapResult,
  array_in,
  array_made,
  bad_division,
  bad_item,
  bad_place,
  bad_size,
  casts,
  divided,
  divides,
  has_items,
  is_cast,
  item_kind,
  item_read,
  item_written,
  kept,
  length_told,
  makes_array,
  makes_object,
  may_hold,
  name_named,
  number_operand,
  on_array,
  on_items,
  on_object,
  operand_of,
  place_among,
  place_named,
  quotient,
  reads_field,
  reads_item,
  reads_static,
  static_written,
  tells_instance,
  truth,
  heap_result,
  writes_field,
  writes_item,
  writes_static,
}
use Rattle.guest_model.proofs.Options.{
  IfThere,
  all_append,
  all_drop,
  all_get,
  all_map,
  all_replicate,
  all_set,
  and_then_of,
  if_either,
  if_made,
  if_mapped,
  if_none,
  if_some,
  if_then,
  is_there,
  there_or,
}

-- What holds of values, of objects and of what is shared, and that it lasts. Static fields are touched of classes alone that
-- are open.
pub record Lasts (OfValue : Value → Type 0) (OfObject : Object → Type 0) (OfWorld : World → Type 0) (IsOpen : ℕ → Type 0) : Type 0 where
  pub reference : (at : ℕ) → OfValue (values.Ref at)
  pub truths : (b : Bool) → OfValue (truth b)
  pub first : (desc : Name) → OfValue (first_value desc)
  pub item : (desc : Name) (v : Value) → OfValue v → OfValue (kept desc v)
  pub quotients : (remainder : Bool) (x y : ℤ) → int_eq y (pos 0) ≡ false → OfValue (values.Int y) → OfValue (values.Int (quotient remainder x y))
  pub new : (class : Name) (list : List Value) → AllByRecursion OfValue list → OfObject (objects.Plain class list values.Null None)
  pub fields : (class : Name) (list : List Value) (on : Value) (thread : Option ℕ) → OfObject (objects.Plain class list on thread) → AllByRecursion OfValue list
  pub fields_set : (class : Name) (old list : List Value) (on : Value) (thread : Option ℕ) → AllByRecursion OfValue list
      → OfObject (objects.Plain class old on thread) → OfObject (objects.Plain class list on thread)
  pub items : (desc : Name) (list : List Value) → OfObject (objects.Array desc list) → AllByRecursion OfValue list × OfValue (values.Int (pos (length list)))
  pub array : (desc : Name) (list : List Value) → AllByRecursion OfValue list → OfValue (values.Int (pos (length list))) → OfObject (objects.Array desc list)
  pub on_heap : (world : World) → OfWorld world → AllByRecursion OfObject world.heap
  pub heap_set : (world : World) (list : List Object) → AllByRecursion OfObject list → OfWorld world → OfWorld (with_heap world list)
  pub statics : (world : World) (class : ℕ) (list : List Value) → IsOpen class → OfWorld world → slice_get world.statics class ≡ Some list → AllByRecursion OfValue list
  pub statics_set : (world : World) (class : ℕ) (old list : List Value) → IsOpen class → slice_get world.statics class ≡ Some old → AllByRecursion OfValue list
      → OfWorld world → OfWorld (with_statics world (slice_set world.statics class list))

length_replicate : (n : ℕ) (v : Value) → length (replicate n v) ≡ n
length_replicate zero v = refl
length_replicate (suc n) v = rw (length_replicate n v) refl

length_set : (items : List Value) (i : ℕ) (v : Value) → length (slice_set items i v) ≡ length items
length_set [] i v = refl
length_set (w ∷ items) zero v = refl
length_set (w ∷ items) (suc i) v = rw (length_set items i v) refl

-- what is shared and the operands afterwards
abbrev pub Comes : (Value → Type 0) → (World → Type 0) → Result (World × List Value) Name → Type 0
Comes OfValue OfWorld (Ok made) = OfWorld made.0 × AllByRecursion OfValue made.1
Comes OfValue OfWorld (Err class) = Unit {0}

-- a static field that is named is of an open class
abbrev pub IsOpenTo : (ℕ → Type 0) → Target → Type 0
IsOpenTo IsOpen ref = (class field : ℕ) → ref ≡ target.Field class field → IsOpen class

module _ (OfValue : Value → Type 0) (OfObject : Object → Type 0) (OfWorld : World → Type 0) (IsOpen : ℕ → Type 0)
    (law : Lasts OfValue OfObject OfWorld IsOpen) (program : Program) where
  abbrev Each : List Value → Type 0
  Each list = AllByRecursion OfValue list

  abbrev OfNumber : ℤ → Type 0
  OfNumber n = OfValue (values.Int n)

  abbrev ComesTo : Result (World × List Value) Name → Type 0
  ComesTo made = Comes OfValue OfWorld made

  abbrev ComesIf : HeapResult → Type 0
  ComesIf made = IfThere ComesTo made

  err_comes : (class : Name) → ComesIf (Some (Err class))
  err_comes class = if_some ComesTo (Err class) tt

  ok_comes : (world : World) (items : List Value) → OfWorld world → Each items → ComesIf (Some (Ok (world, items)))
  ok_comes world items h all = if_some ComesTo (Ok (world, items)) (h, all)

  -- ---- operands

  of_number : (v : Value) → OfValue v → IfThere OfNumber (number_in v)
  of_number (values.Int n) h = if_some OfNumber n h
  of_number values.Null h = if_none OfNumber
  of_number (values.Ref at) h = if_none OfNumber
  of_number (values.Class index) h = if_none OfNumber
  of_number (values.Lit index) h = if_none OfNumber

  number_there : (items : List Value) (i : ℕ) → Each items → IfThere OfNumber (number_operand items i)
  number_there items i all = if_then OfNumber number_in (slice_get items i) (λ v e. of_number v (all_get OfValue items i v all e))

  operand_there : (kind : ValueKind) (items : List Value) (i : ℕ) → Each items → IfThere OfValue (operand_of kind items i)
  operand_there kind items i all =
      if_then OfValue _ (slice_get items i)
      (λ v e. if_either OfValue (fits kind v) _ _ (if_some OfValue v (all_get OfValue items i v all e)) (if_none OfValue))

  -- ---- objects

  of_places : (object : Object) → OfObject object → Each (places_of object)
  of_places (objects.Plain class fields on thread) h = law.fields class fields on thread h
  of_places (objects.Array desc items) h = (law.items desc items h).0
  of_places (objects.Text text) h = tt

  value_set : (place : ℕ) (v : Value) (object : Object) → OfValue v → OfObject object → OfObject (with_value place v object)
  value_set place v (objects.Plain class fields on thread) value h =
      law.fields_set class fields _ on thread (all_set OfValue fields place v (law.fields class fields on thread h) value) h
  value_set place v (objects.Array desc items) value h =
      let each = law.items desc items h in
      law.array desc _ (all_set OfValue items place v each.0 value) (rw (length_set items place v) each.1)
  value_set place v (objects.Text text) value h = h

  value_set_at : (heap : List Object) (at place : ℕ) (v : Value) → OfValue v → AllByRecursion OfObject heap → AllByRecursion OfObject (with_value_at heap at place v)
  value_set_at heap at place v value all =
      there_or (AllByRecursion OfObject) (λ (object : Object). slice_set heap at (with_value place v object)) (slice_get heap at) heap all
      (λ object e. all_set OfObject heap at (with_value place v object) all (value_set place v object value (all_get OfObject heap at object all e)))

  fields_there : (n : ℕ) (name : Name) → Each (fields_up n program name)
  fields_there zero name = tt
  fields_there (suc n) name =
      there_or Each _ (class_given program name) [] tt
      (λ (c : LinkedClass) e. all_append OfValue (fields_up n program c.parent) (own_fields c.file) (fields_there n c.parent)
      (all_map OfValue (λ (m : Member). first_value (desc_of c.file.pool m)) _ (λ m. law.first (desc_of c.file.pool m))))

  new_there : (name : Name) → OfObject (new_of program name)
  new_there name = law.new name _ (fields_there (length program.classes) name)

  module _ (world : World) (lasts : OfWorld world) where
    -- ---- objects and arrays

    on_heap : (at : ℕ) (object : Object) → slice_get world.heap at ≡ Some object → OfObject object
    on_heap at object e = all_get OfObject world.heap at object (law.on_heap world lasts) e

    -- the items of the array, and how many they are
    abbrev OfArray : ArrayAt → Type 0
    OfArray a = Each a.items × OfNumber (pos (length a.items))

    in_array : (at : ℕ) (object : Object) (f : ArrayAt → HeapResult) → OfObject object → ((a : ArrayAt) → OfArray a → ComesIf (f a))
        → ComesIf (option_and_then f (array_in at object))
    in_array at (objects.Plain class fields on thread) f h each = if_none ComesTo
    in_array at (objects.Array desc items) f h each = each (record { at = at; desc = desc; items = items }) (law.items desc items h)
    in_array at (objects.Text text) f h each = if_none ComesTo

    array_comes : (v : Value) (f : ArrayAt → HeapResult) → ((a : ArrayAt) → OfArray a → ComesIf (f a)) → ComesIf (on_array world.heap v f)
    array_comes (values.Int n) f each = if_none ComesTo
    array_comes values.Null f each = err_comes null_pointer
    array_comes (values.Ref at) f each = if_then ComesTo _ (slice_get world.heap at) (λ object e. in_array at object f (on_heap at object e) each)
    array_comes (values.Class index) f each = if_none ComesTo
    array_comes (values.Lit index) f each = if_none ComesTo

    items_come : (item : Item) (v : Value) (f : ArrayAt → HeapResult) → ((a : ArrayAt) → OfArray a → ComesIf (f a))
        → ComesIf (on_items item world.heap v f)
    items_come item v f each =
        array_comes v _ (λ a h. if_either ComesTo (has_items item a.desc) (f a) None (each a h) (if_none ComesTo))

    object_comes : (v : Value) (f : ℕ → List Value → HeapResult) → ((at : ℕ) (fields : List Value) → Each fields → ComesIf (f at fields))
        → ComesIf (on_object world.heap v f)
    object_comes (values.Int n) f each = if_none ComesTo
    object_comes values.Null f each = err_comes null_pointer
    object_comes (values.Ref at) f each =
        if_then ComesTo _ (slice_get world.heap at) (λ object e. each at (places_of object) (of_places object (on_heap at object e)))
    object_comes (values.Class index) f each = if_none ComesTo
    object_comes (values.Lit index) f each = if_none ComesTo

    -- with a field or an item set
    set_lasts : (at place : ℕ) (v : Value) → OfValue v → OfWorld (with_heap world (with_value_at world.heap at place v))
    set_lasts at place v value =
        law.heap_set world _ (value_set_at world.heap at place v value (law.on_heap world lasts)) lasts

    -- with one object more
    more_lasts : (object : Object) → OfObject object → OfWorld (with_object world object)
    more_lasts object h =
        law.heap_set world _ (all_append OfObject world.heap (object ∷ []) (law.on_heap world lasts) (h, tt)) lasts

    module _ (items : List Value) (all : Each items) where
      left : (n : ℕ) → Each (drop n items)
      left n = all_drop OfValue n items all

      divided_comes : (remainder : Bool) (x y : ℤ) → OfNumber y → ComesIf (divided world remainder x y (drop 2 items))
      divided_comes remainder x y h = by (int_eq y (pos 0)) refl where
        by : (b : Bool) → int_eq y (pos 0) ≡ b
            → ComesIf (cond b (Some (Err bad_division)) (Some (Ok (world, values.Int (quotient remainder x y) ∷ drop 2 items))))
        by true e = err_comes bad_division
        by false e = ok_comes world _ lasts (law.quotients remainder x y e h, left 2)

      divides_comes : (remainder : Bool) → ComesIf (divides world remainder items)
      divides_comes remainder =
          if_then ComesTo _ (number_operand items 0)
          (λ y e. if_then ComesTo _ (number_operand items 1)
          (λ x f. divided_comes remainder x y (is_there OfNumber _ y (number_there items 0 all) e)))

      item_comes : (a : ArrayAt) (index : ℤ) → OfArray a → ComesIf (item_read world a index (drop 2 items))
      item_comes a index h =
          there_or ComesIf (λ (v : Value). Some (Ok (world, v ∷ drop 2 items)))
          (option_and_then (slice_get a.items) (place_among (length a.items) index)) (Some (Err bad_place)) (err_comes bad_place)
          (λ v e. let p = and_then_of (slice_get a.items) (place_among (length a.items) index) v e in
          ok_comes world (v ∷ drop 2 items) lasts (all_get OfValue a.items p.0 v h.0 p.2, left 2))

      read_item_comes : (item : Item) → ComesIf (reads_item item world items)
      read_item_comes item =
          if_then ComesTo _ (number_operand items 0)
          (λ index e. if_then ComesTo _ (slice_get items 1) (λ array f. items_come item array _ (λ a h. item_comes a index h)))

      write_comes : (a : ArrayAt) (place : ℕ) (v : Value) → OfValue v → ComesIf (item_written program world a place v (drop 3 items))
      write_comes a place v value =
          if_either ComesTo (may_hold program world.heap a.desc v) _ _
          (ok_comes _ (drop 3 items) (set_lasts a.at place (kept a.desc v) (law.item a.desc v value)) (left 3)) (err_comes bad_item)

      write_item_comes : (item : Item) → ComesIf (writes_item item program world items)
      write_item_comes item =
          if_then ComesTo _ (operand_of (item_kind item) items 0)
          (λ v e. if_then ComesTo _ (number_operand items 1)
          (λ index f. if_then ComesTo _ (slice_get items 2)
          (λ array g. items_come item array _
          (λ a h. there_or ComesIf (λ place. item_written program world a place v (drop 3 items)) (place_among (length a.items) index) _
          (err_comes bad_place)
          (λ place p. write_comes a place v (is_there OfValue _ v (operand_there (item_kind item) items 0 all) e))))))

      length_comes : ComesIf (length_told world items)
      length_comes =
          if_then ComesTo _ (slice_get items 0) (λ array e. array_comes array _ (λ a h. ok_comes world _ lasts (h.1, left 1)))

      made_comes : (desc : Name) (n : ℤ) → OfNumber n → ComesIf (array_made world desc n (drop 1 items))
      made_comes desc (pos n) h =
          let v : Value = first_value (drop 1 desc) in
          let object = law.array desc (replicate n v) (all_replicate OfValue n v (law.first (drop 1 desc))) (rw (length_replicate n v) h) in
          ok_comes _ _ (more_lasts (objects.Array desc (replicate n v)) object) (law.reference (length world.heap), left 1)
      made_comes desc (negsuc n) h = err_comes bad_size

      array_made_comes : (desc : Name) → ComesIf (makes_array world desc items)
      array_made_comes desc =
          if_then ComesTo _ (number_operand items 0)
          (λ n e. made_comes desc n (is_there OfNumber _ n (number_there items 0 all) e))

      -- ---- fields

      read_field_comes : (ref : Target) → ComesIf (reads_field program world ref items)
      read_field_comes ref =
          if_then ComesTo _ (place_named program ref)
          (λ place e. if_then ComesTo _ (slice_get items 0)
          (λ object f. object_comes object _
          (λ at fields h. if_mapped ComesTo _ (slice_get fields place)
          (λ v g. (lasts, (all_get OfValue fields place v h g, left 1))))))

      write_field_comes : (ref : Target) → ComesIf (writes_field program world ref items)
      write_field_comes ref =
          if_then ComesTo _ (place_named program ref)
          (λ place e. if_then ComesTo _ (slice_get items 0)
          (λ v f. if_then ComesTo _ (slice_get items 1)
          (λ object g. object_comes object _
          (λ at fields h. if_mapped ComesTo _ (slice_get fields place)
          (λ old k. (set_lasts at place v (all_get OfValue items 0 v all f), left 2))))))

      read_static_comes : (ref : Target) → IsOpenTo IsOpen ref → ComesIf (reads_static program world ref items)
      read_static_comes (target.ApiField index) may =
          if_either ComesTo (nat_lt index (length program.listing.fields)) _ _
          (ok_comes world (values.Ref index ∷ items) lasts (law.reference index, all)) (if_none ComesTo)
      read_static_comes (target.Field class field) may =
          if_mapped ComesTo _ (option_and_then (λ (fields : List Value). slice_get fields field) (slice_get world.statics class))
          (λ v e. let f = and_then_of (λ (fields : List Value). slice_get fields field) (slice_get world.statics class) v e in
          let each = law.statics world class f.0 (may class field refl) lasts f.1 in
          (lasts, (all_get OfValue f.0 field v each f.2, all)))
      read_static_comes target.None may = if_none ComesTo
      read_static_comes (target.ApiMethod index) may = if_none ComesTo
      read_static_comes (target.Builtin index) may = if_none ComesTo
      read_static_comes (target.Method class method) may = if_none ComesTo
      read_static_comes (target.ClassName name) may = if_none ComesTo
      read_static_comes (target.Number n) may = if_none ComesTo
      read_static_comes (target.Literal index) may = if_none ComesTo

      static_lasts : (class field : ℕ) (v : Value) → IsOpen class → OfValue v → IfThere OfWorld (static_written world class field v)
      static_lasts class field v may value =
          if_then OfWorld _ (slice_get world.statics class)
          (λ fields e. if_then OfWorld _ (slice_get fields field)
          (λ old f. if_some OfWorld _ (law.statics_set world class fields (slice_set fields field v) may e
          (all_set OfValue fields field v (law.statics world class fields may lasts e) value) lasts)))

      write_static_comes : (ref : Target) → IsOpenTo IsOpen ref → ComesIf (writes_static world ref items)
      write_static_comes (target.Field class field) may =
          if_then ComesTo _ (slice_get items 0)
          (λ v e. if_made OfWorld ComesTo _ (static_written world class field v) (λ new h. (h, left 1))
          (static_lasts class field v (may class field refl) (all_get OfValue items 0 v all e)))
      write_static_comes target.None may = if_none ComesTo
      write_static_comes (target.ApiMethod index) may = if_none ComesTo
      write_static_comes (target.Builtin index) may = if_none ComesTo
      write_static_comes (target.Method class method) may = if_none ComesTo
      write_static_comes (target.ApiField index) may = if_none ComesTo
      write_static_comes (target.ClassName name) may = if_none ComesTo
      write_static_comes (target.Number n) may = if_none ComesTo
      write_static_comes (target.Literal index) may = if_none ComesTo

      -- ---- classes

      object_made_comes : (name : Name) → ComesIf (makes_object program world name items)
      object_made_comes name =
          ok_comes _ _ (more_lasts (new_of program name) (new_there name)) (law.reference (length world.heap), all)

      cast_or : (b : Bool) (class : Name) → ComesTo (cond b (Ok (world, items)) (Err class))
      cast_or true class = (lasts, all)
      cast_or false class = tt

      cast_comes : (name : Name) → ComesIf (casts program world name items)
      cast_comes name = if_mapped ComesTo _ (operand_of kinds.Reference items 0) (λ v e. cast_or (is_cast program world.heap v name) _)

      instance_comes : (name : Name) → ComesIf (tells_instance program world name items)
      instance_comes name = if_mapped ComesTo _ (operand_of kinds.Reference items 0) (λ v e. (lasts, (law.truths _, left 1)))

      -- ---- the rows

      pub result_comes : (what : Heap) (ref : Target) → (what ≡ heap.Constant → IfThere OfValue (constant_value program ref)) → IsOpenTo IsOpen ref
          → ComesIf (heap_result program world what ref items)
      result_comes heap.Constant ref names may =
          if_made OfValue ComesTo _ (constant_value program ref) (λ v h. (lasts, (h, all))) (names refl)
      result_comes (heap.ReadItem item) ref names may = read_item_comes item
      result_comes (heap.WriteItem item) ref names may = write_item_comes item
      result_comes (heap.Divide remainder) ref names may = divides_comes remainder
      result_comes heap.ReadStatic ref names may = read_static_comes ref may
      result_comes heap.WriteStatic ref names may = write_static_comes ref may
      result_comes heap.ReadField ref names may = read_field_comes ref
      result_comes heap.WriteField ref names may = write_field_comes ref
      result_comes heap.New ref names may = if_then ComesTo _ (name_named ref) (λ name e. object_made_comes name)
      result_comes (heap.NewArray kind) ref names may = array_made_comes (array_named kind)
      result_comes heap.NewArrayOf ref names may = if_then ComesTo _ (name_named ref) (λ name e. array_made_comes (array_of name))
      result_comes heap.Length ref names may = length_comes
      result_comes heap.Cast ref names may = if_then ComesTo _ (name_named ref) (λ name e. cast_comes name)
      result_comes heap.IsInstance ref names may = if_then ComesTo _ (name_named ref) (λ name e. instance_comes name)
      result_comes (heap.Call how) ref names may = if_none ComesTo
      result_comes heap.Throw ref names may = if_none ComesTo
      result_comes heap.Enter ref names may = if_none ComesTo
      result_comes heap.Exit ref names may = if_none ComesTo
      result_comes (heap.Return kind) ref names may = if_none ComesTo
