-- What instructions come to that work on the heap: the objects that they make are of classes that are named by words, and so is
-- what they throw.
use Rattle.std.proofs.Common.{◌≡◌, ℕ, cond, List, [], ◌∷◌, ◌++◌, length, drop, Some, None, int_eq}
use Rattle.std.specs.Prelude.{ℤ, pos, negsuc, Bool, true, false, Result, Ok, Err, nat_lt, slice_get, slice_set, option_and_then}
use Rattle.insn_codec.specs.declared.shape.Heap.{Heap}
use Rattle.insn_codec.specs.declared.shape.Heap.TheVariants as heap
use Rattle.bytecode_model.specs.declared.program.Program.{Program}
use Rattle.bytecode_model.specs.declared.program.Target.{Target}
use Rattle.bytecode_model.specs.declared.program.Target.TheVariants as target
use Rattle.bytecode_model.specs.Arrays.{array_of}
use Rattle.bytecode_model.specs.Makes.{array_named}
use Rattle.bytecode_model.specs.SearchOrder.{Name}
use Rattle.guest_heap.specs.declared.value.Value.{Value}
use Rattle.guest_heap.specs.declared.value.Value.TheVariants as values
use Rattle.insn_codec.specs.declared.shape.Item.{Item}
use Rattle.insn_codec.specs.declared.shape.ValueKind.TheVariants as kinds
use Rattle.guest_heap.specs.Heap.{places_of, with_value, with_value_at}
use Rattle.guest_heap.specs.declared.object.Object.{Object}
use Rattle.guest_heap.specs.declared.object.Object.TheVariants as objects
use Rattle.guest_model.specs.Changes.{World, with_heap}
use Rattle.guest_model.specs.Layout.{new_of}
use Rattle.guest_model.specs.Parts.{constant_value, null_pointer}
use Rattle.guest_model.specs.HeapOperations.{ArrayAt, HeapResult, array_in, array_made, bad_cast, bad_division, bad_item, bad_place, bad_size, casts, divides, has_items, is_cast, item_kind, item_read, item_written, kept, length_told, makes_array, may_hold, name_named, number_operand, on_array, on_items, on_object, operand_of, place_among, place_named, reads_field, reads_item, reads_static, static_written, heap_result, writes_field, writes_item, writes_static}
use Rattle.guest_model.proofs.Options.{IfThere, all_append, if_either, if_made, if_mapped, if_none, if_some, if_then, there_or}
use Rattle.event_record.proofs.ClassNames.{array_of_named, bad_cast_named, bad_division_named, bad_item_named, bad_place_named, bad_size_named, kind_named, null_pointer_named}
use Rattle.event_record.proofs.Shown.{HeapNamed, ObjectNamed}
use Rattle.event_record.proofs.WrittenLines.{IsNamed}
use Rattle.guest_model.proofs.Options.{all_get, all_set}

value_set : (place : ℕ) (v : Value) (object : Object) → ObjectNamed object → ObjectNamed (with_value place v object)
value_set place v (objects.Plain class fields on thread) h = h
value_set place v (objects.Array desc items) h = h
value_set place v (objects.Text text) h = h

set_named : (heap : List Object) (at place : ℕ) (v : Value) → HeapNamed heap → HeapNamed (with_value_at heap at place v)
set_named heap at place v all =
    there_or HeapNamed (λ (object : Object). slice_set heap at (with_value place v object)) (slice_get heap at) heap all
    (λ object e. all_set ObjectNamed heap at (with_value place v object) all (value_set place v object (all_get ObjectNamed heap at object all e)))

module _ (program : Program) where
  abbrev pub Comes : Result (World × List Value) Name → Type 0
  Comes (Ok made) = HeapNamed made.0.heap
  Comes (Err class) = IsNamed class

  abbrev pub ComesIf : HeapResult → Type 0
  ComesIf made = IfThere Comes made

  abbrev IsFine : World → Type 0
  IsFine world = HeapNamed world.heap

  module _ (world : World) (was : HeapNamed world.heap) (items : List Value) where
    one_more : (object : Object) → ObjectNamed object → HeapNamed (world.heap ++ object ∷ [])
    one_more object named = all_append ObjectNamed world.heap (object ∷ []) was (named, tt)

    stays : (list : List Value) → ComesIf (Some (Ok (world, list)))
    stays list = if_some Comes (Ok (world, list)) (was)

    thrown : (class : Name) → IsNamed class → ComesIf (Some (Err class))
    thrown class named = if_some Comes (Err class) named

    in_array : (at : ℕ) (object : Object) (f : ArrayAt → HeapResult) → ((a : ArrayAt) → ComesIf (f a)) → ComesIf (option_and_then f (array_in at object))
    in_array at object f each = if_then Comes f (array_in at object) (λ a e. each a)

    array_comes : (v : Value) (f : ArrayAt → HeapResult) → ((a : ArrayAt) → ComesIf (f a)) → ComesIf (on_array world.heap v f)
    array_comes (values.Int n) f each = if_none Comes
    array_comes values.Null f each = thrown null_pointer null_pointer_named
    array_comes (values.Ref at) f each = if_then Comes _ (slice_get world.heap at) (λ object e. in_array at object f each)
    array_comes (values.Class index) f each = if_none Comes
    array_comes (values.Lit index) f each = if_none Comes

    items_come : (item : Item) (v : Value) (f : ArrayAt → HeapResult) → ((a : ArrayAt) → ComesIf (f a)) → ComesIf (on_items item world.heap v f)
    items_come item v f each = array_comes v _ (λ a. if_either Comes (has_items item a.desc) (f a) None (each a) (if_none Comes))

    object_comes : (v : Value) (f : ℕ → List Value → HeapResult) → ((at : ℕ) (fields : List Value) → ComesIf (f at fields))
        → ComesIf (on_object world.heap v f)
    object_comes (values.Int n) f each = if_none Comes
    object_comes values.Null f each = thrown null_pointer null_pointer_named
    object_comes (values.Ref at) f each = if_then Comes _ (slice_get world.heap at) (λ object e. each at (places_of object))
    object_comes (values.Class index) f each = if_none Comes
    object_comes (values.Lit index) f each = if_none Comes

    placed : (at place : ℕ) (v : Value) → HeapNamed (with_value_at world.heap at place v)
    placed at place v = set_named world.heap at place v was

    divides_comes : (remainder : Bool) → ComesIf (divides world remainder items)
    divides_comes remainder =
        if_then Comes _ (number_operand items 0)
        (λ y e. if_then Comes _ (number_operand items 1)
        (λ x f. if_either Comes (int_eq y (pos 0)) _ _ (thrown bad_division bad_division_named) (stays _)))

    item_comes : (a : ArrayAt) (index : ℤ) → ComesIf (item_read world a index (drop 2 items))
    item_comes a index = there_or ComesIf _ (option_and_then (slice_get a.items) (place_among (length a.items) index)) _ (thrown bad_place bad_place_named) (λ v e. stays _)

    read_item_comes : (item : Item) → ComesIf (reads_item item world items)
    read_item_comes item =
        if_then Comes _ (number_operand items 0)
        (λ index e. if_then Comes _ (slice_get items 1) (λ array f. items_come item array _ (λ a. item_comes a index)))

    write_comes : (a : ArrayAt) (place : ℕ) (v : Value) → ComesIf (item_written program world a place v (drop 3 items))
    write_comes a place v =
        if_either Comes (may_hold program world.heap a.desc v) _ _
        (if_some Comes (Ok (with_heap world (with_value_at world.heap a.at place (kept a.desc v)), drop 3 items)) (placed a.at place (kept a.desc v)))
        (thrown bad_item bad_item_named)

    write_item_comes : (item : Item) → ComesIf (writes_item item program world items)
    write_item_comes item =
        if_then Comes _ (operand_of (item_kind item) items 0)
        (λ v e. if_then Comes _ (number_operand items 1)
        (λ index f. if_then Comes _ (slice_get items 2)
        (λ array g. items_come item array _
        (λ a. there_or ComesIf _ (place_among (length a.items) index) _ (thrown bad_place bad_place_named) (λ place p. write_comes a place v)))))

    length_comes : ComesIf (length_told world items)
    length_comes = if_then Comes _ (slice_get items 0) (λ array e. array_comes array _ (λ a. stays _))

    made_comes : (desc : Name) (n : ℤ) → IsNamed desc → ComesIf (array_made world desc n (drop 1 items))
    made_comes desc (pos n) named = if_some Comes _ (one_more _ named)
    made_comes desc (negsuc n) named = thrown bad_size bad_size_named

    array_made_comes : (desc : Name) → IsNamed desc → ComesIf (makes_array world desc items)
    array_made_comes desc named = if_then Comes _ (number_operand items 0) (λ n e. made_comes desc n named)

    read_field_comes : (ref : Target) → ComesIf (reads_field program world ref items)
    read_field_comes ref =
        if_then Comes _ (place_named program ref)
        (λ place e. if_then Comes _ (slice_get items 0)
        (λ object f. object_comes object _ (λ at fields. if_mapped Comes _ (slice_get fields place) (λ v g. was))))

    write_field_comes : (ref : Target) → ComesIf (writes_field program world ref items)
    write_field_comes ref =
        if_then Comes _ (place_named program ref)
        (λ place e. if_then Comes _ (slice_get items 0)
        (λ v f. if_then Comes _ (slice_get items 1)
        (λ object g. object_comes object _ (λ at fields. if_mapped Comes _ (slice_get fields place) (λ before k. placed at place v)))))

    read_static_comes : (ref : Target) → ComesIf (reads_static program world ref items)
    read_static_comes (target.ApiField index) =
        if_either Comes (nat_lt index (length program.listing.fields)) _ _ (stays _) (if_none Comes)
    read_static_comes (target.Field class field) =
        if_mapped Comes _ (option_and_then (λ (fields : List Value). slice_get fields field) (slice_get world.statics class))
        (λ v e. was)
    read_static_comes target.None = if_none Comes
    read_static_comes (target.ApiMethod index) = if_none Comes
    read_static_comes (target.Builtin index) = if_none Comes
    read_static_comes (target.Method class method) = if_none Comes
    read_static_comes (target.ClassName name) = if_none Comes
    read_static_comes (target.Number n) = if_none Comes
    read_static_comes (target.Literal index) = if_none Comes

    static_has : (class field : ℕ) (v : Value) → IfThere IsFine (static_written world class field v)
    static_has class field v =
        if_then IsFine _ (slice_get world.statics class)
        (λ fields e. if_then IsFine _ (slice_get fields field) (λ before f. if_some IsFine _ (was)))

    write_static_comes : (ref : Target) → ComesIf (writes_static world ref items)
    write_static_comes (target.Field class field) =
        if_then Comes _ (slice_get items 0)
        (λ v e. if_made IsFine Comes _ (static_written world class field v) (λ new h. h) (static_has class field v))
    write_static_comes target.None = if_none Comes
    write_static_comes (target.ApiMethod index) = if_none Comes
    write_static_comes (target.Builtin index) = if_none Comes
    write_static_comes (target.Method class method) = if_none Comes
    write_static_comes (target.ApiField index) = if_none Comes
    write_static_comes (target.ClassName name) = if_none Comes
    write_static_comes (target.Number n) = if_none Comes
    write_static_comes (target.Literal index) = if_none Comes

    cast_or : (b : Bool) → Comes (cond b (Ok (world, items)) (Err bad_cast))
    cast_or true = was
    cast_or false = bad_cast_named

    cast_comes : (name : Name) → ComesIf (casts program world name items)
    cast_comes name = if_mapped Comes _ (operand_of kinds.Reference items 0) (λ v e. cast_or (is_cast program world.heap v name))

    pub operation_named : (what : Heap) (ref : Target) → ((name : Name) → name_named ref ≡ Some name → IsNamed name) → ComesIf (heap_result program world what ref items)
    operation_named heap.Constant ref names = if_mapped Comes _ (constant_value program ref) (λ v e. was)
    operation_named (heap.ReadItem item) ref names = read_item_comes item
    operation_named (heap.WriteItem item) ref names = write_item_comes item
    operation_named (heap.Divide remainder) ref names = divides_comes remainder
    operation_named heap.ReadStatic ref names = read_static_comes ref
    operation_named heap.WriteStatic ref names = write_static_comes ref
    operation_named heap.ReadField ref names = read_field_comes ref
    operation_named heap.WriteField ref names = write_field_comes ref
    operation_named heap.New ref names = if_then Comes _ (name_named ref) (λ name e. if_some Comes _ (one_more (new_of program name) (names name e)))
    operation_named (heap.NewArray kind) ref names = array_made_comes (array_named kind) (kind_named kind)
    operation_named heap.NewArrayOf ref names = if_then Comes _ (name_named ref) (λ name e. array_made_comes (array_of name) (array_of_named name (names name e)))
    operation_named heap.Length ref names = length_comes
    operation_named heap.Cast ref names = if_then Comes _ (name_named ref) (λ name e. cast_comes name)
    operation_named heap.IsInstance ref names =
        if_then Comes _ (name_named ref)
        (λ name e. if_mapped Comes _ (operand_of kinds.Reference items 0) (λ v f. was))
    operation_named (heap.Call how) ref names = if_none Comes
    operation_named heap.Throw ref names = if_none Comes
    operation_named heap.Enter ref names = if_none Comes
    operation_named heap.Exit ref names = if_none Comes
    operation_named (heap.Return kind) ref names = if_none Comes
