-- How many operands instructions leave.
use Rattle.std.proofs.Common.{ℕ, ℤ, pos, negsuc, Bool, true, false, cond, List, [], ◌∷◌, length, Option, Some, None, Result, refl, arith}
use Rattle.std.specs.Prelude.{slice_get, option_map, option_and_then, nat_lt}
use Rattle.std.specs.Option.{option_map_or}
use Rattle.std.specs.Ordering.{int_eq}
use Rattle.insn_codec.specs.declared.shape.Heap.TheVariants as heap
use Rattle.insn_codec.specs.declared.shape.Item.{Item}
use Rattle.insn_codec.specs.declared.shape.ValueKind.TheVariants as kinds
use Rattle.bytecode_model.specs.declared.program.Program.{Program}
use Rattle.bytecode_model.specs.declared.program.Target.{Target}
use Rattle.bytecode_model.specs.declared.program.Target.TheVariants as target
use Rattle.bytecode_model.specs.Arrays.{array_of}
use Rattle.bytecode_model.specs.Makes.{array_named}
use Rattle.bytecode_model.specs.SearchOrder.{Name}
use Rattle.guest_heap.specs.declared.object.Object.{Object}
use Rattle.guest_heap.specs.declared.value.Value.{Value}
use Rattle.guest_heap.specs.declared.value.Value.TheVariants as values
use Rattle.guest_heap.specs.Heap.{places_of}
use Rattle.guest_model.specs.Parts.{constant_value, number_in}
use Rattle.guest_model.specs.Changes.{World}
use Rattle.guest_model.specs.Moving.{Leaves, LeavesAsMany}
use Rattle.guest_model.specs.HeapOperations.{
  ArrayAt,
  HeapResult,
  array_in,
  array_made,
  casts,
  divides,
  has_items,
  is_cast,
  item_kind,
  length_told,
  makes_array,
  may_hold,
  name_named,
  on_array,
  on_items,
  on_object,
  operand_of,
  place_among,
  place_named,
  reads_field,
  reads_item,
  reads_static,
  static_written,
  tells_instance,
  writes_field,
  writes_item,
  writes_static,
}

module _ (t p n : ℕ) where
  leaves_then : {A : Type 0} (f : A → HeapResult) (o : Option A) → ((x : A) → Leaves t p n (f x)) → Leaves t p n (option_and_then f o)
  leaves_then f None each = tt
  leaves_then f (Some x) each = each x

  leaves_map : {A : Type 0} (f : A → Result (World × List Value) Name) (o : Option A) → ((x : A) → Leaves t p n (Some (f x)))
      → Leaves t p n (option_map f o)
  leaves_map f None each = tt
  leaves_map f (Some x) each = each x

  leaves_map_or : {A : Type 0} (f : A → HeapResult) (o : Option A) (other : HeapResult) → ((x : A) → Leaves t p n (f x)) → Leaves t p n other
      → Leaves t p n (option_map_or f o other)
  leaves_map_or f None other each h = h
  leaves_map_or f (Some x) other each h = each x

  leaves_either : (b : Bool) (o q : HeapResult) → Leaves t p n o → Leaves t p n q → Leaves t p n (cond b o q)
  leaves_either true o q h k = h
  leaves_either false o q h k = k

  leaves_either_ok : (b : Bool) (r q : Result (World × List Value) Name) → Leaves t p n (Some r) → Leaves t p n (Some q)
      → Leaves t p n (Some (cond b r q))
  leaves_either_ok true r q h k = h
  leaves_either_ok false r q h k = k

  leaves_array : (heap : List Object) (v : Value) (f : ArrayAt → HeapResult) → ((a : ArrayAt) → Leaves t p n (f a))
      → Leaves t p n (on_array heap v f)
  leaves_array heap (values.Int m) f each = tt
  leaves_array heap values.Null f each = tt
  leaves_array heap (values.Ref at) f each = leaves_then _ (slice_get heap at) (λ object. leaves_then f (array_in at object) each)
  leaves_array heap (values.Class index) f each = tt
  leaves_array heap (values.Lit index) f each = tt

  leaves_items : (item : Item) (heap : List Object) (v : Value) (f : ArrayAt → HeapResult) → ((a : ArrayAt) → Leaves t p n (f a))
      → Leaves t p n (on_items item heap v f)
  leaves_items item heap v f each = leaves_array heap v _ (λ a. leaves_either (has_items item a.desc) (f a) None (each a) tt)

  leaves_object : (heap : List Object) (v : Value) (f : ℕ → List Value → HeapResult)
      → ((at : ℕ) (fields : List Value) → Leaves t p n (f at fields)) → Leaves t p n (on_object heap v f)
  leaves_object heap (values.Int m) f each = tt
  leaves_object heap values.Null f each = tt
  leaves_object heap (values.Ref at) f each = leaves_then _ (slice_get heap at) (λ object. each at (places_of object))
  leaves_object heap (values.Class index) f each = tt
  leaves_object heap (values.Lit index) f each = tt

module _ (program : Program) (world : World) where
  divide_leaves : (remainder : Bool) (items : List Value) → Leaves 2 1 (length items) (divides world remainder items)
  divide_leaves remainder [] = tt
  divide_leaves remainder (v ∷ []) = leaves_then 2 1 (length (v ∷ [])) _ (number_in v) (λ y. tt)
  divide_leaves remainder (v ∷ w ∷ below) =
      leaves_then 2 1 _ _ (number_in v)
      (λ y. leaves_then 2 1 _ _ (number_in w) (λ x. leaves_either 2 1 _ (int_eq y (pos 0)) _ _ tt (omega arith)))

  read_item_leaves : (item : Item) (items : List Value) → Leaves 2 1 (length items) (reads_item item world items)
  read_item_leaves item [] = tt
  read_item_leaves item (v ∷ []) = leaves_then 2 1 (length (v ∷ [])) _ (number_in v) (λ i. tt)
  read_item_leaves item (v ∷ w ∷ below) =
      leaves_then 2 1 _ _ (number_in v)
      (λ i. leaves_items 2 1 _ item world.heap w _
      (λ a. leaves_map_or 2 1 _ _ (option_and_then (slice_get a.items) (place_among (length a.items) i)) _ (λ x. omega arith) tt))

  write_item_leaves : (item : Item) (items : List Value) → Leaves 3 0 (length items) (writes_item item program world items)
  write_item_leaves item [] = tt
  write_item_leaves item (v ∷ []) = leaves_then 3 0 (length (v ∷ [])) _ (operand_of (item_kind item) (v ∷ []) 0) (λ value. tt)
  write_item_leaves item (v ∷ w ∷ []) =
      leaves_then 3 0 (length (v ∷ w ∷ [])) _ (operand_of (item_kind item) (v ∷ w ∷ []) 0)
      (λ value. leaves_then 3 0 (length (v ∷ w ∷ [])) _ (number_in w) (λ i. tt))
  write_item_leaves item (v ∷ w ∷ u ∷ below) =
      leaves_then 3 0 _ _ (operand_of (item_kind item) (v ∷ w ∷ u ∷ below) 0)
      (λ value. leaves_then 3 0 _ _ (number_in w)
      (λ i. leaves_items 3 0 _ item world.heap u _
      (λ a. leaves_map_or 3 0 _ _ (place_among (length a.items) i) _
      (λ place. leaves_either 3 0 _ (may_hold program world.heap a.desc value) _ _ (omega arith) tt) tt)))

  length_leaves : (items : List Value) → Leaves 1 1 (length items) (length_told world items)
  length_leaves [] = tt
  length_leaves (v ∷ below) = leaves_array 1 1 _ world.heap v _ (λ a. omega arith)

  made_leaves : (desc : Name) (m : ℤ) (v : Value) (below : List Value) → Leaves 1 1 (length (v ∷ below)) (array_made world desc m below)
  made_leaves desc (pos m) v below = omega arith
  made_leaves desc (negsuc m) v below = tt

  new_array_leaves : (desc : Name) (items : List Value) → Leaves 1 1 (length items) (makes_array world desc items)
  new_array_leaves desc [] = tt
  new_array_leaves desc (v ∷ below) = leaves_then 1 1 _ _ (number_in v) (λ m. made_leaves desc m v below)

  read_field_leaves : (ref : Target) (items : List Value) → Leaves 1 1 (length items) (reads_field program world ref items)
  read_field_leaves ref [] = leaves_then 1 1 0 _ (place_named program ref) (λ place. tt)
  read_field_leaves ref (v ∷ below) =
      leaves_then 1 1 _ _ (place_named program ref)
      (λ place. leaves_object 1 1 _ world.heap v _ (λ at fields. leaves_map 1 1 _ _ (slice_get fields place) (λ x. omega arith)))

  write_field_leaves : (ref : Target) (items : List Value) → Leaves 2 0 (length items) (writes_field program world ref items)
  write_field_leaves ref [] = leaves_then 2 0 0 _ (place_named program ref) (λ place. tt)
  write_field_leaves ref (v ∷ []) = leaves_then 2 0 (length (v ∷ [])) _ (place_named program ref) (λ place. tt)
  write_field_leaves ref (v ∷ w ∷ below) =
      leaves_then 2 0 _ _ (place_named program ref)
      (λ place. leaves_object 2 0 _ world.heap w _ (λ at fields. leaves_map 2 0 _ _ (slice_get fields place) (λ x. omega arith)))

  read_static_leaves : (ref : Target) (items : List Value) → Leaves 0 1 (length items) (reads_static program world ref items)
  read_static_leaves (target.ApiField index) items = leaves_either 0 1 _ (nat_lt index (length program.listing.fields)) _ _ (omega arith) tt
  read_static_leaves (target.Field class field) items =
      leaves_map 0 1 _ _ (option_and_then (λ (fields : List Value). slice_get fields field) (slice_get world.statics class))
      (λ x. omega arith)
  read_static_leaves target.None items = tt
  read_static_leaves (target.ApiMethod index) items = tt
  read_static_leaves (target.Builtin index) items = tt
  read_static_leaves (target.Method class method) items = tt
  read_static_leaves (target.ClassName name) items = tt
  read_static_leaves (target.Number m) items = tt
  read_static_leaves (target.Literal index) items = tt

  write_static_leaves : (ref : Target) (items : List Value) → Leaves 1 0 (length items) (writes_static world ref items)
  write_static_leaves (target.Field class field) [] = tt
  write_static_leaves (target.Field class field) (v ∷ below) = leaves_map 1 0 _ _ (static_written world class field v) (λ w. omega arith)
  write_static_leaves target.None items = tt
  write_static_leaves (target.ApiMethod index) items = tt
  write_static_leaves (target.Builtin index) items = tt
  write_static_leaves (target.Method class method) items = tt
  write_static_leaves (target.ApiField index) items = tt
  write_static_leaves (target.ClassName name) items = tt
  write_static_leaves (target.Number m) items = tt
  write_static_leaves (target.Literal index) items = tt

  cast_leaves : (name : Name) (items : List Value) → Leaves 1 1 (length items) (casts program world name items)
  cast_leaves name [] = tt
  cast_leaves name (v ∷ below) =
      leaves_map 1 1 _ _ (operand_of kinds.Reference (v ∷ below) 0)
      (λ value. leaves_either_ok 1 1 _ (is_cast program world.heap value name) _ _ refl tt)

  instance_leaves : (name : Name) (items : List Value) → Leaves 1 1 (length items) (tells_instance program world name items)
  instance_leaves name [] = tt
  instance_leaves name (v ∷ below) = leaves_map 1 1 _ _ (operand_of kinds.Reference (v ∷ below) 0) (λ value. omega arith)

pub leaves_as_many : LeavesAsMany
leaves_as_many program world heap.Constant ref items = leaves_map 0 1 _ _ (constant_value program ref) (λ v. omega arith)
leaves_as_many program world (heap.ReadItem item) ref items = read_item_leaves program world item items
leaves_as_many program world (heap.WriteItem item) ref items = write_item_leaves program world item items
leaves_as_many program world (heap.Divide remainder) ref items = divide_leaves program world remainder items
leaves_as_many program world heap.ReadStatic ref items = read_static_leaves program world ref items
leaves_as_many program world heap.WriteStatic ref items = write_static_leaves program world ref items
leaves_as_many program world heap.ReadField ref items = read_field_leaves program world ref items
leaves_as_many program world heap.WriteField ref items = write_field_leaves program world ref items
leaves_as_many program world heap.New ref items = leaves_then 0 1 _ _ (name_named ref) (λ name. omega arith)
leaves_as_many program world (heap.NewArray kind) ref items = new_array_leaves program world (array_named kind) items
leaves_as_many program world heap.NewArrayOf ref items =
    leaves_then 1 1 _ _ (name_named ref) (λ name. new_array_leaves program world (array_of name) items)
leaves_as_many program world heap.Length ref items = length_leaves program world items
leaves_as_many program world heap.Cast ref items = leaves_then 1 1 _ _ (name_named ref) (λ name. cast_leaves program world name items)
leaves_as_many program world heap.IsInstance ref items =
    leaves_then 1 1 _ _ (name_named ref) (λ name. instance_leaves program world name items)
leaves_as_many program world (heap.Call how) ref items = tt
leaves_as_many program world heap.Throw ref items = tt
leaves_as_many program world heap.Enter ref items = tt
leaves_as_many program world heap.Exit ref items = tt
leaves_as_many program world (heap.Return kind) ref items = tt
