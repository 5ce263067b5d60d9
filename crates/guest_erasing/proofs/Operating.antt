-- Instructions that work on the heap or on static fields come to the same in both programs.
use Rattle.std.proofs.Common.{◌≡◌, ℕ, ℤ, ◌<◌, Bool, true, false, cond, List, ◌∷◌, length, replicate, drop, Option, Some, None, Result, Ok, Err, refl, sym, ap, ◌∙◌, subst, arith}
use Rattle.std.specs.Prelude.{pos, negsuc, codes, nat_lt, slice_get, slice_set, option_map, option_and_then}
use Rattle.std.specs.List.{AllByRecursion}
use Rattle.std.specs.Ordering.{int_eq}
use Rattle.std.specs.Option.{option_map_or}
use Rattle.insn_codec.specs.declared.shape.Heap.{Heap}
use Rattle.insn_codec.specs.declared.shape.Heap.TheVariants as heap
use Rattle.insn_codec.specs.declared.shape.Item.{Item}
use Rattle.insn_codec.specs.declared.shape.ValueKind.TheVariants as kinds
use Rattle.api_listing.specs.declared.types.Listing.{Listing}
use Rattle.bytecode_model.specs.declared.program.Method.{Method}
use Rattle.bytecode_model.specs.declared.program.Program.{Program}
use Rattle.bytecode_model.specs.declared.program.Target.{Target}
use Rattle.bytecode_model.specs.declared.program.Target.TheVariants as target
use Rattle.bytecode_model.specs.Arrays.{array_of}
use Rattle.bytecode_model.specs.Assigning.{reference_of}
use Rattle.bytecode_model.specs.Makes.{array_named}
use Rattle.bytecode_model.specs.SearchOrder.{Name}
use Rattle.guest_heap.specs.declared.object.Object.{Object}
use Rattle.guest_heap.specs.declared.object.Object.TheVariants as objects
use Rattle.guest_heap.specs.declared.value.Value.{Value}
use Rattle.guest_heap.specs.declared.value.Value.TheVariants as values
use Rattle.guest_heap.specs.Heap.{places_of, with_value_at}
use Rattle.guest_model.specs.Changes.{World, with_heap, with_object, with_statics}
use Rattle.guest_model.specs.HeapOperations.{ArrayAt, HeapResult, array_in, array_made, bad_cast, bad_division, bad_item, bad_place, bad_size, casts, divided, divides, has_items, heap_result, is_cast, item_kind, item_read, item_written, kept, length_told, makes_array, makes_object, may_hold, name_named, number_operand, on_array, on_items, on_object, operand_of, place_among, place_named, quotient, reads_field, reads_item, reads_static, static_written, tells_instance, truth, writes_field, writes_item, writes_static}
use Rattle.guest_model.specs.Kinds.{class_of_object, class_of_value, is_instance, is_kind_of}
use Rattle.guest_model.specs.Layout.{first_value, new_of}
use Rattle.guest_model.specs.Parts.{constant_value, null_pointer}
use Rattle.guest_model.proofs.Options.{all_get, map_of}
use Rattle.guest_erasing.specs.Laid.{IsClientName, TellAlike}
use Rattle.guest_erasing.specs.Places.{Sites}
use Rattle.guest_erasing.specs.Steps.{NamesNoState}
use Rattle.guest_erasing.proofs.Alike.{Alike, alike_map, alike_none, like_if, alike_some, alike_then, alike_told, same_if, same_map, same_or, same_then}
use Rattle.guest_erasing.proofs.Lists.{get_taken, get_within}
use Rattle.guest_erasing.proofs.Worlds.{Goes, with_heap_goes, with_object_goes, with_static_goes}

-- ---- classes of objects

abbrev pub AreClients : List Object → Type 0
AreClients heap = AllByRecursion (λ (o : Object). IsClientName (class_of_object o)) heap

pub class_is_client : (heap : List Object) → AreClients heap → (v : Value) (class : Name) → class_of_value heap v ≡ Some class
    → IsClientName class
class_is_client heap all (values.Int n) class e = absurd cc
class_is_client heap all values.Null class e = absurd cc
class_is_client heap all (values.Ref at) class e =
    let m = map_of class_of_object (slice_get heap at) class e in
    subst IsClientName m.2 (all_get (λ (o : Object). IsClientName (class_of_object o)) heap at m.0 all m.1)
class_is_client heap all (values.Class index) class e = let same : codes "java/lang/Class" ≡ class = cc in subst IsClientName same refl
class_is_client heap all (values.Lit index) class e = let same : codes "java/lang/String" ≡ class = cc in subst IsClientName same refl

-- Both go on, with the same operands, or both throw an object of a class of the client.
abbrev pub ResultAlike : Program → World → Result (World × List Value) Name → Result (World × List Value) Name → Type 0
ResultAlike client before (Ok made) (Ok more) = Goes client before made.0 more.0 × (more.1 ≡ made.1)
ResultAlike client before (Ok made) (Err d) = ⊥
ResultAlike client before (Err c) (Ok more) = ⊥
ResultAlike client before (Err c) (Err d) = (d ≡ c) × IsClientName c

module _ (sites_of : Method → Sites) (client woven : Program) (tell : TellAlike sites_of client woven) where
  kind_by : (o : Option Name) (name : Name) → ((class : Name) → o ≡ Some class → IsClientName class)
      → option_map_or (λ class. is_kind_of woven class name) o false ≡ option_map_or (λ class. is_kind_of client class name) o false
  kind_by None name own = refl
  kind_by (Some class) name own = tell.kinds class name (own class refl)

  pub instance_alike : (objects : List Object) → AreClients objects → (v : Value) (name : Name)
      → is_instance woven objects v name ≡ is_instance client objects v name
  instance_alike objects all v name = kind_by (class_of_value objects v) name (class_is_client objects all v)

  module _ (before world other : World) (g : Goes client before world other) (all : AreClients world.heap) where
    abbrev Comes : Result (World × List Value) Name → Result (World × List Value) Name → Type 0
    Comes = ResultAlike client before

    abbrev pub Results : HeapResult → HeapResult → Type 0
    Results = Alike Comes

    goes_on : (new more : World) → Goes client before new more → (items : List Value)
        → Results (Some (Ok (new, items))) (Some (Ok (more, items)))
    goes_on new more h items = alike_some Comes _ _ (h, refl)

    stays : (items : List Value) → Results (Some (Ok (world, items))) (Some (Ok (other, items)))
    stays items = goes_on world other g items

    fails : (class : Name) → IsClientName class → Results (Some (Err class)) (Some (Err class))
    fails class own = alike_some Comes _ _ (refl, own)

    none : (p : HeapResult) → Results None p
    none p = alike_none Comes p

    -- ---- division

    divided_alike : (remainder : Bool) (x y : ℤ) (items : List Value)
        → Results (divided world remainder x y items) (divided other remainder x y items)
    divided_alike remainder x y items =
        same_if Comes (int_eq y (pos 0)) _ _ _ _ (λ e. fails bad_division refl) (λ e. stays (values.Int (quotient remainder x y) ∷ items))

    divides_alike : (remainder : Bool) (items : List Value) → Results (divides world remainder items) (divides other remainder items)
    divides_alike remainder items =
        same_then Comes _ _ (number_operand items 0)
        (λ y e. same_then Comes _ _ (number_operand items 1) (λ x f. divided_alike remainder x y (drop 2 items)))

    -- ---- arrays

    array_same : (f h : ArrayAt → HeapResult) → ((a : ArrayAt) → Results (f a) (h a)) → (v : Value)
        → Results (on_array world.heap v f) (on_array world.heap v h)
    array_same f h each (values.Int n) = none None
    array_same f h each values.Null = fails null_pointer refl
    array_same f h each (values.Ref at) =
        same_then Comes _ _ (slice_get world.heap at) (λ object e. same_then Comes f h (array_in at object) (λ a k. each a))
    array_same f h each (values.Class index) = none None
    array_same f h each (values.Lit index) = none None

    array_alike : (f h : ArrayAt → HeapResult) → ((a : ArrayAt) → Results (f a) (h a)) → (v : Value)
        → Results (on_array world.heap v f) (on_array other.heap v h)
    array_alike f h each v = subst (λ (heap : List Object). Results (on_array world.heap v f) (on_array heap v h)) (sym g.mirrors.heap)
        (array_same f h each v)

    items_alike : (item : Item) (f h : ArrayAt → HeapResult) → ((a : ArrayAt) → Results (f a) (h a)) → (v : Value)
        → Results (on_items item world.heap v f) (on_items item other.heap v h)
    items_alike item f h each v = array_alike _ _ (λ a. same_if Comes (has_items item a.desc) _ _ _ _ (λ e. each a) (λ e. none None)) v

    read_alike : (a : ArrayAt) (index : ℤ) (items : List Value) → Results (item_read world a index items) (item_read other a index items)
    read_alike a index items =
        same_or Comes _ _ (option_and_then (slice_get a.items) (place_among (length a.items) index)) _ _ (λ e. fails bad_place refl)
        (λ v e. stays (v ∷ items))

    reads_alike : (item : Item) (operands : List Value) → Results (reads_item item world operands) (reads_item item other operands)
    reads_alike item operands =
        same_then Comes _ _ (number_operand operands 0) (λ index e. same_then Comes _ _ (slice_get operands 1)
        (λ array f. items_alike item _ _ (λ a. read_alike a index (drop 2 operands)) array))

    holds_by : (o : Option Name) (v : Value)
        → option_map_or (is_instance woven world.heap v) o false ≡ option_map_or (is_instance client world.heap v) o false
    holds_by None v = refl
    holds_by (Some name) v = instance_alike world.heap all v name

    may_alike : (desc : Name) (v : Value) → may_hold woven world.heap desc v ≡ may_hold client world.heap desc v
    may_alike desc values.Null = refl
    may_alike desc (values.Int n) = refl
    may_alike desc (values.Ref at) = holds_by (reference_of (drop 1 desc)) (values.Ref at)
    may_alike desc (values.Class index) = holds_by (reference_of (drop 1 desc)) (values.Class index)
    may_alike desc (values.Lit index) = holds_by (reference_of (drop 1 desc)) (values.Lit index)

    written_alike : (a : ArrayAt) (place : ℕ) (value : Value) (items : List Value)
        → Results (item_written client world a place value items) (item_written woven other a place value items)
    written_alike a place value items =
        like_if Comes (may_hold client world.heap a.desc value) (may_hold woven other.heap a.desc value) _ _ _ _
        (ap (λ (h : List Object). may_hold woven h a.desc value) g.mirrors.heap ∙ may_alike a.desc value)
        (λ e. goes_on _ _ (with_heap_goes client before world other g (with_value_at world.heap a.at place (kept a.desc value))
        (with_value_at other.heap a.at place (kept a.desc value))
        (ap (λ (h : List Object). with_value_at h a.at place (kept a.desc value)) g.mirrors.heap)) items)
        (λ e. fails bad_item refl)

    writes_alike : (item : Item) (operands : List Value)
        → Results (writes_item item client world operands) (writes_item item woven other operands)
    writes_alike item operands =
        same_then Comes _ _ (operand_of (item_kind item) operands 0) (λ value e. same_then Comes _ _ (number_operand operands 1)
        (λ index f. same_then Comes _ _ (slice_get operands 2)
        (λ array h. items_alike item _ _
        (λ a. same_or Comes _ _ (place_among (length a.items) index) _ _ (λ k. fails bad_place refl)
        (λ place k. written_alike a place value (drop 3 operands))) array)))

    told_alike : (items : List Value) → Results (length_told world items) (length_told other items)
    told_alike items =
        same_then Comes _ _ (slice_get items 0)
        (λ array e. array_alike _ _ (λ a. stays (values.Int (pos (length a.items)) ∷ drop 1 items)) array)

    -- a new object, and the reference to it
    new_alike : (object : Object) (items : List Value)
        → Results (Some (Ok (with_object world object, values.Ref (length world.heap) ∷ items)))
        (Some (Ok (with_object other object, values.Ref (length other.heap) ∷ items)))
    new_alike object items =
        alike_some Comes _ _ (
          with_object_goes client before world other g object,
          ap
              (λ (h : List Object). values.Ref (length h) ∷ items) g.mirrors.heap,
        )

    made_alike : (desc : Name) (n : ℤ) (items : List Value) → Results (array_made world desc n items) (array_made other desc n items)
    made_alike desc (pos n) items = new_alike (objects.Array desc (replicate n (first_value (drop 1 desc)))) items
    made_alike desc (negsuc n) items = fails bad_size refl

    makes_alike : (desc : Name) (items : List Value) → Results (makes_array world desc items) (makes_array other desc items)
    makes_alike desc items = same_then Comes _ _ (number_operand items 0) (λ n e. made_alike desc n (drop 1 items))

    -- ---- fields

    object_same : (f h : ℕ → List Value → HeapResult) → ((at : ℕ) (fields : List Value) → Results (f at fields) (h at fields)) → (v : Value)
        → Results (on_object world.heap v f) (on_object world.heap v h)
    object_same f h each (values.Int n) = none None
    object_same f h each values.Null = fails null_pointer refl
    object_same f h each (values.Ref at) = same_then Comes _ _ (slice_get world.heap at) (λ object e. each at (places_of object))
    object_same f h each (values.Class index) = none None
    object_same f h each (values.Lit index) = none None

    object_alike : (f h : ℕ → List Value → HeapResult) → ((at : ℕ) (fields : List Value) → Results (f at fields) (h at fields))
        → (v : Value)
        → Results (on_object world.heap v f) (on_object other.heap v h)
    object_alike f h each v = subst (λ (heap : List Object). Results (on_object world.heap v f) (on_object heap v h)) (sym g.mirrors.heap)
        (object_same f h each v)

    abbrev Same : ℕ → ℕ → Type 0
    Same m n = m ≡ n

    place_alike : (ref : Target) → Alike Same (place_named client ref) (place_named woven ref)
    place_alike ref = alike_told Same _ _ (λ place e. (place, tell.places ref place e, refl))

    field_read : (place : ℕ) (items : List Value)
        → Results (option_and_then
        (λ (object : Value). on_object world.heap object
        (λ at fields. option_map (λ (v : Value). Ok (world, v ∷ drop 1 items)) (slice_get fields place))) (slice_get items 0))
        (option_and_then (λ (object : Value). on_object other.heap object
        (λ at fields. option_map (λ (v : Value). Ok (other, v ∷ drop 1 items)) (slice_get fields place))) (slice_get items 0))
    field_read place items =
        same_then Comes _ _ (slice_get items 0)
        (λ object e. object_alike _ _ (λ at fields. same_map Comes _ _ (slice_get fields place) (λ v f. (g, refl))) object)

    reads_field_alike : (ref : Target) (items : List Value)
        → Results (reads_field client world ref items) (reads_field woven other ref items)
    reads_field_alike ref items =
        alike_then Same Comes _ _ _ _ (place_alike ref)
        (λ place more e f same. subst (λ (p : ℕ). Results
        (option_and_then (λ (object : Value). on_object world.heap object
        (λ at fields. option_map (λ (v : Value). Ok (world, v ∷ drop 1 items)) (slice_get fields place))) (slice_get items 0))
        (option_and_then (λ (object : Value). on_object other.heap object
        (λ at fields. option_map (λ (v : Value). Ok (other, v ∷ drop 1 items)) (slice_get fields p))) (slice_get items 0))) same
        (field_read place items))

    abbrev written_at : World → ℕ → List Value → HeapResult
    written_at w place items =
        option_and_then (λ (value : Value). option_and_then (λ (object : Value).
        on_object w.heap object
        (λ at fields. option_map (λ (old : Value). Ok (with_heap w (with_value_at w.heap at place value), drop 2 items))
        (slice_get fields place)))
        (slice_get items 1)) (slice_get items 0)

    field_written : (place : ℕ) (items : List Value) → Results (written_at world place items) (written_at other place items)
    field_written place items =
        same_then Comes _ _ (slice_get items 0) (λ value e. same_then Comes _ _ (slice_get items 1)
        (λ object f. object_alike _ _ (λ at fields. same_map Comes _ _ (slice_get fields place)
        (λ old h. (
          with_heap_goes client before world other g (with_value_at world.heap at place value)
              (with_value_at other.heap at place value)
              (ap (λ (heap : List Object). with_value_at heap at place value) g.mirrors.heap),
          refl,
        ))) object))

    writes_field_alike : (ref : Target) (items : List Value)
        → Results (writes_field client world ref items) (writes_field woven other ref items)
    writes_field_alike ref items =
        alike_then Same Comes _ _ _ _ (place_alike ref)
        (λ place more e f same. subst (λ (p : ℕ). Results (written_at world place items) (written_at other p items)) same
        (field_written place items))

    -- ---- static fields

    abbrev SameFields : List Value → List Value → Type 0
    SameFields f h = f ≡ h

    statics_alike : (class : ℕ) → Alike SameFields (slice_get world.statics class) (slice_get other.statics class)
    statics_alike class =
        alike_told SameFields _ _ (λ fields e. (
          fields,
          get_taken (length client.classes) other.statics class fields
              (ap (λ (s : List (List Value)). slice_get s class) g.mirrors.statics ∙ e),
          refl,
        ))

    static_within : (class : ℕ) (fields : List Value) → slice_get world.statics class ≡ Some fields → class < length client.classes
    static_within class fields e =
        let l : class < length world.statics = get_within world.statics class fields e in
        let m : length world.statics ≡ length client.classes = g.mirrors.classes in omega arith

    abbrev SameValue : Value → Value → Type 0
    SameValue v w = v ≡ w

    static_read : (class field : ℕ)
        → Alike SameValue (option_and_then (λ (fields : List Value). slice_get fields field) (slice_get world.statics class))
        (option_and_then (λ (fields : List Value). slice_get fields field) (slice_get other.statics class))
    static_read class field =
        alike_then SameFields SameValue _ _ _ _ (statics_alike class)
        (λ fields more e f same. subst (λ (zs : List Value). Alike SameValue (slice_get fields field) (slice_get zs field)) same
        (alike_told SameValue _ _ (λ v h. (v, h, refl))))

    reads_static_alike : (ref : Target) (items : List Value)
        → Results (reads_static client world ref items) (reads_static woven other ref items)
    reads_static_alike (target.ApiField index) items =
        like_if Comes (nat_lt index (length client.listing.fields)) (nat_lt index (length woven.listing.fields)) _ _ _ _
        (ap (λ (l : Listing). nat_lt index (length l.fields)) tell.listing) (λ e. stays (values.Ref index ∷ items)) (λ e. none None)
    reads_static_alike (target.Field class field) items =
        alike_map SameValue Comes _ _ _ _ (static_read class field) (λ v w e f same. (g, ap (λ (x : Value). x ∷ items) (sym same)))
    reads_static_alike target.None items = none None
    reads_static_alike (target.ApiMethod index) items = none None
    reads_static_alike (target.Builtin index) items = none None
    reads_static_alike (target.Method class method) items = none None
    reads_static_alike (target.ClassName name) items = none None
    reads_static_alike (target.Number n) items = none None
    reads_static_alike (target.Literal index) items = none None

    set_alike : (class field : ℕ) (value : Value)
        → Alike (Goes client before) (static_written world class field value) (static_written other class field value)
    set_alike class field value =
        alike_then SameFields (Goes client before) _ _ _ _ (statics_alike class)
        (λ fields more e f same. subst (λ (zs : List Value). Alike (Goes client before)
        (option_and_then (λ (old : Value). Some (with_statics world (slice_set world.statics class (slice_set fields field value))))
        (slice_get fields field))
        (option_and_then (λ (old : Value). Some (with_statics other (slice_set other.statics class (slice_set zs field value))))
        (slice_get zs field))) same
        (same_then (Goes client before) _ _ (slice_get fields field)
        (λ old h. alike_some (Goes client before) _ _
        (with_static_goes client before world other g class (slice_set fields field value) (static_within class fields e)))))

    writes_static_alike : (ref : Target) (items : List Value) → Results (writes_static world ref items) (writes_static other ref items)
    writes_static_alike (target.Field class field) items =
        same_then Comes _ _ (slice_get items 0)
        (λ value e. alike_map (Goes client before) Comes _ _ _ _ (set_alike class field value) (λ new more f h goes. (goes, refl)))
    writes_static_alike target.None items = none None
    writes_static_alike (target.ApiMethod index) items = none None
    writes_static_alike (target.Builtin index) items = none None
    writes_static_alike (target.Method class method) items = none None
    writes_static_alike (target.ApiField index) items = none None
    writes_static_alike (target.ClassName name) items = none None
    writes_static_alike (target.Number n) items = none None
    writes_static_alike (target.Literal index) items = none None

    -- ---- classes

    constant_alike : (ref : Target) → NamesNoState ref → constant_value woven ref ≡ constant_value client ref
    constant_alike (target.Number n) own = refl
    constant_alike (target.Literal index) own = refl
    constant_alike (target.ClassName name) own = ap (option_map values.Class) (tell.indices name own)
    constant_alike target.None own = refl
    constant_alike (target.ApiMethod index) own = refl
    constant_alike (target.Builtin index) own = refl
    constant_alike (target.Method class method) own = refl
    constant_alike (target.Field class field) own = refl
    constant_alike (target.ApiField index) own = refl

    named_own : (ref : Target) → NamesNoState ref → (name : Name) → name_named ref ≡ Some name → IsClientName name
    named_own (target.ClassName class) own name e = let same : class ≡ name = cc in subst IsClientName same own
    named_own (target.Number n) own name e = absurd cc
    named_own (target.Literal index) own name e = absurd cc
    named_own target.None own name e = absurd cc
    named_own (target.ApiMethod index) own name e = absurd cc
    named_own (target.Builtin index) own name e = absurd cc
    named_own (target.Method class method) own name e = absurd cc
    named_own (target.Field class field) own name e = absurd cc
    named_own (target.ApiField index) own name e = absurd cc

    object_made : (name : Name) (items : List Value) → IsClientName name
        → Results (makes_object client world name items) (makes_object woven other name items)
    object_made name items own = rw (tell.fields name own) (new_alike (new_of client name) items)

    cast_alike : (v : Value) (name : Name) → is_cast woven world.heap v name ≡ is_cast client world.heap v name
    cast_alike values.Null name = refl
    cast_alike (values.Int n) name = refl
    cast_alike (values.Ref at) name = instance_alike world.heap all (values.Ref at) name
    cast_alike (values.Class index) name = instance_alike world.heap all (values.Class index) name
    cast_alike (values.Lit index) name = instance_alike world.heap all (values.Lit index) name

    cast_by : (b c : Bool) (items : List Value) → c ≡ b
        → Comes (cond b (Ok (world, items)) (Err bad_cast)) (cond c (Ok (other, items)) (Err bad_cast))
    cast_by true true items e = (g, refl)
    cast_by true false items e = absurd cc
    cast_by false true items e = absurd cc
    cast_by false false items e = (refl, refl)

    casts_alike : (name : Name) (items : List Value) → Results (casts client world name items) (casts woven other name items)
    casts_alike name items =
        same_map Comes _ _ (operand_of kinds.Reference items 0)
        (λ v e. cast_by (is_cast client world.heap v name) (is_cast woven other.heap v name) items
        (ap (λ (h : List Object). is_cast woven h v name) g.mirrors.heap ∙ cast_alike v name))

    tells_alike : (name : Name) (items : List Value)
        → Results (tells_instance client world name items) (tells_instance woven other name items)
    tells_alike name items =
        same_map Comes _ _ (operand_of kinds.Reference items 0)
        (λ v e. (
          g,
          ap (λ (h : List Object). truth (is_instance woven h v name) ∷ drop 1 items) g.mirrors.heap
              ∙ ap (λ (b : Bool). truth b ∷ drop 1 items) (instance_alike world.heap all v name),
        ))

    -- ---- the rows

    pub result_alike : (what : Heap) (ref : Target) (items : List Value) → NamesNoState ref
        → Results (heap_result client world what ref items) (heap_result woven other what ref items)
    result_alike heap.Constant ref items own =
        rw (constant_alike ref own) (same_map Comes _ _ (constant_value client ref) (λ v e. (g, refl)))
    result_alike (heap.ReadItem item) ref items own = reads_alike item items
    result_alike (heap.WriteItem item) ref items own = writes_alike item items
    result_alike (heap.Divide remainder) ref items own = divides_alike remainder items
    result_alike heap.ReadStatic ref items own = reads_static_alike ref items
    result_alike heap.WriteStatic ref items own = writes_static_alike ref items
    result_alike heap.ReadField ref items own = reads_field_alike ref items
    result_alike heap.WriteField ref items own = writes_field_alike ref items
    result_alike heap.New ref items own = same_then Comes _ _ (name_named ref) (λ name e. object_made name items (named_own ref own name e))
    result_alike (heap.NewArray kind) ref items own = makes_alike (array_named kind) items
    result_alike heap.NewArrayOf ref items own = same_then Comes _ _ (name_named ref) (λ name e. makes_alike (array_of name) items)
    result_alike heap.Length ref items own = told_alike items
    result_alike heap.Cast ref items own = same_then Comes _ _ (name_named ref) (λ name e. casts_alike name items)
    result_alike heap.IsInstance ref items own = same_then Comes _ _ (name_named ref) (λ name e. tells_alike name items)
    result_alike (heap.Call how) ref items own = none None
    result_alike heap.Throw ref items own = none None
    result_alike heap.Enter ref items own = none None
    result_alike heap.Exit ref items own = none None
    result_alike (heap.Return kind) ref items own = none None
