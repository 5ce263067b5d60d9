-- Instructions of a ready frame that work on arrays.
use Rattle.std.proofs.Common.{◌≡◌, ℕ, ℤ, Bool, true, false, cond, List, [], ◌∷◌, length, drop, Option, Some, None, refl, sym, ap, subst, ◌∙◌, inl, inr, arith}
use Rattle.std.specs.Prelude.{IsSomeAnd, pos, codes, slice_get, slice_set, option_and_then, Ok, Err}
use Rattle.std.specs.List.{AllByRecursion}
use Rattle.std.specs.Option.{option_map_or}
use Rattle.std.proofs.lemmas.Bool.{or_cases, or_right, eqb-true}
use Rattle.api_listing.specs.BuiltIn.{object}
use Rattle.cert_format.specs.declared.typing.Typing.{Typing}
use Rattle.cert_format.specs.declared.typing.VType.{VType}
use Rattle.cert_format.specs.declared.typing.VType.TheVariants as types
use Rattle.insn_codec.specs.declared.shape.Heap.{Heap}
use Rattle.insn_codec.specs.declared.shape.Heap.TheVariants as heaps
use Rattle.insn_codec.specs.declared.shape.Item.{Item}
use Rattle.insn_codec.specs.declared.shape.Item.TheVariants as items
use Rattle.insn_codec.specs.declared.shape.Shape.TheVariants as shapes
use Rattle.insn_codec.specs.Following.{Paired}
use Rattle.insn_codec.specs.Shapes.{shape_of}
use Rattle.bytecode_model.specs.declared.program.Program.{Program}
use Rattle.bytecode_model.specs.Arrays.{is_array}
use Rattle.bytecode_model.specs.Assigning.{assignable, class_fits, component_fits, named, reference_of}
use Rattle.bytecode_model.specs.Described.{type_described}
use Rattle.bytecode_model.specs.Makes.{item_type, read_type}
use Rattle.bytecode_model.specs.SearchOrder.{Name}
use Rattle.bytecode_model.specs.Uses.{UsesAreShaped}
use Rattle.bytecode_model.specs.Wants.{is_array_type, is_number as wants_number, is_reference as wants_reference, to_array, to_item}
use Rattle.bytecode_model.proofs.Lists.{all_get}
use Rattle.type_lattice.proofs.Orders.{type_over}
use Rattle.guest_heap.specs.declared.frame.Frame.{Frame}
use Rattle.guest_heap.specs.declared.object.Object.{Object}
use Rattle.guest_heap.specs.declared.object.Object.TheVariants as objects
use Rattle.guest_heap.specs.declared.value.Value.{Value}
use Rattle.guest_heap.specs.declared.value.Value.TheVariants as values
use Rattle.guest_heap.specs.Heap.{with_value_at}
use Rattle.guest_model.proofs.Options.{all_set}
use Rattle.guest_frames.specs.Values.{fits, is_null, is_number, is_reference}
use Rattle.guest_model.specs.Changes.{World, with_heap}
use Rattle.guest_model.specs.Kinds.{is_instance}
use Rattle.guest_model.specs.Moving.{HasItems, IsArray, IsNullOr}
use Rattle.guest_model.specs.HeapOperations.{ArrayAt, HeapResult, bad_item, bad_place, has_items, item_kind, item_read, item_written, kept, kept_number, may_hold, on_array, on_items, place_among}
use Rattle.typed_runs.specs.Fitting.{HeapFits, ObjectFits, StaticsFit, fits_made}
use Rattle.typed_runs.specs.Frames.{IsReady}
use Rattle.typed_runs.specs.Programs.{IsTypedProgram}
use Rattle.typed_runs.proofs.Arrays.{Wanted, ints, references, bytes, truths, chars, shorts, instance_fits, only_arrays, plain_array, reference_described, reference_item, wanted_items}
use Rattle.typed_runs.proofs.Changed.{WorldFits}
use Rattle.typed_runs.proofs.Growing.{all_also, grows_set, heap_set, made_grown, statics_grown}
use Rattle.typed_runs.proofs.Objects.{ArrayOf, an_array, array_of_value, items_over, no_array, null_is}
use Rattle.typed_runs.proofs.Taken.{Three, Two, one_taken, three_taken, two_taken}
use Rattle.typed_runs.proofs.Types.{described_fits, holds_at, type_fits_over, wanted_number, wanted_reference}
use Rattle.typed_runs.proofs.Operates.{WellDone, OperatesOn, fails, here, holds, leaves, met_here, number_value, same_world, split_here, taken_here, under_here}

-- an array of these items is assignable to one of those
over_array : (program : Program) (rest item : List ℕ) → component_fits program rest item ≡ true
    → assignable program (types.Ref (91 ∷ rest)) (types.Ref (91 ∷ item)) ≡ true
over_array program rest item e = or_right (class_fits program (91 ∷ rest) (91 ∷ item)) _ e

module _ (program : Program) (typing : Typing) (ok : IsTypedProgram program typing) (shaped : UsesAreShaped) (world : World)
    (fit : HeapFits program world.heap) (statics : StaticsFit program world.heap world.statics) (frame : Frame) (r : IsReady program typing world.heap frame) where
  abbrev of_here : Value → VType → Bool
  of_here v t = holds program typing ok shaped world fit statics frame r v t

  abbrev Done : HeapResult → Type 0
  Done o = WellDone program typing ok shaped world fit statics frame r o

  abbrev Operates : Heap → List Value → Type 0
  Operates what list = OperatesOn program typing ok shaped world fit statics frame r what (here program typing ok shaped world fit statics frame r).ref list

  abbrev taken_types : List VType
  taken_types = taken_here program typing ok shaped world fit statics frame r

  abbrev under : List VType
  under = under_here program typing ok shaped world fit statics frame r

  abbrev reaches : Name → Name → Bool
  reaches from to = assignable program (types.Ref from) (types.Ref to)

  -- ---- what is done with an array

  array_there : (at : ℕ) (desc : List ℕ) (list : List Value) (f : ArrayAt → HeapResult) → slice_get world.heap at ≡ Some (objects.Array desc list)
      → on_array world.heap (values.Ref at) f ≡ f (record { at = at; desc = desc; items = list })
  array_there at desc list f e = rw e refl

  array_done : (item : List ℕ) (v : Value) (f : ArrayAt → HeapResult) → ArrayOf program typing ok world.heap fit item v
      → ((at : ℕ) (rest : List ℕ) (list : List Value) → v ≡ values.Ref at → slice_get world.heap at ≡ Some (objects.Array (91 ∷ rest) list)
      → component_fits program rest item ≡ true → AllByRecursion (λ (w : Value). fits_made program world.heap w (type_described rest) ≡ true) list
      → Done (f (record { at = at; desc = 91 ∷ rest; items = list })))
      → Done (on_array world.heap v f)
  array_done item v f (no_array e) each =
      subst (λ (w : Value). Done (on_array world.heap w f)) (sym e) (fails program typing ok shaped world fit statics frame r _ (0, omega arith, refl))
  array_done item v f (an_array at rest list e there over all) each =
      subst (λ (w : Value). Done (on_array world.heap w f)) (sym e) (subst Done (sym (array_there at (91 ∷ rest) list f there)) (each at rest list e there over all))

  array_ready : (P : Object → Type 0) (item : List ℕ) (v : Value) → ArrayOf program typing ok world.heap fit item v
      → ((rest : List ℕ) (list : List Value) → component_fits program rest item ≡ true → P (objects.Array (91 ∷ rest) list)) → IsNullOr P world.heap v
  array_ready P item v (no_array e) each = subst (IsNullOr P world.heap) (sym e) tt
  array_ready P item v (an_array at rest list e there over all) each =
      subst (IsNullOr P world.heap) (sym e) (subst (λ (o : Option Object). IsSomeAnd o P) (sym there) (each rest list over))

  -- a value of a type that is an array
  array_typed : (v : Value) (t : VType) → of_here v t ≡ true → is_array_type t ≡ true → (item : List ℕ) × ArrayOf program typing ok world.heap fit item v
  array_typed v types.Top h e = absurd cc
  array_typed v types.Int h e = absurd cc
  array_typed v types.Null h e = ([], no_array (null_is v h))
  array_typed v (types.Ref []) h e = absurd cc
  array_typed v (types.Ref (b ∷ item)) h e =
      let named : fits_made program world.heap v (types.Ref (91 ∷ item)) ≡ true =
      subst (λ (c : ℕ). fits_made program world.heap v (types.Ref (c ∷ item)) ≡ true) (eqb-true b 91 e) h in
      (item, array_of_value program typing ok world.heap fit item v named)
  array_typed v types.UninitThis h e = absurd cc
  array_typed v (types.Uninit at) h e = absurd cc

  -- ---- the length

  module _ (shape : shape_of r.stands.insn ≡ shapes.Heap heaps.Length) where
    pub length_operates : Operates heaps.Length frame.stack.items
    length_operates =
        let t = one_taken of_here _ taken_types under frame.stack.items (met_here program typing ok shaped world fit statics frame r heaps.Length shape)
        (split_here program typing ok shaped world fit statics frame r heaps.Length shape) in
        let a = array_typed t.value t.type t.fits t.met in
        subst (Operates heaps.Length) (sym t.items_are) (
          array_ready IsArray a.0 t.value a.1 (λ rest list over. tt),
          array_done a.0 t.value (λ (x : ArrayAt). Some (Ok (world, values.Int (pos (length x.items)) ∷ t.below))) a.1
              (λ at rest list e there over all. leaves program typing ok shaped world fit statics frame r heaps.Length shape world
              (values.Int (pos (length list)) ∷ []) t.below (same_world program world fit statics) (refl, tt) t.left),
        )

  -- ---- which array an instruction works on

  -- what the items of such an array are: references, or numbers
  abbrev ItemsAre : Item → List ℕ → Type 0
  ItemsAre items.Int rest = type_described rest ≡ types.Int
  ItemsAre items.Reference rest = (name : Name) × (type_described rest ≡ types.Ref name)
  ItemsAre items.Byte rest = type_described rest ≡ types.Int
  ItemsAre items.Char rest = type_described rest ≡ types.Int
  ItemsAre items.Short rest = type_described rest ≡ types.Int

  -- the type of an item that is read
  abbrev read_of : Item → VType → VType
  read_of items.Int t = types.Int
  read_of items.Reference t = item_type t
  read_of items.Byte t = types.Int
  read_of items.Char t = types.Int
  read_of items.Short t = types.Int

  -- an array whose items are as the instruction wants them
  record Wants (item : Item) (v : Value) (t : VType) : Type 0 where
    of : List ℕ
    holds_array : fits_made program world.heap v (types.Ref (91 ∷ of)) ≡ true
    wants : (rest : List ℕ) → component_fits program rest of ≡ true → Wanted program ok.links.order (91 ∷ rest) item
    are : (rest : List ℕ) → component_fits program rest of ≡ true → ItemsAre item rest
    reads : (rest : List ℕ) (w : Value) → component_fits program rest of ≡ true → fits_made program world.heap w (type_described rest) ≡ true
        → of_here w (read_of item t) ≡ true

  -- that, or null
  data Array (item : Item) (v : Value) (t : VType) : Type 0 where
    nothing : v ≡ values.Null → Array item v t
    something : Wants item v t → Array item v t

  wanted_fits : (v : Value) (t : VType) (name : Name) → of_here v t ≡ true → assignable program t (types.Ref name) ≡ true
      → fits_made program world.heap v (types.Ref name) ≡ true
  wanted_fits v t name h e = type_fits_over program ok.links.order world.heap r.stands.class r.stands.method v t (types.Ref name) e h

  -- items that are numbers
  numbers_are : (rest item : List ℕ) → is_array item ≡ false → named item ≡ None → type_described item ≡ types.Int
      → component_fits program rest item ≡ true → type_described rest ≡ types.Int
  numbers_are rest item apart none int over =
      let one : rest ≡ item = ap (drop 1) (plain_array program ok.links.order (91 ∷ rest) item apart none (over_array program rest item over)) in
      ap type_described one ∙ int

  number_read : (rest item : List ℕ) (w : Value) → is_array item ≡ false → named item ≡ None → type_described item ≡ types.Int
      → component_fits program rest item ≡ true → fits_made program world.heap w (type_described rest) ≡ true → of_here w types.Int ≡ true
  number_read rest item w apart none int over h =
      subst (λ (t : VType). fits_made program world.heap w t ≡ true) (numbers_are rest item apart none int over) h

  int_array : (v : Value) (t : VType) → of_here v t ≡ true → assignable program t (types.Ref (codes "[I")) ≡ true → Wants items.Int v t
  int_array v t h e = record {
    of = codes "I";
    holds_array = wanted_fits v t (codes "[I") h e;
    wants = λ rest over. ints (over_array program rest (codes "I") over);
    are = λ rest over. numbers_are rest (codes "I") refl refl refl over;
    reads = λ rest w over f. number_read rest (codes "I") w refl refl refl over f;
  }

  byte_array : (v : Value) (t : VType) → of_here v t ≡ true → assignable program t (types.Ref (codes "[B")) ≡ true → Wants items.Byte v t
  byte_array v t h e = record {
    of = codes "B";
    holds_array = wanted_fits v t (codes "[B") h e;
    wants = λ rest over. bytes (over_array program rest (codes "B") over);
    are = λ rest over. numbers_are rest (codes "B") refl refl refl over;
    reads = λ rest w over f. number_read rest (codes "B") w refl refl refl over f;
  }

  truth_array : (v : Value) (t : VType) → of_here v t ≡ true → assignable program t (types.Ref (codes "[Z")) ≡ true → Wants items.Byte v t
  truth_array v t h e = record {
    of = codes "Z";
    holds_array = wanted_fits v t (codes "[Z") h e;
    wants = λ rest over. truths (over_array program rest (codes "Z") over);
    are = λ rest over. numbers_are rest (codes "Z") refl refl refl over;
    reads = λ rest w over f. number_read rest (codes "Z") w refl refl refl over f;
  }

  char_array : (v : Value) (t : VType) → of_here v t ≡ true → assignable program t (types.Ref (codes "[C")) ≡ true → Wants items.Char v t
  char_array v t h e = record {
    of = codes "C";
    holds_array = wanted_fits v t (codes "[C") h e;
    wants = λ rest over. chars (over_array program rest (codes "C") over);
    are = λ rest over. numbers_are rest (codes "C") refl refl refl over;
    reads = λ rest w over f. number_read rest (codes "C") w refl refl refl over f;
  }

  short_array : (v : Value) (t : VType) → of_here v t ≡ true → assignable program t (types.Ref (codes "[S")) ≡ true → Wants items.Short v t
  short_array v t h e = record {
    of = codes "S";
    holds_array = wanted_fits v t (codes "[S") h e;
    wants = λ rest over. shorts (over_array program rest (codes "S") over);
    are = λ rest over. numbers_are rest (codes "S") refl refl refl over;
    reads = λ rest w over f. number_read rest (codes "S") w refl refl refl over f;
  }

  reference_over : (rest of : List ℕ) → component_fits program rest of ≡ true → reaches (91 ∷ of) (codes "[Ljava/lang/Object;") ≡ true
      → reaches (91 ∷ rest) (codes "[Ljava/lang/Object;") ≡ true
  reference_over rest of over e =
      type_over program ok.links.order (types.Ref (91 ∷ rest)) (types.Ref (91 ∷ of)) (types.Ref (codes "[Ljava/lang/Object;")) (over_array program rest of over) e

  references_are : (rest of : List ℕ) → component_fits program rest of ≡ true → reaches (91 ∷ of) (codes "[Ljava/lang/Object;") ≡ true
      → (name : Name) × (type_described rest ≡ types.Ref name)
  references_are rest of over e =
      let a = only_arrays program ok.links.order (91 ∷ rest) (codes "Ljava/lang/Object;") (reference_over rest of over e) in
      let same : rest ≡ a.0 = ap (drop 1) a.1 in
      let n = reference_item program ok.links.order a.0 a.2 in
      (n.0, ap type_described same ∙ n.1)

  reference_named : (v : Value) (of : List ℕ) → of_here v (types.Ref (91 ∷ of)) ≡ true → reaches (91 ∷ of) (codes "[Ljava/lang/Object;") ≡ true
      → Wants items.Reference v (types.Ref (91 ∷ of))
  reference_named v of h e = record {
    of = of;
    holds_array = h;
    wants = λ rest over. references (reference_over rest of over e);
    are = λ rest over. references_are rest of over e;
    reads = λ rest w over f. described_fits program world.heap r.stands.class r.stands.method w of ∙ items_over program typing ok world.heap fit rest of w over f;
  }

  reference_array : (v : Value) (t : VType) → of_here v t ≡ true → assignable program t (types.Ref (codes "[Ljava/lang/Object;")) ≡ true → Array items.Reference v t
  reference_array v types.Top h e = absurd cc
  reference_array v types.Int h e = absurd cc
  reference_array v types.Null h e = nothing (null_is v h)
  reference_array v (types.Ref name) h e =
      let a = only_arrays program ok.links.order name (codes "Ljava/lang/Object;") e in
      subst (λ (n : Name). Array items.Reference v (types.Ref n)) (sym a.1)
      (something (reference_named v a.0 (subst (λ (n : Name). of_here v (types.Ref n) ≡ true) a.1 h)
      (subst (λ (n : Name). reaches n (codes "[Ljava/lang/Object;") ≡ true) a.1 e)))
  reference_array v types.UninitThis h e = absurd cc
  reference_array v (types.Uninit at) h e = absurd cc

  array_wanted : (item : Item) (v : Value) (t : VType) → of_here v t ≡ true → to_array program item t ≡ true → Array item v t
  array_wanted items.Int v t h e = something (int_array v t h e)
  array_wanted items.Reference v t h e = reference_array v t h e
  array_wanted items.Byte v t h e =
      elim (or_cases (assignable program t (types.Ref (codes "[B"))) _ e) [
        | inl one ↦ something (byte_array v t h one)
        | inr two ↦ something (truth_array v t h two)
      ]
  array_wanted items.Char v t h e = something (char_array v t h e)
  array_wanted items.Short v t h e = something (short_array v t h e)

  items_ready : (item : Item) (v : Value) (t : VType) → Array item v t → IsNullOr (HasItems item) world.heap v
  items_ready item v t (nothing e) = subst (IsNullOr (HasItems item) world.heap) (sym e) tt
  items_ready item v t (something a) =
      array_ready (HasItems item) a.of v (array_of_value program typing ok world.heap fit a.of v a.holds_array)
      (λ rest list over. wanted_items program ok.links.order item (91 ∷ rest) (a.wants rest over))

  -- an array of the heap that is worked on
  record On (item : Item) (t : VType) (at : ℕ) (rest : List ℕ) (list : List Value) : Type 0 where
    there : slice_get world.heap at ≡ Some (objects.Array (91 ∷ rest) list)
    are : ItemsAre item rest
    reads : (w : Value) → fits_made program world.heap w (type_described rest) ≡ true → of_here w (read_of item t) ≡ true
    all : AllByRecursion (λ (w : Value). fits_made program world.heap w (type_described rest) ≡ true) list

  items_done : (item : Item) (v : Value) (t : VType) (f : ArrayAt → HeapResult) → Array item v t
      → ((at : ℕ) (rest : List ℕ) (list : List Value) → On item t at rest list → Done (f (record { at = at; desc = 91 ∷ rest; items = list })))
      → Done (on_items item world.heap v f)
  items_done item v t f (nothing e) done =
      subst (λ (w : Value). Done (on_items item world.heap w f)) (sym e) (fails program typing ok shaped world fit statics frame r _ (0, omega arith, refl))
  items_done item v t f (something a) done =
      array_done a.of v _ (array_of_value program typing ok world.heap fit a.of v a.holds_array)
      (λ at rest list e there over all.
      let chosen : cond (has_items item (91 ∷ rest)) (f (record { at = at; desc = 91 ∷ rest; items = list })) None ≡ f (record { at = at; desc = 91 ∷ rest; items = list }) =
      rw (wanted_items program ok.links.order item (91 ∷ rest) (a.wants rest over)) refl in
      subst Done (sym chosen)
      (done at rest list (record { there = there; are = a.are rest over; reads = λ w f. a.reads rest w over f; all = all })))

  -- ---- reading

  read_yields : (item : Item) (t u : VType) → read_type item (t ∷ u ∷ []) ≡ read_of item t
  read_yields items.Int t u = refl
  read_yields items.Reference t u = refl
  read_yields items.Byte t u = refl
  read_yields items.Char t u = refl
  read_yields items.Short t u = refl

  module _ (item : Item) (shape : shape_of r.stands.insn ≡ shapes.Heap (heaps.ReadItem item)) where
    read_there : (below : List Value) (t : VType) (o : Option Value) → Paired of_here below under → read_type item taken_types ≡ read_of item t
        → ((w : Value) → o ≡ Some w → of_here w (read_of item t) ≡ true)
        → Done (option_map_or (λ (v : Value). Some (Ok (world, v ∷ below))) o (Some (Err bad_place)))
    read_there below t None left gives each = fails program typing ok shaped world fit statics frame r _ (3, omega arith, refl)
    read_there below t (Some w) left gives each =
        leaves program typing ok shaped world fit statics frame r (heaps.ReadItem item) shape world (w ∷ []) below (same_world program world fit statics)
        (subst (λ (u : VType). of_here w u ≡ true) (sym gives) (each w refl), tt) left

    read_done : (below : List Value) (t : VType) (at : ℕ) (rest : List ℕ) (list : List Value) (n : ℤ) → On item t at rest list → Paired of_here below under
        → read_type item taken_types ≡ read_of item t
        → Done (item_read world (record { at = at; desc = 91 ∷ rest; items = list }) n below)
    read_done below t at rest list n on left gives =
        read_there below t (option_and_then (slice_get list) (place_among (length list) n)) left gives
        (λ w e. on.reads w (found (place_among (length list) n) w e)) where
          found : (o : Option ℕ) (w : Value) → option_and_then (slice_get list) o ≡ Some w → fits_made program world.heap w (type_described rest) ≡ true
          found None w e = absurd cc
          found (Some place) w e = all_get (λ (x : Value). fits_made program world.heap x (type_described rest) ≡ true) list place w on.all e

    read_with : Two of_here (to_array program item) wants_number taken_types under frame.stack.items → Operates (heaps.ReadItem item) frame.stack.items
    read_with t =
        let n = number_value t.upper (wanted_number program world.heap r.stands.class r.stands.method t.upper t.high_type t.upper_fits t.high_met) in
        let a = array_wanted item t.lower t.low_type t.lower_fits t.low_met in
        let gives : read_type item taken_types ≡ read_of item t.low_type = ap (read_type item) t.taken_are ∙ read_yields item t.low_type t.high_type in
        subst (Operates (heaps.ReadItem item)) (ap (λ (v : Value). v ∷ t.lower ∷ t.below) (sym n.1) ∙ sym t.items_are) (
          (tt, items_ready item t.lower t.low_type a),
          items_done item t.lower t.low_type (λ (x : ArrayAt). item_read world x n.0 t.below) a
              (λ at rest list on. read_done t.below t.low_type at rest list n.0 on t.left gives),
        )

    pub read_item_operates : Operates (heaps.ReadItem item) frame.stack.items
    read_item_operates =
        read_with (two_taken of_here (to_array program item) wants_number taken_types under frame.stack.items
        (met_here program typing ok shaped world fit statics frame r (heaps.ReadItem item) shape)
        (split_here program typing ok shaped world fit statics frame r (heaps.ReadItem item) shape))

  -- ---- writing

  kind_wanted : (item : Item) (v : Value) (t : VType) → of_here v t ≡ true → to_item program item t ≡ true → fits (item_kind item) v ≡ true
  kind_wanted items.Int v t h e = wanted_number program world.heap r.stands.class r.stands.method v t h e
  kind_wanted items.Reference v t h e = wanted_reference program world.heap r.stands.class r.stands.method v t h (to_reference t e) where
    to_reference : (u : VType) → assignable program u (types.Ref object) ≡ true → wants_reference u ≡ true
    to_reference types.Top f = absurd cc
    to_reference types.Int f = absurd cc
    to_reference types.Null f = refl
    to_reference (types.Ref name) f = refl
    to_reference types.UninitThis f = absurd cc
    to_reference (types.Uninit at) f = absurd cc
  kind_wanted items.Byte v t h e = wanted_number program world.heap r.stands.class r.stands.method v t h e
  kind_wanted items.Char v t h e = wanted_number program world.heap r.stands.class r.stands.method v t h e
  kind_wanted items.Short v t h e = wanted_number program world.heap r.stands.class r.stands.method v t h e

  kept_number_fits : (rest : List ℕ) (v : Value) → type_described rest ≡ types.Int → is_number v ≡ true
      → fits_made program world.heap (kept (91 ∷ rest) v) (type_described rest) ≡ true
  kept_number_fits rest (values.Int n) int is = subst (λ (t : VType). fits_made program world.heap (values.Int (kept_number (91 ∷ rest) n)) t ≡ true) (sym int) refl
  kept_number_fits rest values.Null int is = absurd cc
  kept_number_fits rest (values.Ref at) int is = absurd cc
  kept_number_fits rest (values.Class index) int is = absurd cc
  kept_number_fits rest (values.Lit index) int is = absurd cc

  instance_kept : (rest : List ℕ) (v : Value) → option_map_or (is_instance program world.heap v) (reference_of rest) false ≡ true
      → fits_made program world.heap v (type_described rest) ≡ true
  instance_kept rest v e =
      let h = holds_at (is_instance program world.heap v) (reference_of rest) e in
      subst (λ (t : VType). fits_made program world.heap v t ≡ true) (sym (reference_described rest h.item h.is))
      (or_right (is_null v) _ (instance_fits program world.heap v h.item h.passes))

  kept_reference_fits : (rest : List ℕ) (v : Value) (name : Name) → type_described rest ≡ types.Ref name → is_reference v ≡ true
      → may_hold program world.heap (91 ∷ rest) v ≡ true → fits_made program world.heap (kept (91 ∷ rest) v) (type_described rest) ≡ true
  kept_reference_fits rest (values.Int n) name e is may = absurd cc
  kept_reference_fits rest values.Null name e is may = subst (λ (t : VType). fits_made program world.heap values.Null t ≡ true) (sym e) refl
  kept_reference_fits rest (values.Ref at) name e is may = instance_kept rest (values.Ref at) may
  kept_reference_fits rest (values.Class index) name e is may = instance_kept rest (values.Class index) may
  kept_reference_fits rest (values.Lit index) name e is may = instance_kept rest (values.Lit index) may

  kept_fits : (item : Item) (rest : List ℕ) (v : Value) → ItemsAre item rest → fits (item_kind item) v ≡ true
      → may_hold program world.heap (91 ∷ rest) v ≡ true → fits_made program world.heap (kept (91 ∷ rest) v) (type_described rest) ≡ true
  kept_fits items.Int rest v are is may = kept_number_fits rest v are is
  kept_fits items.Reference rest v are is may = kept_reference_fits rest v are.0 are.1 is may
  kept_fits items.Byte rest v are is may = kept_number_fits rest v are is
  kept_fits items.Char rest v are is may = kept_number_fits rest v are is
  kept_fits items.Short rest v are is may = kept_number_fits rest v are is

  -- the heap with an item set
  set_there : (at : ℕ) (desc : List ℕ) (list : List Value) (place : ℕ) (v : Value) → slice_get world.heap at ≡ Some (objects.Array desc list)
      → with_value_at world.heap at place v ≡ slice_set world.heap at (objects.Array desc (slice_set list place v))
  set_there at desc list place v e = rw e refl

  set_fits : (at : ℕ) (rest : List ℕ) (list : List Value) (place : ℕ) (v : Value) → slice_get world.heap at ≡ Some (objects.Array (91 ∷ rest) list)
      → AllByRecursion (λ (w : Value). fits_made program world.heap w (type_described rest) ≡ true) list
      → fits_made program world.heap v (type_described rest) ≡ true → WorldFits program world.heap (with_heap world (with_value_at world.heap at place v))
  set_fits at rest list place v there all h =
      let new : Object = objects.Array (91 ∷ rest) (slice_set list place v) in
      let grows = grows_set world.heap at (objects.Array (91 ∷ rest) list) new there refl in
      let later = slice_set world.heap at new in
      let one : ObjectFits program later new = (
        refl,
        all_also _ _ (slice_set list place v) (λ w f. made_grown world.heap later grows program w (type_described rest) f)
            (all_set (λ (w : Value). fits_made program world.heap w (type_described rest) ≡ true) list place v all h),
      ) in
      subst (λ (heap : List Object). WorldFits program world.heap (with_heap world heap)) (sym (set_there at (91 ∷ rest) list place v there))
      (record {
        grows = grows;
        objects = heap_set program world.heap at (objects.Array (91 ∷ rest) list) new there refl fit one;
        statics = statics_grown world.heap later grows program world.statics statics;
      })

  module _ (item : Item) (shape : shape_of r.stands.insn ≡ shapes.Heap (heaps.WriteItem item)) where
    written_done : (b : Bool) (below : List Value) (t : VType) (at : ℕ) (rest : List ℕ) (list : List Value) (v : Value) (place : ℕ) → On item t at rest list
        → Paired of_here below under → fits (item_kind item) v ≡ true → may_hold program world.heap (91 ∷ rest) v ≡ b
        → Done (cond b (Some (Ok (with_heap world (with_value_at world.heap at place (kept (91 ∷ rest) v)), below))) (Some (Err bad_item)))
    written_done false below t at rest list v place on left is may = fails program typing ok shaped world fit statics frame r _ (4, omega arith, refl)
    written_done true below t at rest list v place on left is may =
        leaves program typing ok shaped world fit statics frame r (heaps.WriteItem item) shape _ [] below
        (set_fits at rest list place (kept (91 ∷ rest) v) on.there on.all (kept_fits item rest v on.are is may)) tt left

    at_place : (below : List Value) (t : VType) (at : ℕ) (rest : List ℕ) (list : List Value) (v : Value) (o : Option ℕ) → On item t at rest list
        → Paired of_here below under → fits (item_kind item) v ≡ true
        → Done (option_map_or (λ (place : ℕ). item_written program world (record { at = at; desc = 91 ∷ rest; items = list }) place v below) o (Some (Err bad_place)))
    at_place below t at rest list v None on left is = fails program typing ok shaped world fit statics frame r _ (3, omega arith, refl)
    at_place below t at rest list v (Some place) on left is = written_done _ below t at rest list v place on left is refl

    write_with : Three of_here (to_array program item) wants_number (to_item program item) taken_types under frame.stack.items
        → Operates (heaps.WriteItem item) frame.stack.items
    write_with t =
        let n = number_value t.between (wanted_number program world.heap r.stands.class r.stands.method t.between t.middle_type t.between_fits t.middle_met) in
        let a = array_wanted item t.lower t.low_type t.lower_fits t.low_met in
        let is : fits (item_kind item) t.upper ≡ true = kind_wanted item t.upper t.high_type t.upper_fits t.high_met in
        let f : Value → ArrayAt → HeapResult =
        λ v x. option_map_or (λ (place : ℕ). item_written program world x place v t.below) (place_among (length x.items) n.0) (Some (Err bad_place)) in
        let there : option_and_then (λ (v : Value). on_items item world.heap t.lower (f v)) (cond (fits (item_kind item) t.upper) (Some t.upper) None)
        ≡ on_items item world.heap t.lower (f t.upper) = rw is refl in
        subst (Operates (heaps.WriteItem item)) (ap (λ (v : Value). t.upper ∷ v ∷ t.lower ∷ t.below) (sym n.1) ∙ sym t.items_are) (
          (is, (tt, items_ready item t.lower t.low_type a)),
          subst Done (sym there)
              (items_done item t.lower t.low_type (f t.upper) a
              (λ at rest list on. at_place t.below t.low_type at rest list t.upper (place_among (length list) n.0) on t.left is)),
        )

    pub write_item_operates : Operates (heaps.WriteItem item) frame.stack.items
    write_item_operates =
        write_with (three_taken of_here (to_array program item) wants_number (to_item program item) taken_types under frame.stack.items
        (met_here program typing ok shaped world fit statics frame r (heaps.WriteItem item) shape)
        (split_here program typing ok shaped world fit statics frame r (heaps.WriteItem item) shape))
