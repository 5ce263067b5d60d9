-- Instructions of a ready frame that read and write static fields and those of objects.
use Rattle.std.proofs.Common.{◌≡◌, ℕ, zero, suc, ◌<◌, Bool, true, false, List, [], ◌∷◌, ◌⊎◌, length, Option, Some, None, refl, sym, ap, subst, ◌∙◌, inl, inr, arith}
use Rattle.std.specs.Prelude.{IsSomeAnd, slice_get, slice_set, option_map, Ok, ◌&&◌}
use Rattle.std.specs.Option.{option_map_or}
use Rattle.std.proofs.lemmas.Bool.{and_parts, or_cases, or_right, eqb-true, lt-ltb, true≢false}
use Rattle.std.proofs.lemmas.Option.{slice_get_within, slice_get-map}
use Rattle.mon_base.specs.declared.method.MethodId.{MethodId}
use Rattle.class_codec.specs.declared.tree.Member.{Member}
use Rattle.cert_format.specs.declared.typing.Typing.{Typing}
use Rattle.cert_format.specs.declared.typing.VType.{VType}
use Rattle.cert_format.specs.declared.typing.VType.TheVariants as types
use Rattle.insn_codec.specs.declared.insn.Insn.{Insn}
use Rattle.insn_codec.specs.declared.shape.Heap.{Heap}
use Rattle.insn_codec.specs.declared.shape.Heap.TheVariants as heaps
use Rattle.insn_codec.specs.declared.shape.Shape.TheVariants as shapes
use Rattle.insn_codec.specs.Following.{Paired}
use Rattle.insn_codec.specs.Shapes.{shape_of}
use Rattle.bytecode_model.specs.declared.operand.Use.{Use}
use Rattle.bytecode_model.specs.declared.operand.Use.TheVariants as uses
use Rattle.bytecode_model.specs.declared.program.LinkedClass.{LinkedClass}
use Rattle.bytecode_model.specs.declared.program.Program.{Program}
use Rattle.bytecode_model.specs.declared.program.Target.{Target}
use Rattle.bytecode_model.specs.declared.program.Target.TheVariants as target
use Rattle.bytecode_model.specs.Arrays.{is_array}
use Rattle.bytecode_model.specs.Assigning.{assignable}
use Rattle.bytecode_model.specs.Classes.{classes_of, is_below, is_interface}
use Rattle.bytecode_model.specs.Described.{type_described}
use Rattle.bytecode_model.specs.Heads.{desc_of, is_static}
use Rattle.bytecode_model.specs.Members.{in_class}
use Rattle.bytecode_model.specs.Operands.{use_of}
use Rattle.bytecode_model.specs.InsnPlace.{InsnPlace, class_referred, desc_referred, is_own_field}
use Rattle.bytecode_model.specs.SearchOrder.{Name, is_one_of, field_order}
use Rattle.bytecode_model.specs.Targets.{Names, UsesField, takes_class}
use Rattle.bytecode_model.specs.Uses.{UsesAreShaped}
use Rattle.bytecode_model.specs.Wants.{is_this, to_written}
use Rattle.bytecode_model.proofs.Lists.{some_is}
use Rattle.guest_heap.specs.declared.frame.Frame.{Frame}
use Rattle.guest_heap.specs.declared.object.Object.{Object}
use Rattle.guest_heap.specs.declared.object.Object.TheVariants as objects
use Rattle.guest_heap.specs.declared.value.Value.{Value}
use Rattle.guest_heap.specs.declared.value.Value.TheVariants as values
use Rattle.guest_heap.specs.Heap.{with_value_at}
use Rattle.guest_model.proofs.Options.{some_and}
use Rattle.guest_model.specs.Runs.{inner}
use Rattle.guest_frames.specs.Values.{is_null}
use Rattle.guest_model.specs.Changes.{World, with_heap, with_statics}
use Rattle.guest_model.specs.Layout.{place_of_field}
use Rattle.guest_model.specs.Moving.{HasOne, HasPlaceAt, HasTwo, IsAny, IsNullOr, NamesField, NamesOwnStatic}
use Rattle.guest_model.specs.HeapOperations.{HeapResult, on_object, place_named, reads_static, heap_result}
use Rattle.typed_runs.specs.Fitting.{HeapFits, ObjectFits, StaticsFit, field_types, fits_made, is_just, is_of, static_types}
use Rattle.typed_runs.specs.Frames.{IsReady}
use Rattle.typed_runs.specs.Machines.{BeginsRight}
use Rattle.typed_runs.specs.Programs.{IsTypedProgram}
use Rattle.typed_runs.proofs.Above.{field_fits}
use Rattle.typed_runs.proofs.Changed.{WorldFits}
use Rattle.typed_runs.proofs.Declared.{described_encoded, inner_encoded, listed_field}
use Rattle.typed_runs.proofs.Growing.{grows_itself, grows_set, heap_set, made_grown, statics_grown}
use Rattle.typed_runs.proofs.Objects.{ObjectOf, an_object, no_object, not_interface, object_of_value}
use Rattle.typed_runs.proofs.Pairs.{paired_also, paired_get, paired_length}
use Rattle.typed_runs.proofs.Places.{paired_set, place_begins}
use Rattle.typed_runs.proofs.Rows.{names}
use Rattle.typed_runs.proofs.Taken.{one_taken, two_taken}
use Rattle.typed_runs.proofs.Types.{described_fits, described_over, just_is_of, made_over, type_fits_over}
use Rattle.typed_runs.proofs.Operates.{WellDone, OperatesOn, fails, here, holds, leaves, met_here, same_world, split_here, stays_here, taken_here, under_here, use_here}

-- ---- what may be there

some_parts : {A : Type 0} (P : A → Type 0) (o : Option A) → IsSomeAnd o P → (x : A) × (o ≡ Some x) × P x
some_parts P None h = absurd h
some_parts P (Some x) h = (x, refl, h)

-- ---- fields that are named

-- a field of a given class, or one of the listing
data FieldNamed (program : Program) (class : LinkedClass) (insn : Insn) (static writes : Bool) (ref : Target) : Type 0 where
  given : (of index : ℕ) → ref ≡ target.Field of index → (u : UsesField program class insn (target.Field of index)) → u.static ≡ static → u.writes ≡ writes
      → FieldNamed program class insn static writes ref
  listed : (index : ℕ) → ref ≡ target.ApiField index → (u : UsesField program class insn (target.ApiField index)) → u.static ≡ static → u.writes ≡ writes
      → FieldNamed program class insn static writes ref

abbrev static_use : Use → Bool
static_use (uses.Field static writes) = static
static_use other = false

abbrev writing_use : Use → Bool
writing_use (uses.Field static writes) = writes
writing_use other = false

abbrev is_field_use : Use → Bool
is_field_use (uses.Field static writes) = true
is_field_use other = false

field_named : (program : Program) (class : LinkedClass) (insn : Insn) (static writes : Bool) (ref : Target)
    → Names program class insn ref → use_of insn ≡ uses.Field static writes → FieldNamed program class insn static writes ref
field_named program class insn static writes target.None named used = absurd (true≢false (ap is_field_use (sym used ∙ named)))
field_named program class insn static writes (target.Number n) named used = absurd (true≢false (ap is_field_use (sym used ∙ named.0)))
field_named program class insn static writes (target.Literal index) named used = absurd (true≢false (ap is_field_use (sym used ∙ named.loads)))
field_named program class insn static writes (target.ClassName name) named used =
    absurd (let h : false ≡ true = ap takes_class (sym used) ∙ named.takes in true≢false (sym h))
field_named program class insn static writes (target.ApiMethod index) named used = absurd (true≢false (ap is_field_use (sym used ∙ named.calls)))
field_named program class insn static writes (target.Builtin index) named used = absurd (true≢false (ap is_field_use (sym used ∙ named.calls)))
field_named program class insn static writes (target.Method of index) named used = absurd (true≢false (ap is_field_use (sym used ∙ named.calls)))
field_named program class insn static writes (target.Field of index) named used =
    given of index refl named (ap static_use (sym named.accesses ∙ used)) (ap writing_use (sym named.accesses ∙ used))
field_named program class insn static writes (target.ApiField index) named used =
    listed index refl named (ap static_use (sym named.accesses ∙ used)) (ap writing_use (sym named.accesses ∙ used))

module _ (program : Program) (typing : Typing) (ok : IsTypedProgram program typing) (shaped : UsesAreShaped) (world : World)
    (fit : HeapFits program world.heap) (statics : StaticsFit program world.heap world.statics) (frame : Frame) (r : IsReady program typing world.heap frame) where
  abbrev of_here : Value → VType → Bool
  of_here v t = holds program typing ok shaped world fit statics frame r v t

  abbrev spot : InsnPlace
  spot = here program typing ok shaped world fit statics frame r

  abbrev Done : HeapResult → Type 0
  Done o = WellDone program typing ok shaped world fit statics frame r o

  abbrev OperatesFor : Heap → Target → List Value → Type 0
  OperatesFor what ref list = OperatesOn program typing ok shaped world fit statics frame r what ref list

  abbrev taken_types : List VType
  taken_types = taken_here program typing ok shaped world fit statics frame r

  abbrev under : List VType
  under = under_here program typing ok shaped world fit statics frame r

  -- what the reference tells
  module _ (ref : Target) (u : UsesField program r.stands.class r.stands.insn ref) where
    desc_told : desc_referred spot ≡ u.told.desc
    desc_told = ap (λ (o : Option MethodId). option_map_or (λ (id : MethodId). id.desc) o []) u.refers

    class_told : class_referred spot ≡ u.told.class
    class_told = ap (λ (o : Option MethodId). option_map_or (λ (id : MethodId). id.class) o []) u.refers

  -- ---- static fields

  -- the static field of a given class has a place, whose value fits
  record Static (of index : ℕ) (desc : Name) : Type 0 where
    class : LinkedClass
    there : slice_get program.classes of ≡ Some class
    fields : List Value
    own : slice_get world.statics of ≡ Some fields
    paired : Paired (fits_made program world.heap) fields (static_types class.file)
    typed : slice_get (static_types class.file) index ≡ Some (type_described desc)

  static_of : (of index : ℕ) (u : UsesField program r.stands.class r.stands.insn (target.Field of index)) → Static of index (desc_referred spot)
  static_of of index u =
      let d = u.declared in
      let s = some_parts (λ (fields : List Value). Paired (fits_made program world.heap) fields (static_types d.class.file)) (slice_get world.statics of) (statics of d.class d.there) in
      let typed : slice_get (static_types d.class.file) index ≡ Some (type_described (desc_of d.class.file.pool d.member)) =
      slice_get-map (λ (m : Member). type_described (desc_of d.class.file.pool m)) d.class.file.fields index ∙ ap (option_map (λ (m : Member). type_described (desc_of d.class.file.pool m))) d.here in
      record {
        class = d.class;
        there = d.there;
        fields = s.0;
        own = s.1;
        paired = s.2;
        typed = typed ∙ ap (λ (desc : Name). Some (type_described desc)) (d.desc ∙ sym (desc_told (target.Field of index) u));
      }

  own_static : (of index : ℕ) (desc : Name) → Static of index desc → NamesOwnStatic world (target.Field of index)
  own_static of index desc s =
      let less = slice_get_within (static_types s.class.file) index (type_described desc) s.typed in
      let many = paired_length (fits_made program world.heap) s.fields (static_types s.class.file) s.paired in
      some_and (λ (fields : List Value). index < length fields) (slice_get world.statics of) s.fields s.own (omega (arith, less, many))

  module _ (shape : shape_of r.stands.insn ≡ shapes.Heap heaps.ReadStatic) where
    read_done : (v : Value) → fits_made program world.heap v (type_described (desc_referred spot)) ≡ true
        → Done (Some (Ok (world, v ∷ frame.stack.items)))
    read_done v h =
        leaves program typing ok shaped world fit statics frame r heaps.ReadStatic shape world (v ∷ []) frame.stack.items (same_world program world fit statics)
        (described_fits program world.heap r.stands.class r.stands.method v (desc_referred spot) ∙ h, tt)
        (stays_here program typing ok shaped world fit statics frame r heaps.ReadStatic shape
        (met_here program typing ok shaped world fit statics frame r heaps.ReadStatic shape))

    own_read : (of index : ℕ) → Static of index (desc_referred spot) → OperatesFor heaps.ReadStatic (target.Field of index) frame.stack.items
    own_read of index s =
        let v = paired_get (fits_made program world.heap) s.fields (static_types s.class.file) index (type_described (desc_referred spot)) s.paired s.typed in
        let there : reads_static program world (target.Field of index) frame.stack.items ≡ Some (Ok (world, v.0 ∷ frame.stack.items)) = rw (s.own, v.1) refl in
        (inl (own_static of index (desc_referred spot) s), subst Done (sym there) (read_done v.0 v.2))

    listed_read : (first : BeginsRight program world.heap) (index : ℕ) (u : UsesField program r.stands.class r.stands.insn (target.ApiField index))
        → OperatesFor heaps.ReadStatic (target.ApiField index) frame.stack.items
    listed_read first index u =
        let id : MethodId = in_class u.told u.declaring in
        let f = listed_field ok.links.text program.listing ok.links.listed index id u.declared.0 in
        let less : index < length program.listing.fields = slice_get_within program.listing.fields index id u.declared.0 in
        let there : reads_static program world (target.ApiField index) frame.stack.items ≡ Some (Ok (world, values.Ref index ∷ frame.stack.items)) =
        rw (lt-ltb index (length program.listing.fields) less) refl in
        let is : is_of program world.heap f.class (values.Ref index) ≡ true =
        just_is_of program world.heap f.class (values.Ref index)
        (subst (λ (name : Name). is_just world.heap name (values.Ref index) ≡ true)
        (ap inner f.desc ∙ inner_encoded f.class) (first.fields index id u.declared.0)) in
        let typed : type_described (desc_referred spot) ≡ types.Ref f.class = ap type_described (desc_told (target.ApiField index) u ∙ f.desc) ∙ described_encoded f.class in (
          inr less,
          subst Done (sym there) (read_done (values.Ref index) (subst (λ (t : VType). fits_made program world.heap (values.Ref index) t ≡ true) (sym typed) is)),
        )

    read_static_at : (first : BeginsRight program world.heap) → FieldNamed program r.stands.class r.stands.insn true false spot.ref
        → OperatesFor heaps.ReadStatic spot.ref frame.stack.items
    read_static_at first (given of index e u static writes) =
        subst (λ (ref : Target). OperatesFor heaps.ReadStatic ref frame.stack.items) (sym e) (own_read of index (static_of of index u))
    read_static_at first (listed index e u static writes) =
        subst (λ (ref : Target). OperatesFor heaps.ReadStatic ref frame.stack.items) (sym e) (listed_read first index u)

    pub read_static_operates : BeginsRight program world.heap → OperatesFor heaps.ReadStatic spot.ref frame.stack.items
    read_static_operates first =
        read_static_at first (field_named program r.stands.class r.stands.insn true false spot.ref (names program typing ok frame r.stands)
        (use_here program typing ok shaped world fit statics frame r heaps.ReadStatic shape))

  -- ---- a static field that is written

  set_at : (of : ℕ) (fields : List Value) (own : ℕ) (list : List (List Value)) (P : List Value → Type 0) → IsSomeAnd (slice_get list own) P
      → (own ≡ of → P fields) → IsSomeAnd (slice_get (slice_set list of fields) own) P
  set_at of fields own [] P h new = absurd h
  set_at zero fields zero (x ∷ list) P h new = new refl
  set_at zero fields (suc own) (x ∷ list) P h new = h
  set_at (suc of) fields zero (x ∷ list) P h new = h
  set_at (suc of) fields (suc own) (x ∷ list) P h new = set_at of fields own list P h (λ same. new (ap suc same))

  statics_set : (of index : ℕ) (desc : Name) (v : Value) (s : Static of index desc) → fits_made program world.heap v (type_described desc) ≡ true
      → StaticsFit program world.heap (slice_set world.statics of (slice_set s.fields index v))
  statics_set of index desc v s h own class there =
      set_at of (slice_set s.fields index v) own world.statics (λ (fields : List Value). Paired (fits_made program world.heap) fields (static_types class.file)) (statics own class there)
      (λ same.
      let one : s.class ≡ class = some_is s.class class (sym s.there ∙ ap (slice_get program.classes) (sym same) ∙ there) in
      subst (λ (c : LinkedClass). Paired (fits_made program world.heap) (slice_set s.fields index v) (static_types c.file)) one
      (paired_set (fits_made program world.heap) s.fields (static_types s.class.file) index v (type_described desc) s.paired s.typed h))

  module _ (shape : shape_of r.stands.insn ≡ shapes.Heap heaps.WriteStatic) where
    own_written : (of index : ℕ) (v : Value) (below : List Value) → Static of index (desc_referred spot)
        → fits_made program world.heap v (type_described (desc_referred spot)) ≡ true → Paired of_here below under
        → OperatesFor heaps.WriteStatic (target.Field of index) (v ∷ below)
    own_written of index v below s h left =
        let old = paired_get (fits_made program world.heap) s.fields (static_types s.class.file) index (type_described (desc_referred spot)) s.paired s.typed in
        let new : World = with_statics world (slice_set world.statics of (slice_set s.fields index v)) in
        let there : heap_result program world heaps.WriteStatic (target.Field of index) (v ∷ below) ≡ Some (Ok (new, below)) = rw (s.own, old.1) refl in
        let w : WorldFits program world.heap new =
        record { grows = grows_itself world.heap; objects = fit; statics = statics_set of index (desc_referred spot) v s h } in (
          (own_static of index (desc_referred spot) s, tt),
          subst Done (sym there) (leaves program typing ok shaped world fit statics frame r heaps.WriteStatic shape new [] below w tt left),
        )

    write_static_at : (v : Value) (below : List Value) → fits_made program world.heap v (type_described (desc_referred spot)) ≡ true → Paired of_here below under
        → FieldNamed program r.stands.class r.stands.insn true true spot.ref → OperatesFor heaps.WriteStatic spot.ref (v ∷ below)
    write_static_at v below h left (given of index e u static writes) =
        subst (λ (ref : Target). OperatesFor heaps.WriteStatic ref (v ∷ below)) (sym e) (own_written of index v below (static_of of index u) h left)
    write_static_at v below h left (listed index e u static writes) =
        absurd (true≢false (sym (ap (λ (b : Bool). b && true) writes) ∙ u.unwritten))

    pub write_static_operates : OperatesFor heaps.WriteStatic spot.ref frame.stack.items
    write_static_operates =
        let t = one_taken of_here _ taken_types under frame.stack.items (met_here program typing ok shaped world fit statics frame r heaps.WriteStatic shape)
        (split_here program typing ok shaped world fit statics frame r heaps.WriteStatic shape) in
        subst (OperatesFor heaps.WriteStatic spot.ref) (sym t.items_are)
        (write_static_at t.value t.below
        (described_over program ok.links.order world.heap r.stands.class r.stands.method t.value t.type (desc_referred spot) t.met t.fits) t.left
        (field_named program r.stands.class r.stands.insn true true spot.ref (names program typing ok frame r.stands)
        (use_here program typing ok shaped world fit statics frame r heaps.WriteStatic shape)))

  -- ---- fields of objects

  -- a field of the objects of a given class
  record Owned (of index : ℕ) (desc : Name) : Type 0 where
    class : LinkedClass
    member : Member
    there : slice_get program.classes of ≡ Some class
    within : slice_get class.file.fields index ≡ Some member
    apart : is_static member.flags ≡ false
    is_desc : desc_of class.file.pool member ≡ desc
    reaches : (v : Value) → fits_made program world.heap v (types.Ref (class_referred spot)) ≡ true → fits_made program world.heap v (types.Ref class.name) ≡ true

  owned : (of index : ℕ) (u : UsesField program r.stands.class r.stands.insn (target.Field of index)) → u.static ≡ false → Owned of index (desc_referred spot)
  owned of index u static =
      let d = u.declared in
      let up : assignable program (types.Ref u.told.class) (types.Ref d.class.name) ≡ true =
      field_fits program typing ok u.told.class of d.class d.there
      (subst (λ (name : Name). is_one_of (field_order (classes_of program) u.told.class) name ≡ true)
      (sym d.owner) u.above) in
      record {
        class = d.class;
        member = d.member;
        there = d.there;
        within = d.here;
        apart = d.flags ∙ static;
        is_desc = d.desc ∙ sym (desc_told (target.Field of index) u);
        reaches = λ v h. made_over program ok.links.order world.heap v (types.Ref (class_referred spot)) (types.Ref d.class.name)
            (subst (λ (name : Name). assignable program (types.Ref name) (types.Ref d.class.name) ≡ true) (sym (class_told (target.Field of index) u)) up) h;
      }

  module _ (of index : ℕ) (o : Owned of index (desc_referred spot)) where
    plain : is_interface program o.class.name ≡ false
    plain = not_interface program typing ok world.heap fit of o.class index o.member o.there o.within o.apart

    abbrev Is : Value → Type 0
    Is v = ObjectOf program typing ok world.heap fit of o.class o.there plain v

    is_object : (v : Value) → fits_made program world.heap v (types.Ref o.class.name) ≡ true → Is v
    is_object v h = object_of_value program typing ok world.heap fit of o.class o.there plain v h

    typed_place : (name : Name) → (name ≡ o.class.name) ⊎ (is_below program name o.class.name ≡ true)
        → slice_get (field_types program name) (place_of_field program o.class index) ≡ Some (type_described (desc_referred spot))
    typed_place name below =
        place_begins program typing ok name of o.class index o.member o.there o.within o.apart below
        ∙ ap (λ (desc : Name). Some (type_described desc)) o.is_desc

    place_there : place_named program (target.Field of index) ≡ Some (place_of_field program o.class index)
    place_there = ap (option_map (λ (c : LinkedClass). place_of_field program c index)) o.there

    field_ready : (P : ℕ → Type 0) → P (place_of_field program o.class index) → NamesField program P (target.Field of index)
    field_ready P h = some_and (λ (c : LinkedClass). P (place_of_field program c index)) (slice_get program.classes of) o.class o.there h

    object_ready : (v : Value) → Is v → IsNullOr (HasPlaceAt (place_of_field program o.class index)) world.heap v
    object_ready v (no_object e) = subst (IsNullOr (HasPlaceAt (place_of_field program o.class index)) world.heap) (sym e) tt
    object_ready v (an_object at name fields goal thread e there below paired apart) =
        let less = slice_get_within (field_types program name) (place_of_field program o.class index) _ (typed_place name below) in
        let many = paired_length (fits_made program world.heap) fields (field_types program name) paired in
        subst (IsNullOr (HasPlaceAt (place_of_field program o.class index)) world.heap) (sym e)
        (some_and (HasPlaceAt (place_of_field program o.class index)) (slice_get world.heap at) (objects.Plain name fields goal thread) there (omega (arith, less, many)))

    object_done : (v : Value) (f : ℕ → List Value → HeapResult) → Is v
        → ((at : ℕ) (name : Name) (fields : List Value) (goal : Value) (thread : Option ℕ) → slice_get world.heap at ≡ Some (objects.Plain name fields goal thread)
        → (name ≡ o.class.name) ⊎ (is_below program name o.class.name ≡ true)
        → Paired (fits_made program world.heap) fields (field_types program name) → is_array name ≡ false → Done (f at fields))
        → Done (on_object world.heap v f)
    object_done v f (no_object e) each =
        subst (λ (w : Value). Done (on_object world.heap w f)) (sym e) (fails program typing ok shaped world fit statics frame r _ (0, omega arith, refl))
    object_done v f (an_object at name fields goal thread e there below paired apart) each =
        let is : on_object world.heap (values.Ref at) f ≡ f at fields = rw there refl in
        subst (λ (w : Value). Done (on_object world.heap w f)) (sym e) (subst Done (sym is) (each at name fields goal thread there below paired apart))

    module _ (shape : shape_of r.stands.insn ≡ shapes.Heap heaps.ReadField) where
      read_field : (v : Value) (below : List Value) → Is v → Paired of_here below under → OperatesFor heaps.ReadField (target.Field of index) (v ∷ below)
      read_field v below is left =
          let f : ℕ → List Value → HeapResult = λ at fields. option_map (λ (w : Value). Ok (world, w ∷ below)) (slice_get fields (place_of_field program o.class index)) in
          let there : heap_result program world heaps.ReadField (target.Field of index) (v ∷ below) ≡ on_object world.heap v f = rw place_there refl in (
            field_ready (λ place. HasOne (IsNullOr (HasPlaceAt place) world.heap) (v ∷ below)) (object_ready v is),
            subst Done (sym there)
                (object_done v f is
                (λ at name fields goal thread here_is under_is paired apart.
                let w = paired_get (fits_made program world.heap) fields (field_types program name) (place_of_field program o.class index) _ paired (typed_place name under_is) in
                let read : f at fields ≡ Some (Ok (world, w.0 ∷ below)) = rw w.1 refl in
                subst Done (sym read)
                (leaves program typing ok shaped world fit statics frame r heaps.ReadField shape world (w.0 ∷ []) below (same_world program world fit statics)
                (described_fits program world.heap r.stands.class r.stands.method w.0 (desc_referred spot) ∙ w.2, tt) left))),
          )

    -- the heap with a field set
    set_fits : (at : ℕ) (name : Name) (fields : List Value) (goal : Value) (thread : Option ℕ) (v : Value)
        → slice_get world.heap at ≡ Some (objects.Plain name fields goal thread)
        → (name ≡ o.class.name) ⊎ (is_below program name o.class.name ≡ true)
        → Paired (fits_made program world.heap) fields (field_types program name) → is_array name ≡ false
        → fits_made program world.heap v (type_described (desc_referred spot)) ≡ true
        → WorldFits program world.heap (with_heap world (with_value_at world.heap at (place_of_field program o.class index) v))
    set_fits at name fields goal thread v there below paired apart h =
        let at_place = place_of_field program o.class index in
        let new : Object = objects.Plain name (slice_set fields at_place v) goal thread in
        let grows = grows_set world.heap at (objects.Plain name fields goal thread) new there refl in
        let later = slice_set world.heap at new in
        let one : ObjectFits program later new = (
          apart,
          paired_also (fits_made program world.heap) (fits_made program later) (slice_set fields at_place v) (field_types program name) (made_grown world.heap later grows program)
              (paired_set (fits_made program world.heap) fields (field_types program name) at_place v (type_described (desc_referred spot)) paired (typed_place name below) h),
        ) in
        let is : with_value_at world.heap at at_place v ≡ later = rw there refl in
        subst (λ (heap : List Object). WorldFits program world.heap (with_heap world heap)) (sym is)
        (record {
          grows = grows;
          objects = heap_set program world.heap at (objects.Plain name fields goal thread) new there refl fit one;
          statics = statics_grown world.heap later grows program world.statics statics;
        })

    module _ (shape : shape_of r.stands.insn ≡ shapes.Heap heaps.WriteField) where
      write_field : (v w : Value) (below : List Value) → fits_made program world.heap v (type_described (desc_referred spot)) ≡ true → Is w → Paired of_here below under
          → OperatesFor heaps.WriteField (target.Field of index) (v ∷ w ∷ below)
      write_field v w below h is left =
          let at_place = place_of_field program o.class index in
          let f : ℕ → List Value → HeapResult = λ at fields. option_map (λ (old : Value). Ok (with_heap world (with_value_at world.heap at at_place v), below)) (slice_get fields at_place) in
          let there : heap_result program world heaps.WriteField (target.Field of index) (v ∷ w ∷ below) ≡ on_object world.heap w f = rw place_there refl in (
            field_ready (λ place. HasTwo IsAny (IsNullOr (HasPlaceAt place) world.heap) (v ∷ w ∷ below)) (tt, object_ready w is),
            subst Done (sym there)
                (object_done w f is
                (λ at name fields goal thread here_is under_is paired apart.
                let old = paired_get (fits_made program world.heap) fields (field_types program name) at_place _ paired (typed_place name under_is) in
                let written : f at fields ≡ Some (Ok (with_heap world (with_value_at world.heap at at_place v), below)) = rw old.1 refl in
                subst Done (sym written)
                (leaves program typing ok shaped world fit statics frame r heaps.WriteField shape _ [] below
                (set_fits at name fields goal thread v here_is under_is paired apart h) tt left))),
          )

  -- a field of objects that the listing has is static
  not_listed : (index : ℕ) (u : UsesField program r.stands.class r.stands.insn (target.ApiField index)) → u.static ≡ false → ⊥
  not_listed index u static = true≢false (sym u.declared.1 ∙ static)

  module _ (shape : shape_of r.stands.insn ≡ shapes.Heap heaps.ReadField) where
    read_field_at : (v : Value) (below : List Value) → fits_made program world.heap v (types.Ref (class_referred spot)) ≡ true → Paired of_here below under
        → FieldNamed program r.stands.class r.stands.insn false false spot.ref → OperatesFor heaps.ReadField spot.ref (v ∷ below)
    read_field_at v below h left (given of index e u static writes) =
        let o = owned of index u static in
        subst (λ (ref : Target). OperatesFor heaps.ReadField ref (v ∷ below)) (sym e) (read_field of index o shape v below (is_object of index o v (o.reaches v h)) left)
    read_field_at v below h left (listed index e u static writes) = absurd (not_listed index u static)

    pub read_field_operates : OperatesFor heaps.ReadField spot.ref frame.stack.items
    read_field_operates =
        let t = one_taken of_here _ taken_types under frame.stack.items (met_here program typing ok shaped world fit statics frame r heaps.ReadField shape)
        (split_here program typing ok shaped world fit statics frame r heaps.ReadField shape) in
        subst (OperatesFor heaps.ReadField spot.ref) (sym t.items_are)
        (read_field_at t.value t.below
        (type_fits_over program ok.links.order world.heap r.stands.class r.stands.method t.value t.type (types.Ref (class_referred spot)) t.met t.fits) t.left
        (field_named program r.stands.class r.stands.insn false false spot.ref (names program typing ok frame r.stands)
        (use_here program typing ok shaped world fit statics frame r heaps.ReadField shape)))

  module _ (shape : shape_of r.stands.insn ≡ shapes.Heap heaps.WriteField) where
    this_of : (v : Value) (t : VType) → of_here v t ≡ true → is_this t ≡ true → is_of program world.heap r.stands.class.name v ≡ true
    this_of v types.Top h e = absurd cc
    this_of v types.Int h e = absurd cc
    this_of v types.Null h e = absurd cc
    this_of v (types.Ref name) h e = absurd cc
    this_of v types.UninitThis h e = h
    this_of v (types.Uninit at) h e = absurd cc

    -- the object is of the class that has the field
    written_of : (of index : ℕ) (o : Owned of index (desc_referred spot)) (v : Value) (t : VType) → spot.ref ≡ target.Field of index → of_here v t ≡ true
        → to_written spot t ≡ true → fits_made program world.heap v (types.Ref o.class.name) ≡ true
    written_of of index o v t e h w =
        elim (or_cases (is_own_field frame.class spot.ref && is_this t) _ w) [
          | inl own ↦
              let a = and_parts (is_own_field frame.class spot.ref) (is_this t) own in
              let same : of ≡ frame.class = eqb-true of frame.class (subst (λ (ref : Target). is_own_field frame.class ref ≡ true) e a.0) in
              let one : r.stands.class ≡ o.class = some_is r.stands.class o.class (sym r.stands.there ∙ ap (slice_get program.classes) (sym same) ∙ o.there) in
              or_right (is_null v) _ (subst (λ (c : LinkedClass). is_of program world.heap c.name v ≡ true) one (this_of v t h a.1))
          | inr named ↦
              o.reaches v (type_fits_over program ok.links.order world.heap r.stands.class r.stands.method v t (types.Ref (class_referred spot)) named h)
        ]

    write_field_at : (v w : Value) (t : VType) (below : List Value) → fits_made program world.heap v (type_described (desc_referred spot)) ≡ true
        → of_here w t ≡ true → to_written spot t ≡ true → Paired of_here below under
        → FieldNamed program r.stands.class r.stands.insn false true spot.ref → OperatesFor heaps.WriteField spot.ref (v ∷ w ∷ below)
    write_field_at v w t below h k m left (given of index e u static writes) =
        let o = owned of index u static in
        subst (λ (ref : Target). OperatesFor heaps.WriteField ref (v ∷ w ∷ below)) (sym e)
        (write_field of index o shape v w below h (is_object of index o w (written_of of index o w t e k m)) left)
    write_field_at v w t below h k m left (listed index e u static writes) = absurd (not_listed index u static)

    pub write_field_operates : OperatesFor heaps.WriteField spot.ref frame.stack.items
    write_field_operates =
        let t = two_taken of_here _ _ taken_types under frame.stack.items (met_here program typing ok shaped world fit statics frame r heaps.WriteField shape)
        (split_here program typing ok shaped world fit statics frame r heaps.WriteField shape) in
        subst (OperatesFor heaps.WriteField spot.ref) (sym t.items_are)
        (write_field_at t.upper t.lower t.low_type t.below
        (described_over program ok.links.order world.heap r.stands.class r.stands.method t.upper t.high_type (desc_referred spot) t.high_met t.upper_fits)
        t.lower_fits t.low_met t.left
        (field_named program r.stands.class r.stands.insn false true spot.ref (names program typing ok frame r.stands)
        (use_here program typing ok shaped world fit statics frame r heaps.WriteField shape)))
