-- Values and types: what fits a type fits each type to which that is assignable, and is of the kind that is wanted.
use Rattle.std.proofs.Common.{◌≡◌, ℕ, ◌<◌, Bool, true, false, cond, List, [], ◌∷◌, length, Option, Some, None, refl, sym, ap, subst, ◌∙◌, inl, inr}
use Rattle.std.specs.Prelude.{bytes_eq, slice_get, option_map, ◌==◌}
use Rattle.std.specs.Option.{option_map_or}
use Rattle.std.proofs.lemmas.Bool.{eqb-true, or_cases, or_left, or_right}
use Rattle.std.proofs.lemmas.Option.{slice_get_within}
use Rattle.std.proofs.lemmas.Slice.Eq.{bytes_eq-Decides}
use Rattle.cert_format.specs.declared.typing.VType.{VType}
use Rattle.cert_format.specs.declared.typing.VType.TheVariants as types
use Rattle.insn_codec.specs.declared.shape.Heap.{Heap}
use Rattle.insn_codec.specs.declared.shape.Heap.TheVariants as heap
use Rattle.insn_codec.specs.declared.shape.ValueKind.{ValueKind}
use Rattle.insn_codec.specs.declared.shape.ValueKind.TheVariants as kinds
use Rattle.insn_codec.specs.declared.shape.Shape.TheVariants as shapes
use Rattle.insn_codec.specs.Following.{Respects}
use Rattle.bytecode_model.specs.declared.program.LinkedClass.{LinkedClass}
use Rattle.bytecode_model.specs.declared.program.Method.{Method}
use Rattle.bytecode_model.specs.declared.program.Program.{Program}
use Rattle.bytecode_model.specs.Assigning.{assignable}
use Rattle.bytecode_model.specs.Described.{type_described}
use Rattle.bytecode_model.specs.Makes.{type_at, new_at, class_made, is_same_object, when_made, when_new, changed_by}
use Rattle.bytecode_model.specs.Order.{IsInOrder}
use Rattle.bytecode_model.specs.InsnPlace.{InsnPlace, calls_maker, class_referred}
use Rattle.bytecode_model.specs.Rules.{when_thrown}
use Rattle.bytecode_model.specs.SearchOrder.{Name}
use Rattle.bytecode_model.specs.Wants.{of_kind, is_made, is_number as wants_number, is_reference as wants_reference}
use Rattle.type_lattice.proofs.Orders.{itself, type_over}
use Rattle.frame_types.specs.Moving.{types_moved}
use Rattle.guest_heap.specs.declared.object.Object.{Object}
use Rattle.guest_heap.specs.declared.value.Value.{Value}
use Rattle.guest_heap.specs.declared.value.Value.TheVariants as values
use Rattle.guest_frames.specs.Values.{is_null, is_number, is_reference, values_moved}
use Rattle.guest_model.specs.Kinds.{class_of_object, class_of_value}
use Rattle.guest_model.specs.Moving.{IsNumber, IsObject, IsOf, IsReference}
use Rattle.typed_runs.specs.Fitting.{fits_made, fits_type, is_just, is_of}

-- ---- what may be there

-- a test that holds of what is there
pub record Holds {A : Type 0} (test : A → Bool) (o : Option A) : Type 0 where
  pub item : A
  pub is : o ≡ Some item
  pub passes : test item ≡ true

pub holds_at : {A : Type 0} (test : A → Bool) (o : Option A) → option_map_or test o false ≡ true → Holds test o
holds_at test None e = absurd cc
holds_at test (Some x) e = record { item = x; is = refl; passes = e }

pub held : {A : Type 0} (test : A → Bool) (o : Option A) (x : A) → o ≡ Some x → test x ≡ true → option_map_or test o false ≡ true
held test o x e h = rw e h

-- ---- the class of a value

pub just_class : (objects : List Object) (name : Name) (v : Value) → is_just objects name v ≡ true → class_of_value objects v ≡ Some name
just_class objects name v e =
    let h = holds_at (bytes_eq name) (class_of_value objects v) e in
    h.is ∙ ap (λ (n : Name). Some n) (sym ((bytes_eq-Decides name h.item).0 h.passes))

pub class_just : (objects : List Object) (name : Name) (v : Value) → class_of_value objects v ≡ Some name → is_just objects name v ≡ true
class_just objects name v e = held (bytes_eq name) (class_of_value objects v) name e ((bytes_eq-Decides name name).1 refl)

module _ (program : Program) where
  pub of_class : (objects : List Object) (class name : Name) (v : Value) → class_of_value objects v ≡ Some class
      → assignable program (types.Ref class) (types.Ref name) ≡ true → is_of program objects name v ≡ true
  of_class objects class name v e h = held _ (class_of_value objects v) class e h

  -- the class of a value that is of this one
  pub class_of : (objects : List Object) (name : Name) (v : Value) → is_of program objects name v ≡ true
      → (class : Name) × (class_of_value objects v ≡ Some class) × (assignable program (types.Ref class) (types.Ref name) ≡ true)
  class_of objects name v e =
      let h = holds_at (λ (class : Name). assignable program (types.Ref class) (types.Ref name)) (class_of_value objects v) e in
      (h.item, h.is, h.passes)

  pub own_class : (objects : List Object) (name : Name) (v : Value) → class_of_value objects v ≡ Some name → is_of program objects name v ≡ true
  own_class objects name v e = of_class objects name name v e (itself program (types.Ref name))

  pub just_is_of : (objects : List Object) (name : Name) (v : Value) → is_just objects name v ≡ true → is_of program objects name v ≡ true
  just_is_of objects name v e = own_class objects name v (just_class objects name v e)

  -- ---- types of objects that are made, and others

  abbrev pub is_told : VType → Bool
  is_told types.Top = true
  is_told types.Int = true
  is_told types.Null = true
  is_told (types.Ref name) = true
  is_told types.UninitThis = false
  is_told (types.Uninit at) = false

  pub told_fits : (objects : List Object) (class : LinkedClass) (method : Method) (v : Value) (t : VType) → is_told t ≡ true
      → fits_type program objects class method v t ≡ fits_made program objects v t
  told_fits objects class method v types.Top e = refl
  told_fits objects class method v types.Int e = refl
  told_fits objects class method v types.Null e = refl
  told_fits objects class method v (types.Ref name) e = refl
  told_fits objects class method v types.UninitThis e = absurd cc
  told_fits objects class method v (types.Uninit at) e = absurd cc

  either_told : (array class : Bool) (t u : VType) → is_told t ≡ true → is_told u ≡ true → is_told (cond array t (cond class u types.Int)) ≡ true
  either_told true class t u e f = e
  either_told false true t u e f = f
  either_told false false t u e f = refl

  pub described_told : (desc : List ℕ) → is_told (type_described desc) ≡ true
  described_told [] = refl
  described_told (b ∷ text) = either_told (b == 91) (b == 76) _ _ refl refl

  pub described_fits : (objects : List Object) (class : LinkedClass) (method : Method) (v : Value) (desc : List ℕ)
      → fits_type program objects class method v (type_described desc) ≡ fits_made program objects v (type_described desc)
  described_fits objects class method v desc = told_fits objects class method v (type_described desc) (described_told desc)

  -- ---- kinds

  of_reference : (objects : List Object) (name : Name) (v : Value) → is_of program objects name v ≡ true → is_reference v ≡ true
  of_reference objects name (values.Int n) e = absurd cc
  of_reference objects name values.Null e = refl
  of_reference objects name (values.Ref at) e = refl
  of_reference objects name (values.Class index) e = refl
  of_reference objects name (values.Lit index) e = refl

  null_reference : (v : Value) → is_null v ≡ true → is_reference v ≡ true
  null_reference (values.Int n) e = absurd cc
  null_reference values.Null e = refl
  null_reference (values.Ref at) e = refl
  null_reference (values.Class index) e = refl
  null_reference (values.Lit index) e = refl

  there_object : (objects : List Object) (at : ℕ) (o : Option Object) (class : Name) → slice_get objects at ≡ o → option_map class_of_object o ≡ Some class
      → at < length objects
  there_object objects at None class e f = absurd cc
  there_object objects at (Some object) class e f = slice_get_within objects at object e

  pub class_object : (objects : List Object) (v : Value) (class : Name) → class_of_value objects v ≡ Some class → IsObject objects v
  class_object objects (values.Int n) class e = absurd cc
  class_object objects values.Null class e = tt
  class_object objects (values.Ref at) class e = there_object objects at (slice_get objects at) class refl e
  class_object objects (values.Class index) class e = tt
  class_object objects (values.Lit index) class e = tt

  null_object : (objects : List Object) (v : Value) → is_null v ≡ true → IsObject objects v
  null_object objects (values.Int n) e = absurd cc
  null_object objects values.Null e = tt
  null_object objects (values.Ref at) e = absurd cc
  null_object objects (values.Class index) e = tt
  null_object objects (values.Lit index) e = tt

  pub number_is : (v : Value) → is_number v ≡ true → IsNumber v
  number_is (values.Int n) e = tt
  number_is values.Null e = absurd cc
  number_is (values.Ref at) e = absurd cc
  number_is (values.Class index) e = absurd cc
  number_is (values.Lit index) e = absurd cc

  pub reference_is : (v : Value) → is_reference v ≡ true → IsReference v
  reference_is (values.Int n) e = absurd cc
  reference_is values.Null e = tt
  reference_is (values.Ref at) e = tt
  reference_is (values.Class index) e = tt
  reference_is (values.Lit index) e = tt

  module _ (objects : List Object) (class : LinkedClass) (method : Method) where
    abbrev of : Value → VType → Bool
    of v t = fits_type program objects class method v t

    just_object : (at : ℕ) (v : Value) → of v (types.Uninit at) ≡ true → is_of program objects (new_at method at) v ≡ true
    just_object at v h = just_is_of objects (new_at method at) v h

    named_object : (name : Name) (v : Value) → is_of program objects name v ≡ true → IsObject objects v
    named_object name v h = let c = class_of objects name v h in class_object objects v c.0 c.1

    -- a reference, made or not, is null or an object that is there
    pub wanted_object : (v : Value) (t : VType) → of v t ≡ true → wants_reference t ≡ true → IsObject objects v
    wanted_object v types.Top h e = absurd cc
    wanted_object v types.Int h e = absurd cc
    wanted_object v types.Null h e = null_object objects v h
    wanted_object v (types.Ref name) h e =
        elim (or_cases (is_null v) _ h) [
          | inl null ↦ null_object objects v null
          | inr is ↦ named_object name v is
        ]
    wanted_object v types.UninitThis h e = named_object class.name v h
    wanted_object v (types.Uninit at) h e = named_object (new_at method at) v (just_object at v h)

    pub wanted_reference : (v : Value) (t : VType) → of v t ≡ true → wants_reference t ≡ true → is_reference v ≡ true
    wanted_reference v types.Top h e = absurd cc
    wanted_reference v types.Int h e = absurd cc
    wanted_reference v types.Null h e = null_reference v h
    wanted_reference v (types.Ref name) h e =
        elim (or_cases (is_null v) _ h) [
          | inl null ↦ null_reference v null
          | inr is ↦ of_reference objects name v is
        ]
    wanted_reference v types.UninitThis h e = of_reference objects class.name v h
    wanted_reference v (types.Uninit at) h e = of_reference objects (new_at method at) v (just_object at v h)

    pub wanted_number : (v : Value) (t : VType) → of v t ≡ true → wants_number t ≡ true → is_number v ≡ true
    wanted_number v types.Top h e = absurd cc
    wanted_number v types.Int h e = h
    wanted_number v types.Null h e = absurd cc
    wanted_number v (types.Ref name) h e = absurd cc
    wanted_number v types.UninitThis h e = absurd cc
    wanted_number v (types.Uninit at) h e = absurd cc

    made_wanted : (t : VType) → is_made t ≡ true → wants_reference t ≡ true
    made_wanted types.Top e = absurd cc
    made_wanted types.Int e = absurd cc
    made_wanted types.Null e = refl
    made_wanted (types.Ref name) e = refl
    made_wanted types.UninitThis e = absurd cc
    made_wanted (types.Uninit at) e = absurd cc

    pub wanted_made : (v : Value) (t : VType) → of v t ≡ true → is_made t ≡ true → is_reference v ≡ true
    wanted_made v t h e = wanted_reference v t h (made_wanted t e)

    pub wanted_kind : (k : ValueKind) (v : Value) (t : VType) → of v t ≡ true → of_kind k t ≡ true → IsOf k v
    wanted_kind kinds.Int v t h e = wanted_number v t h e
    wanted_kind kinds.Reference v t h e = wanted_reference v t h e

    -- what a shape does to types it does to values of these types
    pub respects : Respects values_moved types_moved (fits_type program objects class method)
    respects = record {
      kind = wanted_kind;
      whole = wanted_made;
      number = λ n. refl;
      none = refl;
      fits_number = λ n. refl;
      from_two = λ op v w t u p q a b. refl;
      from_one = λ op v t p a. refl;
    }

    -- ---- what becomes of a type

    -- A handler finds nothing of an object that is not made yet.
    pub fits_thrown : (v : Value) (t : VType) → of v t ≡ true → of v (when_thrown t) ≡ true
    fits_thrown v types.Top h = h
    fits_thrown v types.Int h = h
    fits_thrown v types.Null h = h
    fits_thrown v (types.Ref name) h = h
    fits_thrown v types.UninitThis h = refl
    fits_thrown v (types.Uninit at) h = refl

    either_fits : (v : Value) (b : Bool) (t u : VType) → (b ≡ true → of v t ≡ true) → of v u ≡ true → of v (cond b t u) ≡ true
    either_fits v true t u h k = h refl
    either_fits v false t u h k = k

  -- ---- calls of constructors, and `new`

  module _ (place : InsnPlace) (objects : List Object) where
    abbrev here : Value → VType → Bool
    here v t = fits_type program objects place.class place.method v t

    this_made : (v : Value) (b : Bool) → is_of program objects place.class.name v ≡ true
        → here v (option_map_or (λ (class : Name). types.Ref class) (cond b (Some place.class.name) None) types.UninitThis) ≡ true
    this_made v true h = or_right (is_null v) _ h
    this_made v false h = h

    new_made : (v : Value) (i j : ℕ) (b : Bool) → bytes_eq (class_referred place) (new_at place.method i) ≡ b → i ≡ j → here v (types.Uninit j) ≡ true
        → here v (option_map_or (λ (class : Name). types.Ref class) (cond b (Some (class_referred place)) None) (types.Uninit j)) ≡ true
    new_made v i j true e same h =
        let named : new_at place.method j ≡ class_referred place =
        sym (ap (new_at place.method) same) ∙ sym ((bytes_eq-Decides (class_referred place) (new_at place.method i)).0 e) in
        or_right (is_null v) _ (subst (λ (n : Name). is_of program objects n v ≡ true) named (just_is_of objects (new_at place.method j) v h))
    new_made v i j false e same h = h

    made_same : (v : Value) (receiver t : VType) → is_same_object receiver t ≡ true → here v t ≡ true
        → here v (option_map_or (λ (class : Name). types.Ref class) (class_made place receiver) t) ≡ true
    made_same v types.UninitThis types.UninitThis e h = this_made v _ h
    made_same v (types.Uninit i) (types.Uninit j) e h = new_made v i j _ refl (eqb-true i j e) h
    made_same v receiver t e h = absurd cc

    pub fits_made_now : (receiver : VType) (v : Value) (t : VType) → here v t ≡ true → here v (when_made place receiver t) ≡ true
    fits_made_now receiver v t h =
        either_fits objects place.class place.method v (is_same_object receiver t) _ t (λ same. made_same v receiver t same h) h

    pub fits_new : (at : ℕ) (v : Value) (t : VType) → here v t ≡ true → here v (when_new at t) ≡ true
    fits_new at v t h = either_fits objects place.class place.method v (is_same_object (types.Uninit at) t) types.Top t (λ same. refl) h

    -- what becomes of a local or an operand that stays
    pub fits_changed : (taken : List VType) (what : Heap) (v : Value) (t : VType) → here v t ≡ true
        → here v (changed_by place taken (shapes.Heap what) t) ≡ true
    fits_changed taken heap.New v t h = fits_new place.at v t h
    fits_changed taken (heap.Call how) v t h =
        either_fits objects place.class place.method v (calls_maker place) (when_made place (type_at taken 0) t) t
        (λ maker. fits_made_now (type_at taken 0) v t h) h
    fits_changed taken what v t h = h

-- ---- what a value fits, it fits where the type is assignable

module _ (program : Program) (order : IsInOrder program) (objects : List Object) where
  pub is_of_over : (from to : Name) (v : Value) → assignable program (types.Ref from) (types.Ref to) ≡ true → is_of program objects from v ≡ true
      → is_of program objects to v ≡ true
  is_of_over from to v e h =
      let c = class_of program objects from v h in
      of_class program objects c.0 to v c.1 (type_over program order (types.Ref c.0) (types.Ref from) (types.Ref to) c.2 e)

  pub made_over : (v : Value) (t u : VType) → assignable program t u ≡ true → fits_made program objects v t ≡ true → fits_made program objects v u ≡ true
  made_over v t types.Top e h = refl
  made_over v types.Int types.Int e h = h
  made_over v types.Null types.Null e h = h
  made_over v types.Null (types.Ref to) e h = or_left (is_null v) _ h
  made_over v (types.Ref from) (types.Ref to) e h =
      elim (or_cases (is_null v) _ h) [
        | inl null ↦ or_left (is_null v) _ null
        | inr is ↦ or_right (is_null v) _ (is_of_over from to v e is)
      ]
  made_over v types.UninitThis types.UninitThis e h = h
  made_over v (types.Uninit i) (types.Uninit j) e h = h
  made_over v t u e h = absurd cc

  module _ (class : LinkedClass) (method : Method) where
    pub type_fits_over : (v : Value) (t u : VType) → assignable program t u ≡ true → fits_type program objects class method v t ≡ true
        → fits_type program objects class method v u ≡ true
    type_fits_over v t types.Top e h = refl
    type_fits_over v types.Int types.Int e h = h
    type_fits_over v types.Null types.Null e h = h
    type_fits_over v types.Null (types.Ref to) e h = or_left (is_null v) _ h
    type_fits_over v (types.Ref from) (types.Ref to) e h = made_over v (types.Ref from) (types.Ref to) e h
    type_fits_over v types.UninitThis types.UninitThis e h = h
    type_fits_over v (types.Uninit i) (types.Uninit j) e h =
        subst (λ (k : ℕ). is_just objects (new_at method k) v ≡ true) (eqb-true i j e) h
    type_fits_over v t u e h = absurd cc

    -- what is assignable to what a descriptor tells is of an object that is made
    pub described_over : (v : Value) (t : VType) (desc : List ℕ) → assignable program t (type_described desc) ≡ true
        → fits_type program objects class method v t ≡ true → fits_made program objects v (type_described desc) ≡ true
    described_over v t desc e h =
        sym (described_fits program objects class method v desc) ∙ type_fits_over v t (type_described desc) e h
