-- The objects of values that are of an array, or of a given class that is no interface.
use Rattle.std.proofs.Common.{◌≡◌, ℕ, zero, suc, Bool, true, false, List, [], ◌∷◌, ◌⊎◌, drop, Option, Some, None, refl, sym, ap, subst, ◌∙◌, inl, inr}
use Rattle.std.specs.Prelude.{codes, slice_get, option_map, not, ◌||◌}
use Rattle.std.specs.List.{AllByRecursion, list_all}
use Rattle.std.proofs.lemmas.Bool.{cases_Bool, or_cases, and_parts, false≢true, true≢false}
use Rattle.api_listing.specs.BuiltIn.{built_in_classes, class_rows}
use Rattle.api_listing.specs.Listing.{is_known}
use Rattle.class_codec.specs.declared.tree.Member.{Member}
use Rattle.cert_format.specs.declared.typing.Typing.{Typing}
use Rattle.cert_format.specs.declared.typing.VType.TheVariants as types
use Rattle.insn_codec.specs.Following.{Paired}
use Rattle.bytecode_model.specs.declared.program.LinkedClass.{LinkedClass}
use Rattle.bytecode_model.specs.declared.program.Program.{Program}
use Rattle.bytecode_model.specs.Arrays.{is_array}
use Rattle.bytecode_model.specs.Assigning.{assignable, component_fits}
use Rattle.bytecode_model.specs.Classes.{is_below, is_interface}
use Rattle.bytecode_model.specs.Described.{type_described}
use Rattle.bytecode_model.specs.Heads.{head_of, is_static}
use Rattle.bytecode_model.specs.SearchOrder.{Name}
use Rattle.bytecode_model.proofs.Lists.{all_get, some_is}
use Rattle.guest_heap.specs.declared.object.Object.{Object}
use Rattle.guest_heap.specs.declared.object.Object.TheVariants as objects
use Rattle.guest_heap.specs.declared.value.Value.{Value}
use Rattle.guest_heap.specs.declared.value.Value.TheVariants as values
use Rattle.guest_frames.specs.Values.{is_null}
use Rattle.guest_model.specs.Kinds.{class_of_object, class_of_value, string}
use Rattle.typed_runs.specs.Fitting.{HeapFits, ObjectFits, field_types, fits_made}
use Rattle.typed_runs.specs.Programs.{IsTypedProgram}
use Rattle.typed_runs.proofs.Above.{good_interface, interface_is, under_given}
use Rattle.typed_runs.proofs.Arrays.{item_over, only_arrays}
use Rattle.typed_runs.proofs.Listed.{built_in_known, given_apart, given_unlisted, known_below}
use Rattle.typed_runs.proofs.Types.{class_of, made_over}

pub null_is : (v : Value) → is_null v ≡ true → v ≡ values.Null
null_is (values.Int n) e = absurd cc
null_is values.Null e = refl
null_is (values.Ref at) e = absurd cc
null_is (values.Class index) e = absurd cc
null_is (values.Lit index) e = absurd cc

class_built_in : is_known built_in_classes (codes "java/lang/Class") ≡ true
unfolding class_rows
class_built_in = refl

string_built_in : is_known built_in_classes string ≡ true
unfolding class_rows
string_built_in = refl

pub all_pass : {A : Type 0} (p : A → Bool) (xs : List A) (i : ℕ) (x : A) → list_all p xs ≡ true → slice_get xs i ≡ Some x → p x ≡ true
all_pass p [] i x all e = absurd cc
all_pass p (y ∷ xs) zero x all e =
    let one : y ≡ x = some_is y x e in
    subst (λ (z : _). p z ≡ true) one (and_parts (p y) (list_all p xs) all).0
all_pass p (y ∷ xs) (suc i) x all e = all_pass p xs i x (and_parts (p y) (list_all p xs) all).1 e

module _ (program : Program) (typing : Typing) (ok : IsTypedProgram program typing) (heap : List Object) (fit : HeapFits program heap) where
  -- ---- arrays

  -- null, or an array of the heap whose items fit
  pub data ArrayOf (item : List ℕ) (v : Value) : Type 0 where
    no_array : v ≡ values.Null → ArrayOf item v
    an_array : (at : ℕ) (rest : List ℕ) (list : List Value) → v ≡ values.Ref at → slice_get heap at ≡ Some (objects.Array (91 ∷ rest) list)
        → component_fits program rest item ≡ true
        → AllByRecursion (λ (w : Value). fits_made program heap w (type_described rest) ≡ true) list → ArrayOf item v

  not_an_array : (name item : List ℕ) → is_array name ≡ false → assignable program (types.Ref name) (types.Ref (91 ∷ item)) ≡ true → ⊥
  not_an_array name item apart e =
      let a = only_arrays program ok.links.order name item e in
      false≢true (sym apart ∙ ap is_array a.1)

  in_array : (at : ℕ) (item : List ℕ) (object : Object) → slice_get heap at ≡ Some object → ObjectFits program heap object
      → assignable program (types.Ref (class_of_object object)) (types.Ref (91 ∷ item)) ≡ true → ArrayOf item (values.Ref at)
  in_array at item (objects.Plain class fields target thread) there f e = absurd (not_an_array class item f.0 e)
  in_array at item (objects.Array desc list) there f e =
      let a = only_arrays program ok.links.order desc item e in
      an_array at a.0 list refl (there ∙ ap (λ (d : List ℕ). Some (objects.Array d list)) a.1) a.2
      (subst (λ (d : List ℕ). AllByRecursion (λ (w : Value). fits_made program heap w (type_described (drop 1 d)) ≡ true) list) a.1 f.1)
  in_array at item (objects.Text text) there f e = absurd (not_an_array string item refl e)

  at_array : (at : ℕ) (item : List ℕ) (o : Option Object) (class : Name) → slice_get heap at ≡ o → option_map class_of_object o ≡ Some class
      → assignable program (types.Ref class) (types.Ref (91 ∷ item)) ≡ true → ArrayOf item (values.Ref at)
  at_array at item None class there e f = absurd cc
  at_array at item (Some object) class there e f =
      let named : class ≡ class_of_object object = sym (some_is (class_of_object object) class e) in
      in_array at item object there (all_get (ObjectFits program heap) heap at object fit there)
      (subst (λ (n : Name). assignable program (types.Ref n) (types.Ref (91 ∷ item)) ≡ true) named f)

  of_array : (item : List ℕ) (v : Value) (class : Name) → class_of_value heap v ≡ Some class
      → assignable program (types.Ref class) (types.Ref (91 ∷ item)) ≡ true → ArrayOf item v
  of_array item (values.Int n) class e f = absurd cc
  of_array item values.Null class e f = absurd cc
  of_array item (values.Ref at) class e f = at_array at item (slice_get heap at) class refl e f
  of_array item (values.Class index) class e f =
      absurd (not_an_array (codes "java/lang/Class") item refl
      (subst (λ (n : Name). assignable program (types.Ref n) (types.Ref (91 ∷ item)) ≡ true) (sym (some_is (codes "java/lang/Class") class e)) f))
  of_array item (values.Lit index) class e f =
      absurd (not_an_array string item refl (subst (λ (n : Name). assignable program (types.Ref n) (types.Ref (91 ∷ item)) ≡ true) (sym (some_is string class e)) f))

  pub array_of_value : (item : List ℕ) (v : Value) → fits_made program heap v (types.Ref (91 ∷ item)) ≡ true → ArrayOf item v
  array_of_value item v h =
      elim (or_cases (is_null v) _ h) [
        | inl null ↦ no_array (null_is v null)
        | inr is ↦ let c = class_of program heap (91 ∷ item) v is in of_array item v c.0 c.1 c.2
      ]

  -- the items fit what the items of the other array are
  pub items_over : (rest item : List ℕ) (w : Value) → component_fits program rest item ≡ true → fits_made program heap w (type_described rest) ≡ true
      → fits_made program heap w (type_described item) ≡ true
  items_over rest item w e h = made_over program ok.links.order heap w (type_described rest) (type_described item) (item_over program ok.links.order rest item e) h

  -- ---- objects of given classes

  -- a class with a field of objects is no interface
  pub not_interface : (own : ℕ) (class : LinkedClass) (field : ℕ) (member : Member) → slice_get program.classes own ≡ Some class
      → slice_get class.file.fields field ≡ Some member → is_static member.flags ≡ false → is_interface program class.name ≡ false
  not_interface own class field member there here apart =
      elim (cases_Bool (head_of class.file).is_interface) [
        | inl is ↦
            let g = good_interface program typing ok own class there in
            let both = by_interface (head_of class.file).is_interface _ is g in
            let all = (and_parts _ (list_all (λ (m : Member). is_static m.flags) class.file.fields) both).1 in
            absurd (false≢true (sym apart ∙ all_pass (λ (m : Member). is_static m.flags) class.file.fields field member all here))
        | inr fails ↦ interface_is program typing ok own class there ∙ fails
      ] where
        by_interface : (b c : Bool) → b ≡ true → (not b || c) ≡ true → c ≡ true
        by_interface true c e f = f
        by_interface false c e f = absurd cc

  module _ (own : ℕ) (class : LinkedClass) (there : slice_get program.classes own ≡ Some class) (apart : is_interface program class.name ≡ false) where
    -- null, or an object of the class or of one below it
    pub data ObjectOf (v : Value) : Type 0 where
      no_object : v ≡ values.Null → ObjectOf v
      an_object : (at : ℕ) (name : Name) (fields : List Value) (target : Value) (thread : Option ℕ) → v ≡ values.Ref at
          → slice_get heap at ≡ Some (objects.Plain name fields target thread)
          → (name ≡ class.name) ⊎ (is_below program name class.name ≡ true)
          → Paired (fits_made program heap) fields (field_types program name) → is_array name ≡ false → ObjectOf v

    -- none of a class of the listing
    not_listed : (name : Name) → is_known program.listing.classes name ≡ true → assignable program (types.Ref name) (types.Ref class.name) ≡ true → ⊥
    not_listed name known e =
        elim (under_given program typing ok name own class there apart e) [
          | inl same ↦ given_unlisted program typing ok own class there (subst (λ (n : Name). is_known program.listing.classes n ≡ true) same known)
          | inr below ↦ given_unlisted program typing ok own class there (known_below program typing ok name class.name known below.1)
        ]

    class_or_below : (name : Name) → assignable program (types.Ref name) (types.Ref class.name) ≡ true
        → (name ≡ class.name) ⊎ (is_below program name class.name ≡ true)
    class_or_below name e =
        elim (under_given program typing ok name own class there apart e) [
          | inl same ↦ inl same
          | inr below ↦ inr below.1
        ]

    not_array_of : (desc : Name) → is_array desc ≡ true → assignable program (types.Ref desc) (types.Ref class.name) ≡ true → ⊥
    not_array_of desc is e =
        elim (under_given program typing ok desc own class there apart e) [
          | inl same ↦ true≢false (sym is ∙ ap is_array same ∙ given_apart program typing ok own class there)
          | inr below ↦ true≢false (sym is ∙ below.0)
        ]

    in_object : (at : ℕ) (object : Object) → slice_get heap at ≡ Some object → ObjectFits program heap object
        → assignable program (types.Ref (class_of_object object)) (types.Ref class.name) ≡ true → ObjectOf (values.Ref at)
    in_object at (objects.Plain name fields target thread) here f e =
        an_object at name fields target thread refl here (class_or_below name e) f.1 f.0
    in_object at (objects.Array desc list) here f e = absurd (not_array_of desc f.0 e)
    in_object at (objects.Text text) here f e = absurd (not_listed string (built_in_known program typing ok string string_built_in) e)

    at_object : (at : ℕ) (o : Option Object) (name : Name) → slice_get heap at ≡ o → option_map class_of_object o ≡ Some name
        → assignable program (types.Ref name) (types.Ref class.name) ≡ true → ObjectOf (values.Ref at)
    at_object at None name here e f = absurd cc
    at_object at (Some object) name here e f =
        let named : name ≡ class_of_object object = sym (some_is (class_of_object object) name e) in
        in_object at object here (all_get (ObjectFits program heap) heap at object fit here)
        (subst (λ (n : Name). assignable program (types.Ref n) (types.Ref class.name) ≡ true) named f)

    of_object : (v : Value) (name : Name) → class_of_value heap v ≡ Some name
        → assignable program (types.Ref name) (types.Ref class.name) ≡ true → ObjectOf v
    of_object (values.Int n) name e f = absurd cc
    of_object values.Null name e f = absurd cc
    of_object (values.Ref at) name e f = at_object at (slice_get heap at) name refl e f
    of_object (values.Class index) name e f =
        absurd (not_listed (codes "java/lang/Class") (built_in_known program typing ok (codes "java/lang/Class") class_built_in)
        (subst (λ (n : Name). assignable program (types.Ref n) (types.Ref class.name) ≡ true) (sym (some_is (codes "java/lang/Class") name e)) f))
    of_object (values.Lit index) name e f =
        absurd (not_listed string (built_in_known program typing ok string string_built_in)
        (subst (λ (n : Name). assignable program (types.Ref n) (types.Ref class.name) ≡ true) (sym (some_is string name e)) f))

    pub object_of_value : (v : Value) → fits_made program heap v (types.Ref class.name) ≡ true → ObjectOf v
    object_of_value v h =
        elim (or_cases (is_null v) _ h) [
          | inl null ↦ no_object (null_is v null)
          | inr is ↦ let c = class_of program heap class.name v is in of_object v c.0 c.1 c.2
        ]
