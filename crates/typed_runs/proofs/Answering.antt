-- Answers of the library: what one that fits gives is of the result's type, and what it throws may be thrown.
use Rattle.std.proofs.Common.{◌≡◌, ℕ, ℤ, zero, suc, Bool, true, false, cond, List, [], ◌∷◌, ◌++◌, length, replicate, Option, Some, None, refl, sym, ap, subst, inl, inr}
use Rattle.std.specs.Prelude.{IsTrue, bytes_eq, codes, is_some, not, ◌||◌, ◌==◌, nat_le, option_map, slice_get}
use Rattle.std.specs.List.{AllByRecursion}
use Rattle.std.specs.Option.{option_map_or, option_to_list}
use Rattle.std.proofs.lemmas.Bool.{and_parts, cases_Bool, eqb-true, or_cases, or_left, or_right}
use Rattle.std.proofs.lemmas.Slice.Eq.{bytes_eq-Decides}
use Rattle.api_listing.specs.declared.descriptor.Element.{Element}
use Rattle.api_listing.specs.declared.descriptor.Element.TheVariants as elements
use Rattle.api_listing.specs.declared.descriptor.FieldType.{FieldType}
use Rattle.api_listing.specs.declared.events.ApiAnswer.{ApiAnswer}
use Rattle.api_listing.specs.declared.events.ApiAnswer.TheVariants as answers
use Rattle.api_listing.specs.declared.types.ListedClass.{ListedClass}
use Rattle.api_listing.specs.BuiltIn.{built_in_classes, object}
use Rattle.api_listing.specs.Descriptor.{element_encoded, result_encoded, type_encoded}
use Rattle.api_listing.specs.Listing.{is_known}
use Rattle.api_listing.specs.Nearest.{class_named}
use Rattle.cert_format.specs.declared.typing.Typing.{Typing}
use Rattle.cert_format.specs.declared.typing.VType.{VType}
use Rattle.cert_format.specs.declared.typing.VType.TheVariants as types
use Rattle.bytecode_model.specs.declared.program.Program.{Program}
use Rattle.bytecode_model.specs.Assigning.{assignable, reference_of}
use Rattle.bytecode_model.specs.Classes.{is_below, is_interface}
use Rattle.bytecode_model.specs.Described.{type_described}
use Rattle.bytecode_model.specs.SearchOrder.{Name}
use Rattle.guest_heap.specs.declared.object.Object.{Object}
use Rattle.guest_heap.specs.declared.object.Object.TheVariants as objects
use Rattle.guest_heap.specs.declared.value.Value.{Value}
use Rattle.guest_heap.specs.declared.value.Value.TheVariants as values
use Rattle.guest_model.specs.Answers.{fits_number, is_number_of}
use Rattle.guest_model.specs.Throwing.{bare_object}
use Rattle.guest_frames.specs.Values.{is_null}
use Rattle.guest_model.specs.Answering.{answer_fits, given, is_listed_class, is_no_object, is_of as is_of_result, of_class as of_result, result_class, takes_text, thrown_by}
use Rattle.guest_model.specs.Changes.{World, with_object}
use Rattle.guest_model.specs.Kinds.{class_of_object, class_of_value, is_instance, string}
use Rattle.guest_model.proofs.Options.{all_get}
use Rattle.typed_runs.specs.Fitting.{ObjectFits, fits_made, is_of, is_there}
use Rattle.typed_runs.specs.Programs.{IsTypedProgram}
use Rattle.typed_runs.proofs.Above.{below_fits, interface_fits}
use Rattle.typed_runs.proofs.Arrays.{instance_fits, reference_described}
use Rattle.typed_runs.proofs.Changed.{WorldFits}
use Rattle.typed_runs.proofs.Growing.{get_after, grows_after, grows_on, heap_after, statics_grown}
use Rattle.typed_runs.proofs.Calling.Returning.{ResultFits}
use Rattle.typed_runs.proofs.Thrown.{bare_fits}
use Rattle.typed_runs.proofs.Types.{holds_at, of_class}

-- ---- the type of a result

-- as the verifier has it
abbrev pub type_given : Option FieldType → Option VType
type_given None = None
type_given (Some t) = Some (type_described (type_encoded t))

-- read off the text
abbrev pub type_of_text : List ℕ → Option VType
type_of_text text = cond (bytes_eq text (codes "V")) None (Some (type_described text))

one_given : (dimensions : ℕ) (element : Element)
    → type_of_text (replicate dimensions 91 ++ element_encoded element) ≡ Some (type_described (replicate dimensions 91 ++ element_encoded element))
one_given zero elements.Boolean = refl
one_given zero elements.Byte = refl
one_given zero elements.Char = refl
one_given zero elements.Short = refl
one_given zero elements.Int = refl
one_given zero (elements.Class name) = refl
one_given (suc n) element = refl

pub text_given : (result : Option FieldType) → type_of_text (result_encoded result) ≡ type_given result
text_given None = refl
text_given (Some t) = one_given t.dimensions t.element

number_told : (dimensions : ℕ) (element : Element) (n : ℤ) → dimensions ≡ 0 → is_number_of element n ≡ true
    → type_described (replicate dimensions 91 ++ element_encoded element) ≡ types.Int
number_told zero elements.Boolean n e h = refl
number_told zero elements.Byte n e h = refl
number_told zero elements.Char n e h = refl
number_told zero elements.Short n e h = refl
number_told zero elements.Int n e h = refl
number_told zero (elements.Class name) n e h = absurd cc
number_told (suc m) element n e h = absurd cc

-- a result of a class, or an array, of which something holds
pub record OfClass (result : Option FieldType) (test : Name → Bool) : Type 0 where
  pub name : Name
  pub type : type_given result ≡ Some (types.Ref name)
  pub passes : test name ≡ true

of_class_by : (result : Option FieldType) (test : Name → Bool) → of_result result test ≡ true → OfClass result test
of_class_by None test e = absurd cc
of_class_by (Some t) test e =
    let h = holds_at test (reference_of (type_encoded t)) e in
    record { name = h.item; type = ap (λ (u : VType). Some u) (reference_described (type_encoded t) h.item h.is); passes = h.passes }

-- ---- values that are passed

all_after : {A : Type 0} (P : A → Type 0) (o : Option A) (xs : List A) → AllByRecursion P (option_to_list o ++ xs) → AllByRecursion P xs
all_after P None xs all = all
all_after P (Some x) xs all = all.1

-- what the test of an answer's class tells
some_or_none : {A : Type 0} (o : Option A) → is_some o ≡ true → option_map_or (λ (x : A). true) o false ≡ true
some_or_none None e = e
some_or_none (Some x) e = refl

module _ (program : Program) (typing : Typing) (ok : IsTypedProgram program typing) where
  known_so : (name : Name) (classes : List ListedClass) (test : ListedClass → Bool) → option_map_or test (class_named classes name) false ≡ true
      → is_known classes name ≡ true
  known_so name [] test e = absurd cc
  known_so name (c ∷ classes) test e =
      elim (cases_Bool (bytes_eq c.name name)) [
        | inl is ↦ or_left (bytes_eq c.name name) _ is
        | inr fails ↦
            let later : option_map_or test (class_named classes name) false ≡ true = rw fails at e in
            or_right (bytes_eq c.name name) _ (known_so name classes test later)
      ]

  -- ---- the test of an answer that is an object

  of_interface : (heap : List Object) (name : Name) (v : Value) (o : Option Name) → class_of_value heap v ≡ o → is_some o ≡ true
      → is_interface program name ≡ true → is_of program heap name v ≡ true
  of_interface heap name v None e some is = absurd cc
  of_interface heap name v (Some class) e some is = of_class program heap class name v e (interface_fits program typing ok class name is)

  of_either : (heap : List Object) (name : Name) (v : Value) → is_some (class_of_value heap v) ≡ true
      → (is_interface program name || is_instance program heap v name) ≡ true → fits_made program heap v (types.Ref name) ≡ true
  of_either heap name v some e =
      or_right (is_null v) _
      (elim (or_cases (is_interface program name) _ e) [
        | inl is ↦ of_interface heap name v (class_of_value heap v) refl some is
        | inr is ↦ instance_fits program heap v name is
      ])

  of_result_fits : (heap : List Object) (name : Name) (v : Value) → is_there heap v ≡ true → is_of_result program heap v name ≡ true
      → fits_made program heap v (types.Ref name) ≡ true
  of_result_fits heap name (values.Int n) there e = absurd cc
  of_result_fits heap name values.Null there e = refl
  of_result_fits heap name (values.Ref at) there e = of_either heap name (values.Ref at) there e
  of_result_fits heap name (values.Class index) there e = of_either heap name (values.Class index) refl e
  of_result_fits heap name (values.Lit index) there e = of_either heap name (values.Lit index) refl e

  no_object_fits : (heap : List Object) (name : Name) (v : Value) → is_no_object v ≡ true → fits_made program heap v (types.Ref name) ≡ true
  no_object_fits heap name (values.Int n) e = absurd cc
  no_object_fits heap name values.Null e = refl
  no_object_fits heap name (values.Ref at) e = absurd cc
  no_object_fits heap name (values.Class index) e = absurd cc
  no_object_fits heap name (values.Lit index) e = absurd cc

  text_taken : (name : Name) → takes_text program name ≡ true → assignable program (types.Ref string) (types.Ref name) ≡ true
  text_taken name e =
      elim (or_cases (bytes_eq name string) _ e) [
        | inl is ↦ subst (λ (n : Name). assignable program (types.Ref string) (types.Ref n) ≡ true) (sym ((bytes_eq-Decides name string).0 is)) refl
        | inr more ↦
            elim (or_cases (bytes_eq name object) _ more) [
              | inl is ↦ subst (λ (n : Name). assignable program (types.Ref string) (types.Ref n) ≡ true) (sym ((bytes_eq-Decides name object).0 is)) refl
              | inr is ↦ interface_fits program typing ok string name is
            ]
      ]

  -- ---- results

  number_result : (heap : List Object) (result : Option FieldType) (n : ℤ) → fits_number result n ≡ true
      → ResultFits program heap (type_given result) (Some (values.Int n))
  number_result heap None n e = absurd cc
  number_result heap (Some t) n e =
      let a = and_parts (t.dimensions == 0) (is_number_of t.element n) e in
      subst (λ (u : VType). fits_made program heap (values.Int n) u ≡ true) (sym (number_told t.dimensions t.element n (eqb-true t.dimensions 0 a.0) a.1)) refl

  no_result : (heap : List Object) (result : Option FieldType) → not (is_some result) ≡ true → ResultFits program heap (type_given result) None
  no_result heap None e = tt
  no_result heap (Some t) e = absurd cc

  object_result : (heap : List Object) (result : Option FieldType) (name : Name) (v : Value) → type_given result ≡ Some (types.Ref name)
      → fits_made program heap v (types.Ref name) ≡ true → ResultFits program heap (type_given result) (Some v)
  object_result heap result name v e h = subst (λ (t : Option VType). ResultFits program heap t (Some v)) (sym e) h

  -- What is given: what is shared then fits, and so does the result.
  pub record GivenWell (heap : List Object) (type : Option VType) (made : World × Option Value) : Type 0 where
    pub shared : WorldFits program heap made.0
    pub result : ResultFits program made.0.heap type made.1

  module _ (heap : List Object) (world : World) (fits : WorldFits program heap world) where
    -- with one object more
    more_fits : (object : Object) → ObjectFits program (world.heap ++ object ∷ []) object → WorldFits program heap (with_object world object)
    more_fits object one =
        let grows = grows_after world.heap (object ∷ []) in
        record {
          grows = grows_on heap world.heap (world.heap ++ object ∷ []) fits.grows grows;
          objects = heap_after program world.heap object fits.objects one;
          statics = statics_grown world.heap (world.heap ++ object ∷ []) grows program world.statics fits.statics;
        }

    -- the new object is of a class that is assignable to the result's
    new_result : (object : Object) (result : Option FieldType) (name : Name) → type_given result ≡ Some (types.Ref name)
        → assignable program (types.Ref (class_of_object object)) (types.Ref name) ≡ true
        → ResultFits program (world.heap ++ object ∷ []) (type_given result) (Some (values.Ref (length world.heap)))
    new_result object result name e h =
        let is : class_of_value (world.heap ++ object ∷ []) (values.Ref (length world.heap)) ≡ Some (class_of_object object) =
        ap (option_map class_of_object) (get_after world.heap object []) in
        object_result (world.heap ++ object ∷ []) result name (values.Ref (length world.heap)) e
        (of_class program (world.heap ++ object ∷ []) (class_of_object object) name (values.Ref (length world.heap)) is h)

    module _ (result : Option FieldType) (receiver : Option Value) (arguments : List Value)
        (there : AllByRecursion (λ (v : Value). IsTrue (is_there world.heap v)) (option_to_list receiver ++ arguments)) where
      abbrev GivesWell : ApiAnswer → Type 0
      GivesWell answer = (made : World × Option Value) × (given world receiver arguments answer ≡ Some made) × GivenWell heap (type_given result) made

      fresh_well : (class : Name) → answer_fits program world.heap result receiver arguments (answers.Fresh class) ≡ true → GivesWell (answers.Fresh class)
      fresh_well class e =
          let a = and_parts (of_result result (λ name. is_interface program name || is_below program class name)) (is_listed_class program class) e in
          let o = of_class_by result (λ name. is_interface program name || is_below program class name) a.0 in
          let l = and_parts (option_map_or (λ (c : ListedClass). not c.is_interface) (class_named program.listing.classes class) false) (not (is_known built_in_classes class)) a.1 in
          let known = known_so class program.listing.classes (λ (c : ListedClass). not c.is_interface) l.0 in
          let below : assignable program (types.Ref class) (types.Ref o.name) ≡ true =
          elim (or_cases (is_interface program o.name) _ o.passes) [
            | inl is ↦ interface_fits program typing ok class o.name is
            | inr is ↦ below_fits program typing ok class o.name is
          ] in (
            (with_object world (bare_object class), Some (values.Ref (length world.heap))),
            refl,
            record {
              shared = more_fits (bare_object class) (bare_fits program typing ok (world.heap ++ bare_object class ∷ []) class known);
              result = new_result (bare_object class) result o.name o.type below;
            },
          )

      argument_well : (i : ℕ) → answer_fits program world.heap result receiver arguments (answers.Arg i) ≡ true → GivesWell (answers.Arg i)
      argument_well i e =
          let h = holds_at (λ (v : Value). of_result result (λ name. is_no_object v || is_of_result program world.heap v name)) (slice_get arguments i) e in
          let o = of_class_by result (λ name. is_no_object h.item || is_of_result program world.heap h.item name) h.passes in
          let is = all_get (λ (v : Value). IsTrue (is_there world.heap v)) arguments i h.item (all_after _ receiver arguments there) h.is in
          let one : fits_made program world.heap h.item (types.Ref o.name) ≡ true =
          elim (or_cases (is_no_object h.item) _ o.passes) [
            | inl none ↦ no_object_fits world.heap o.name h.item none
            | inr of ↦ of_result_fits world.heap o.name h.item is of
          ] in (
            (world, Some h.item),
            ap (option_map (λ (v : Value). (world, Some v))) h.is,
            record { shared = fits; result = object_result world.heap result o.name h.item o.type one },
          )

  receiver_well : (heap : List Object) (world : World) (fits : WorldFits program heap world) (result : Option FieldType) (receiver : Option Value) (arguments : List Value)
      → AllByRecursion (λ (v : Value). IsTrue (is_there world.heap v)) (option_to_list receiver ++ arguments)
      → answer_fits program world.heap result receiver arguments answers.Receiver ≡ true
      → (made : World × Option Value) × (given world receiver arguments answers.Receiver ≡ Some made) × GivenWell heap (type_given result) made
  receiver_well heap world fits result None arguments there e = absurd cc
  receiver_well heap world fits result (Some v) arguments there e =
      let o = of_class_by result (is_of_result program world.heap v) e in (
        (world, Some v),
        refl,
        record { shared = fits; result = object_result world.heap result o.name v o.type (of_result_fits world.heap o.name v there.0 o.passes) },
      )

  -- An answer that fits, and throws nothing, gives a result of the type.
  pub gives_well : (heap : List Object) (world : World) → WorldFits program heap world → (result : Option FieldType) (receiver : Option Value) (arguments : List Value)
      → AllByRecursion (λ (v : Value). IsTrue (is_there world.heap v)) (option_to_list receiver ++ arguments)
      → (answer : ApiAnswer) → thrown_by answer ≡ None → answer_fits program world.heap result receiver arguments answer ≡ true
      → (made : World × Option Value) × (given world receiver arguments answer ≡ Some made) × GivenWell heap (type_given result) made
  gives_well heap world fits result receiver arguments there answers.Nothing calm e =
      ((world, None), refl, record { shared = fits; result = no_result world.heap result e })
  gives_well heap world fits result receiver arguments there (answers.Int n) calm e =
      ((world, Some (values.Int n)), refl, record { shared = fits; result = number_result world.heap result n e })
  gives_well heap world fits result receiver arguments there answers.Null calm e =
      let o = of_class_by result (λ (n : Name). true) (some_or_none (result_class result) e) in
      ((world, Some values.Null), refl, record { shared = fits; result = object_result world.heap result o.name values.Null o.type refl })
  gives_well heap world fits result receiver arguments there (answers.Text text) calm e =
      let a = and_parts (of_result result (takes_text program)) (nat_le (length text) 65535) e in
      let o = of_class_by result (takes_text program) a.0 in (
        (with_object world (objects.Text text), Some (values.Ref (length world.heap))),
        refl,
        record {
          shared = more_fits heap world fits (objects.Text text) tt;
          result = new_result heap world fits (objects.Text text) result o.name o.type (text_taken o.name o.passes);
        },
      )
  gives_well heap world fits result receiver arguments there (answers.Fresh class) calm e = fresh_well heap world fits result receiver arguments there class e
  gives_well heap world fits result receiver arguments there (answers.Arg i) calm e = argument_well heap world fits result receiver arguments there i e
  gives_well heap world fits result receiver arguments there answers.Receiver calm e = receiver_well heap world fits result receiver arguments there e
  gives_well heap world fits result receiver arguments there (answers.Throws class) calm e = absurd cc
