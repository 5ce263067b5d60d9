-- Instructions of a ready frame that work on the heap or on static fields: what they need and leave, in general, and those on
-- numbers, classes and new objects.
use Rattle.std.proofs.Common.{◌≡◌, ℕ, ℤ, Bool, true, false, cond, List, [], ◌∷◌, ◌++◌, length, reverse, drop, replicate, Option, Some, None, refl, sym, ap, subst, ◌∙◌, arith}
use Rattle.std.specs.Prelude.{◌≢◌, pos, negsuc, codes, slice_get, option_map, Result, Ok, Err, ◌==◌}
use Rattle.std.specs.List.{Contains}
use Rattle.std.specs.Ordering.{int_eq}
use Rattle.std.proofs.lemmas.Bool.{and_parts, false≢true}
use Rattle.api_listing.specs.Listing.{is_known}
use Rattle.cert_format.specs.declared.typing.Typing.{Typing}
use Rattle.cert_format.specs.declared.typing.VType.{VType}
use Rattle.cert_format.specs.declared.typing.VType.TheVariants as types
use Rattle.insn_codec.specs.declared.shape.Heap.{Heap}
use Rattle.insn_codec.specs.declared.shape.Heap.TheVariants as heaps
use Rattle.insn_codec.specs.declared.shape.Shape.{Shape}
use Rattle.insn_codec.specs.declared.shape.Shape.TheVariants as shapes
use Rattle.insn_codec.specs.Following.{Paired}
use Rattle.insn_codec.specs.Shapes.{shape_of}
use Rattle.bytecode_model.specs.declared.operand.Use.{Use}
use Rattle.bytecode_model.specs.declared.operand.Use.TheVariants as uses
use Rattle.bytecode_model.specs.declared.program.Program.{Program}
use Rattle.bytecode_model.specs.declared.program.Target.{Target}
use Rattle.bytecode_model.specs.declared.program.Target.TheVariants as target
use Rattle.bytecode_model.specs.Arrays.{is_array, array_of}
use Rattle.bytecode_model.specs.Classes.{classes_of}
use Rattle.bytecode_model.specs.Makes.{array_named, below, constant_type, made_by, new_at, new_in, yields_of}
use Rattle.bytecode_model.specs.Operands.{use_of}
use Rattle.bytecode_model.specs.InsnPlace.{InsnPlace, class_of}
use Rattle.bytecode_model.specs.Rules.{taken}
use Rattle.bytecode_model.specs.SearchOrder.{Name}
use Rattle.bytecode_model.specs.Targets.{Names, TakesClass, is_type, takes_array, takes_class}
use Rattle.bytecode_model.specs.Uses.{UsesAreShaped, use_on_heap, use_shaped}
use Rattle.bytecode_model.specs.Wants.{all_met, takes, takes_of}
use Rattle.bytecode_model.proofs.Lists.{some_is}
use Rattle.guest_heap.specs.declared.frame.Frame.{Frame}
use Rattle.guest_heap.specs.declared.object.Object.{Object}
use Rattle.guest_heap.specs.declared.object.Object.TheVariants as objects
use Rattle.guest_heap.specs.declared.value.Value.{Value}
use Rattle.guest_heap.specs.declared.value.Value.TheVariants as values
use Rattle.guest_model.specs.Places.{class_index}
use Rattle.guest_model.specs.Parts.{constant_value}
use Rattle.guest_frames.specs.Values.{is_number, is_reference}
use Rattle.guest_model.specs.Changes.{World, with_object}
use Rattle.guest_model.specs.Kinds.{class_of_object, class_of_value, is_instance, string}
use Rattle.guest_model.specs.Layout.{first_value, new_of}
use Rattle.guest_model.specs.Moving.{IsReadyFor}
use Rattle.guest_model.specs.HeapOperations.{HeapResult, array_made, bad_cast, is_cast, quotient, truth, heap_result}
use Rattle.typed_runs.specs.Fitting.{HeapFits, ObjectFits, StaticsFit, fits_made, fits_type}
use Rattle.typed_runs.specs.Frames.{IsReady, stands_at}
use Rattle.typed_runs.specs.Programs.{IsTypedProgram}
use Rattle.typed_runs.proofs.Arrays.{instance_fits}
use Rattle.typed_runs.proofs.Changed.{OperationFits, WorldFits}
use Rattle.typed_runs.proofs.Going.{heap_holds, split_stack, stack_following}
use Rattle.typed_runs.proofs.Growing.{get_after, grows_after, grows_itself, heap_after, statics_grown, type_grown}
use Rattle.typed_runs.proofs.Pairs.{paired_also}
use Rattle.typed_runs.proofs.Places.{first_value_fits, new_fits, replicated}
use Rattle.typed_runs.proofs.Rows.{is_insn, names, ref_there, rules}
use Rattle.typed_runs.proofs.Taken.{one_taken, two_taken}
use Rattle.typed_runs.proofs.Thrown.{built_in_thrown, thrown_names}
use Rattle.typed_runs.proofs.Types.{class_just, own_class, reference_is, wanted_made, wanted_number}

pub number_value : (v : Value) → is_number v ≡ true → (n : ℤ) × (v ≡ values.Int n)
number_value (values.Int n) e = (n, refl)
number_value values.Null e = absurd cc
number_value (values.Ref at) e = absurd cc
number_value (values.Class index) e = absurd cc
number_value (values.Lit index) e = absurd cc

-- ---- worlds that fit

module _ (program : Program) (world : World) (fit : HeapFits program world.heap) (statics : StaticsFit program world.heap world.statics) where
  pub same_world : WorldFits program world.heap world
  same_world = record { grows = grows_itself world.heap; objects = fit; statics = statics }

  pub object_more : (object : Object) → ObjectFits program (world.heap ++ object ∷ []) object → WorldFits program world.heap (with_object world object)
  object_more object f =
      let grows = grows_after world.heap (object ∷ []) in
      record {
        grows = grows;
        objects = heap_after program world.heap object fit f;
        statics = statics_grown world.heap (world.heap ++ object ∷ []) grows program world.statics statics;
      }

pub new_class : (heap : List Object) (object : Object) → class_of_value (heap ++ object ∷ []) (values.Ref (length heap)) ≡ Some (class_of_object object)
new_class heap object = ap (option_map class_of_object) (get_after heap object [])

pub new_is_of : (program : Program) (heap : List Object) (object : Object) → fits_made program (heap ++ object ∷ []) (values.Ref (length heap)) (types.Ref (class_of_object object)) ≡ true
new_is_of program heap object = own_class program (heap ++ object ∷ []) (class_of_object object) (values.Ref (length heap)) (new_class heap object)

-- ---- an instruction of a ready frame

module _ (program : Program) (typing : Typing) (ok : IsTypedProgram program typing) (shaped : UsesAreShaped) (world : World)
    (fit : HeapFits program world.heap) (statics : StaticsFit program world.heap world.statics) (frame : Frame) (r : IsReady program typing world.heap frame) where
  abbrev pub here : InsnPlace
  here = stands_at r.stands

  abbrev pub taken_here : List VType
  taken_here = taken here r.stands.type

  -- the types of the operands that it does not take, the topmost first
  abbrev pub under_here : List VType
  under_here = reverse (below (length (takes here)) r.stands.type.stack)

  abbrev pub holds : Value → VType → Bool
  holds v t = fits_type program world.heap r.stands.class r.stands.method v t

  abbrev pub WellDone : HeapResult → Type 0
  WellDone o = OperationFits program r.stands.class r.stands.method world.heap (stack_following here r.stands.type) o

  -- It is ready, and what it comes to fits.
  abbrev pub OperatesOn : Heap → Target → List Value → Type 0
  OperatesOn what ref items = IsReadyFor program world what ref items × WellDone (heap_result program world what ref items)

  pub fails : (name : Name) → Contains thrown_names name → WellDone (Some (Err name))
  fails name has = built_in_thrown program typing ok name has

  pub either_done : (b : Bool) (o p : HeapResult) → WellDone o → WellDone p → WellDone (cond b o p)
  either_done true o p h k = h
  either_done false o p h k = k

  pub result_done : (b : Bool) (x y : Result (World × List Value) Name) → (b ≡ true → WellDone (Some x)) → WellDone (Some y) → WellDone (Some (cond b x y))
  result_done true x y h k = h refl
  result_done false x y h k = k

  module _ (what : Heap) (shape : shape_of r.stands.insn ≡ shapes.Heap what) where
    pub met_here : all_met (takes_of here (shapes.Heap what)) taken_here ≡ true
    met_here =
        let a = and_parts (all_met (takes here) taken_here) _ (rules program typing ok frame r.stands).operand in
        subst (λ (x : Shape). all_met (takes_of here x) taken_here ≡ true) shape a.0

    pub split_here : Paired holds frame.stack.items (reverse taken_here ++ under_here)
    split_here = subst (λ (ts : List VType). Paired holds frame.stack.items ts) (split_stack (length (takes here)) r.stands.type.stack) r.operands

    pub use_here : use_of r.stands.insn ≡ use_on_heap what
    use_here = shaped r.stands.insn (is_insn program typing ok frame r.stands) ∙ ap use_shaped shape

    -- what it leaves
    pub leaves : (new : World) (pushed items : List Value) → WorldFits program world.heap new
        → Paired (fits_type program new.heap r.stands.class r.stands.method) pushed
        (reverse (yields_of here r.stands.type.locals taken_here (shapes.Heap what)))
        → Paired holds items under_here → WellDone (Some (Ok (new, pushed ++ items)))
    leaves new pushed items w p q =
        let grown : (vs : List Value) (ts : List VType) → Paired holds vs ts → Paired (fits_type program new.heap r.stands.class r.stands.method) vs ts =
        λ vs ts. paired_also holds (fits_type program new.heap r.stands.class r.stands.method) vs ts
        (type_grown world.heap new.heap w.grows program r.stands.class r.stands.method) in (
          w,
          (heap_holds program new.heap here r.stands.type what shape frame.locals items pushed (grown frame.locals _ r.locals) (grown items _ q)
              (subst (λ (x : Shape). Paired (fits_type program new.heap r.stands.class r.stands.method) pushed
              (reverse (yields_of here r.stands.type.locals taken_here x))) (sym shape) p)).items_hold,
        )

    none_taken : (ts : List VType) → all_met [] ts ≡ true → Paired holds frame.stack.items (reverse ts ++ under_here) → Paired holds frame.stack.items under_here
    none_taken [] e p = p
    none_taken (t ∷ ts) e p = absurd cc

    -- all operands stay
    pub stays_here : all_met [] taken_here ≡ true → Paired holds frame.stack.items under_here
    stays_here e = none_taken taken_here e split_here

  -- ---- constants

  constant_fits : (ref : Target) (v : Value) → constant_value program ref ≡ Some v → holds v (constant_type ref) ≡ true
  constant_fits (target.Number n) v e =
      subst (λ (x : Value). holds x types.Int ≡ true) (some_is (values.Int n) v e) refl
  constant_fits (target.Literal index) v e =
      subst (λ (x : Value). holds x (types.Ref string) ≡ true) (some_is (values.Lit index) v e)
      (own_class program world.heap string (values.Lit index) refl)
  constant_fits (target.ClassName name) v e = by (class_index program name) e where
    by : (o : Option ℕ) → option_map values.Class o ≡ Some v → holds v (types.Ref (codes "java/lang/Class")) ≡ true
    by None f = absurd cc
    by (Some index) f =
        subst (λ (x : Value). holds x (types.Ref (codes "java/lang/Class")) ≡ true) (some_is (values.Class index) v f)
        (own_class program world.heap (codes "java/lang/Class") (values.Class index) refl)
  constant_fits target.None v e = absurd cc
  constant_fits (target.ApiMethod index) v e = absurd cc
  constant_fits (target.Builtin index) v e = absurd cc
  constant_fits (target.Method of index) v e = absurd cc
  constant_fits (target.Field of index) v e = absurd cc
  constant_fits (target.ApiField index) v e = absurd cc

  module _ (shape : shape_of r.stands.insn ≡ shapes.Heap heaps.Constant) where
    constant_done : (o : Option Value) → constant_value program here.ref ≡ o
        → WellDone (option_map (λ (v : Value). Ok (world, v ∷ frame.stack.items)) o)
    constant_done None e = tt
    constant_done (Some v) e =
        leaves heaps.Constant shape world (v ∷ []) frame.stack.items (same_world program world fit statics) (constant_fits here.ref v e, tt)
        (stays_here heaps.Constant shape (met_here heaps.Constant shape))

    loads : (ref : Target) → Names program r.stands.class r.stands.insn ref → use_of r.stands.insn ≡ uses.Load
        → IsReadyFor program world heaps.Constant ref frame.stack.items
    loads target.None named used = absurd (let h : uses.Load ≡ uses.Nothing = sym used ∙ named in cc)
    loads (target.Number n) named used = tt
    loads (target.Literal index) named used = tt
    loads (target.ClassName name) named used =
        let known : is_type (classes_of program) (takes_array uses.Load) name ≡ true =
        subst (λ (u : Use). is_type (classes_of program) (takes_array u) name ≡ true) used named.known in
        by (is_array name) known where
          by : (b : Bool) → cond b false (is_known (classes_of program) name) ≡ true → is_known (classes_of program) name ≡ true
          by true e = absurd cc
          by false e = e
    loads (target.ApiMethod index) named used = absurd (let h : uses.Load ≡ uses.Call named.static named.of_interface = sym used ∙ named.calls in cc)
    loads (target.Builtin index) named used = absurd (let h : uses.Load ≡ uses.Call named.static named.of_interface = sym used ∙ named.calls in cc)
    loads (target.Method of index) named used = absurd (let h : uses.Load ≡ uses.Call named.static named.of_interface = sym used ∙ named.calls in cc)
    loads (target.Field of index) named used = absurd (let h : uses.Load ≡ uses.Field named.static named.writes = sym used ∙ named.accesses in cc)
    loads (target.ApiField index) named used = absurd (let h : uses.Load ≡ uses.Field named.static named.writes = sym used ∙ named.accesses in cc)

    pub constant_operates : OperatesOn heaps.Constant here.ref frame.stack.items
    constant_operates =
        (loads here.ref (names program typing ok frame r.stands) (use_here heaps.Constant shape), constant_done (constant_value program here.ref) refl)

  -- ---- numbers

  module _ (remainder : Bool) (shape : shape_of r.stands.insn ≡ shapes.Heap (heaps.Divide remainder)) where
    divided_done : (below : List Value) (x y : ℤ) → Paired holds below under_here
        → OperatesOn (heaps.Divide remainder) here.ref (values.Int y ∷ values.Int x ∷ below)
    divided_done below x y left = (
      (tt, tt),
      either_done (int_eq y (pos 0)) _ _ (fails _ (2, omega arith, refl))
          (leaves (heaps.Divide remainder) shape world (values.Int (quotient remainder x y) ∷ []) below (same_world program world fit statics) (refl, tt) left),
    )

    pub divide_operates : OperatesOn (heaps.Divide remainder) here.ref frame.stack.items
    divide_operates =
        let t = two_taken holds _ _ taken_here under_here frame.stack.items (met_here (heaps.Divide remainder) shape) (split_here (heaps.Divide remainder) shape) in
        let x = number_value t.lower (wanted_number program world.heap r.stands.class r.stands.method t.lower t.low_type t.lower_fits t.low_met) in
        let y = number_value t.upper (wanted_number program world.heap r.stands.class r.stands.method t.upper t.high_type t.upper_fits t.high_met) in
        subst (λ (items : List Value). OperatesOn (heaps.Divide remainder) here.ref items)
        (ap (λ (v : Value). v ∷ values.Int x.0 ∷ t.below) (sym y.1) ∙ ap (λ (v : Value). t.upper ∷ v ∷ t.below) (sym x.1) ∙ sym t.items_are)
        (divided_done t.below x.0 y.0 t.left)

  -- ---- classes that are named

  type_named : (used : Use) → takes_class used ≡ true → used ≢ uses.Load → (ref : Target) → Names program r.stands.class r.stands.insn ref
      → use_of r.stands.insn ≡ used → (name : Name) × (ref ≡ target.ClassName name)
  type_named used takes other target.None named is = absurd (false≢true (ap takes_class (sym named ∙ is) ∙ takes))
  type_named used takes other (target.Number n) named is = absurd (other (sym is ∙ named.0))
  type_named used takes other (target.Literal index) named is = absurd (other (sym is ∙ named.loads))
  type_named used takes other (target.ClassName name) named is = (name, refl)
  type_named used takes other (target.ApiMethod index) named is = absurd (false≢true (ap takes_class (sym named.calls ∙ is) ∙ takes))
  type_named used takes other (target.Builtin index) named is = absurd (false≢true (ap takes_class (sym named.calls ∙ is) ∙ takes))
  type_named used takes other (target.Method of index) named is = absurd (false≢true (ap takes_class (sym named.calls ∙ is) ∙ takes))
  type_named used takes other (target.Field of index) named is = absurd (false≢true (ap takes_class (sym named.accesses ∙ is) ∙ takes))
  type_named used takes other (target.ApiField index) named is = absurd (false≢true (ap takes_class (sym named.accesses ∙ is) ∙ takes))

  named_here : (used : Use) → takes_class used ≡ true → used ≢ uses.Load → use_of r.stands.insn ≡ used → (name : Name) × (here.ref ≡ target.ClassName name)
  named_here used takes other is = type_named used takes other here.ref (names program typing ok frame r.stands) is

  new_other : uses.New ≢ uses.Load
  new_other e = cc

  type_other : uses.Type ≢ uses.Load
  type_other e = cc

  module _ (shape : shape_of r.stands.insn ≡ shapes.Heap heaps.Cast) where
    cast_reference : (name : Name) (v : Value) → is_reference v ≡ true → is_cast program world.heap v name ≡ true → holds v (types.Ref name) ≡ true
    cast_reference name (values.Int n) e f = absurd cc
    cast_reference name values.Null e f = refl
    cast_reference name (values.Ref at) e f = instance_fits program world.heap (values.Ref at) name f
    cast_reference name (values.Class index) e f = instance_fits program world.heap (values.Class index) name f
    cast_reference name (values.Lit index) e f = instance_fits program world.heap (values.Lit index) name f

    pub cast_operates : OperatesOn heaps.Cast here.ref frame.stack.items
    cast_operates =
        let c = named_here uses.Type refl type_other (use_here heaps.Cast shape) in
        let t = one_taken holds _ taken_here under_here frame.stack.items (met_here heaps.Cast shape) (split_here heaps.Cast shape) in
        let is = wanted_made program world.heap r.stands.class r.stands.method t.value t.type t.fits t.met in
        let done_with : Value → Result (World × List Value) Name = λ v. cond (is_cast program world.heap v c.0) (Ok (world, t.value ∷ t.below)) (Err bad_cast) in
        let there : option_map done_with (cond (is_reference t.value) (Some t.value) None) ≡ Some (done_with t.value) = rw is refl in
        let done : WellDone (heap_result program world heaps.Cast (target.ClassName c.0) (t.value ∷ t.below)) =
        subst WellDone (sym there)
        (result_done (is_cast program world.heap t.value c.0) _ _
        (λ cast. leaves heaps.Cast shape world (t.value ∷ []) t.below (same_world program world fit statics)
        (subst (λ (ref : Target). holds t.value (types.Ref (class_of ref)) ≡ true) (sym c.1) (cast_reference c.0 t.value is cast), tt) t.left)
        (fails _ (6, omega arith, refl))) in
        subst (λ (items : List Value). OperatesOn heaps.Cast here.ref items) (sym t.items_are)
        (subst (λ (ref : Target). OperatesOn heaps.Cast ref (t.value ∷ t.below)) (sym c.1) ((tt, reference_is program t.value is), done))

  module _ (shape : shape_of r.stands.insn ≡ shapes.Heap heaps.IsInstance) where
    truth_fits : (b : Bool) → holds (truth b) types.Int ≡ true
    truth_fits true = refl
    truth_fits false = refl

    pub instance_operates : OperatesOn heaps.IsInstance here.ref frame.stack.items
    instance_operates =
        let c = named_here uses.Type refl type_other (use_here heaps.IsInstance shape) in
        let t = one_taken holds _ taken_here under_here frame.stack.items (met_here heaps.IsInstance shape) (split_here heaps.IsInstance shape) in
        let is = wanted_made program world.heap r.stands.class r.stands.method t.value t.type t.fits t.met in
        let told : Value → Value = λ (v : Value). truth (is_instance program world.heap v c.0) in
        let done_with : Value → Result (World × List Value) Name = λ v. Ok (world, told v ∷ t.below) in
        let there : option_map done_with (cond (is_reference t.value) (Some t.value) None) ≡ Some (done_with t.value) = rw is refl in
        let done : WellDone (heap_result program world heaps.IsInstance (target.ClassName c.0) (t.value ∷ t.below)) =
        subst WellDone (sym there)
        (leaves heaps.IsInstance shape world (told t.value ∷ []) t.below (same_world program world fit statics)
        (truth_fits (is_instance program world.heap t.value c.0), tt) t.left) in
        subst (λ (items : List Value). OperatesOn heaps.IsInstance here.ref items) (sym t.items_are)
        (subst (λ (ref : Target). OperatesOn heaps.IsInstance ref (t.value ∷ t.below)) (sym c.1) ((tt, reference_is program t.value is), done))

  -- ---- new objects

  module _ (shape : shape_of r.stands.insn ≡ shapes.Heap heaps.New) where
    class_apart : (ref : Target) (name : Name) → ref ≡ target.ClassName name → Names program r.stands.class r.stands.insn ref → is_array name ≡ false
    class_apart ref name e named =
        let takes : TakesClass program r.stands.class r.stands.insn name = subst (λ (x : Target). Names program r.stands.class r.stands.insn x) e named in
        let known : is_type (classes_of program) (takes_array uses.New) name ≡ true =
        subst (λ (u : Use). is_type (classes_of program) (takes_array u) name ≡ true) (use_here heaps.New shape) takes.known in
        by (is_array name) known where
          by : (b : Bool) → cond b false (is_known (classes_of program) name) ≡ true → b ≡ false
          by true f = sym f
          by false f = refl

    new_name : (name : Name) → here.ref ≡ target.ClassName name → new_at r.stands.method frame.at ≡ name
    new_name name e =
        ap (λ o. new_in o (slice_get r.stands.method.refs frame.at)) r.stands.next
        ∙ ap (new_in (Some r.stands.insn)) (ref_there program typing ok frame r.stands ∙ ap (λ (x : Target). Some x) e)
        ∙ ap (λ (x : Shape). made_by x (target.ClassName name)) shape

    pub new_operates : OperatesOn heaps.New here.ref frame.stack.items
    new_operates =
        let c = named_here uses.New refl new_other (use_here heaps.New shape) in
        let object : Object = new_of program c.0 in
        let w = object_more program world fit statics object (new_fits program (world.heap ++ object ∷ []) c.0 (class_apart here.ref c.0 c.1 (names program typing ok frame r.stands))) in
        let is : fits_type program (world.heap ++ object ∷ []) r.stands.class r.stands.method (values.Ref (length world.heap)) (types.Uninit frame.at) ≡ true =
        class_just (world.heap ++ object ∷ []) (new_at r.stands.method frame.at) (values.Ref (length world.heap))
        (new_class world.heap object ∙ ap (λ (n : Name). Some n) (sym (new_name c.0 c.1))) in
        subst (λ (ref : Target). OperatesOn heaps.New ref frame.stack.items) (sym c.1) (
          tt,
          leaves heaps.New shape (with_object world object) (values.Ref (length world.heap) ∷ []) frame.stack.items w (is, tt)
              (stays_here heaps.New shape (met_here heaps.New shape)),
        )

  -- ---- new arrays

  array_fits : (desc : List ℕ) (n : ℕ) → is_array desc ≡ true
      → WorldFits program world.heap (with_object world (objects.Array desc (replicate n (first_value (drop 1 desc)))))
  array_fits desc n is =
      let object : Object = objects.Array desc (replicate n (first_value (drop 1 desc))) in
      object_more program world fit statics object
      (is, replicated _ n (first_value (drop 1 desc)) (first_value_fits program (world.heap ++ object ∷ []) (drop 1 desc)))

  module _ (what : Heap) (shape : shape_of r.stands.insn ≡ shapes.Heap what) (desc : List ℕ) (is : is_array desc ≡ true)
      (gives : yields_of here r.stands.type.locals taken_here (shapes.Heap what) ≡ types.Ref desc ∷ []) where
    made_done : (n : ℤ) (below : List Value) → Paired holds below under_here → WellDone (array_made world desc n below)
    made_done (pos n) below left =
        let object : Object = objects.Array desc (replicate n (first_value (drop 1 desc))) in
        leaves what shape (with_object world object) (values.Ref (length world.heap) ∷ []) below (array_fits desc n is)
        (subst (λ (ts : List VType). Paired (fits_type program (world.heap ++ object ∷ []) r.stands.class r.stands.method) (values.Ref (length world.heap) ∷ []) (reverse ts))
        (sym gives) (new_is_of program world.heap object, tt)) left
    made_done (negsuc n) below left = fails _ (5, omega arith, refl)

  named_array : (kind : ℕ) → is_array (array_named kind) ≡ true
  named_array kind = by (kind == 4) (kind == 5) (kind == 8) (kind == 9) where
    by : (a b c d : Bool) → is_array (cond a (codes "[Z") (cond b (codes "[C") (cond c (codes "[B") (cond d (codes "[S") (codes "[I"))))) ≡ true
    by true b c d = refl
    by false true c d = refl
    by false false true d = refl
    by false false false true = refl
    by false false false false = refl

  module _ (kind : ℕ) (shape : shape_of r.stands.insn ≡ shapes.Heap (heaps.NewArray kind)) where
    pub new_array_operates : OperatesOn (heaps.NewArray kind) here.ref frame.stack.items
    new_array_operates =
        let what = heaps.NewArray kind in
        let t = one_taken holds _ taken_here under_here frame.stack.items (met_here what shape) (split_here what shape) in
        let n = number_value t.value (wanted_number program world.heap r.stands.class r.stands.method t.value t.type t.fits t.met) in
        subst (λ (items : List Value). OperatesOn what here.ref items) (ap (λ (v : Value). v ∷ t.below) (sym n.1) ∙ sym t.items_are)
        (tt, made_done what shape (array_named kind) (named_array kind) refl n.0 t.below t.left)

  module _ (shape : shape_of r.stands.insn ≡ shapes.Heap heaps.NewArrayOf) where
    pub new_array_of_operates : OperatesOn heaps.NewArrayOf here.ref frame.stack.items
    new_array_of_operates =
        let c = named_here uses.Type refl type_other (use_here heaps.NewArrayOf shape) in
        let t = one_taken holds _ taken_here under_here frame.stack.items (met_here heaps.NewArrayOf shape) (split_here heaps.NewArrayOf shape) in
        let n = number_value t.value (wanted_number program world.heap r.stands.class r.stands.method t.value t.type t.fits t.met) in
        let gives : types.Ref (array_of (class_of here.ref)) ∷ [] ≡ types.Ref (array_of c.0) ∷ [] =
        ap (λ (ref : Target). types.Ref (array_of (class_of ref)) ∷ []) c.1 in
        subst (λ (items : List Value). OperatesOn heaps.NewArrayOf here.ref items) (ap (λ (v : Value). v ∷ t.below) (sym n.1) ∙ sym t.items_are)
        (subst (λ (ref : Target). OperatesOn heaps.NewArrayOf ref (values.Int n.0 ∷ t.below)) (sym c.1)
        ((tt, tt), made_done heaps.NewArrayOf shape (array_of c.0) refl gives n.0 t.below t.left))
