-- What fits in a heap fits in each to which it grows; and how heaps grow.
use Rattle.std.proofs.Common.{◌≡◌, ℕ, zero, suc, Bool, true, false, List, [], ◌∷◌, ◌++◌, length, Option, Some, None, refl, sym, ap, ◌∙◌, inl, inr}
use Rattle.std.specs.Prelude.{bytes_eq, codes, slice_get, slice_set, option_map, is_some, IsSomeAnd}
use Rattle.std.specs.List.{AllByRecursion}
use Rattle.std.specs.Option.{option_map_or}
use Rattle.std.proofs.lemmas.Bool.{or_cases, or_left, or_right}
use Rattle.api_listing.specs.declared.types.ListedMethod.{ListedMethod}
use Rattle.cert_format.specs.declared.typing.Typing.{Typing}
use Rattle.cert_format.specs.declared.typing.VType.{VType}
use Rattle.cert_format.specs.declared.typing.VType.TheVariants as types
use Rattle.insn_codec.specs.Following.{Paired}
use Rattle.bytecode_model.specs.declared.program.LinkedClass.{LinkedClass}
use Rattle.bytecode_model.specs.declared.program.Method.{Method}
use Rattle.bytecode_model.specs.declared.program.Program.{Program}
use Rattle.bytecode_model.specs.Assigning.{assignable}
use Rattle.bytecode_model.specs.Makes.{new_at}
use Rattle.bytecode_model.specs.Described.{result_type}
use Rattle.bytecode_model.specs.SearchOrder.{Name}
use Rattle.bytecode_model.proofs.Lists.{some_is, all_append, all_get}
use Rattle.guest_heap.specs.declared.frame.Frame.{Frame}
use Rattle.guest_heap.specs.declared.object.Object.{Object}
use Rattle.guest_heap.specs.declared.object.Object.TheVariants as objects
use Rattle.guest_heap.specs.declared.thread.Doing.{Doing}
use Rattle.guest_heap.specs.declared.thread.Doing.TheVariants as doings
use Rattle.guest_heap.specs.declared.thread.Thread.{Thread}
use Rattle.guest_heap.specs.declared.value.Value.{Value}
use Rattle.guest_heap.specs.declared.value.Value.TheVariants as values
use Rattle.guest_model.proofs.Options.{all_set}
use Rattle.guest_model.specs.Runs.{inner}
use Rattle.guest_model.specs.Parts.{main_argument}
use Rattle.guest_frames.specs.Values.{is_null, is_number}
use Rattle.guest_model.specs.Calling.{with_changed}
use Rattle.guest_model.specs.Kinds.{class_of_object, class_of_value}
use Rattle.typed_runs.specs.Fitting.{HeapFits, ObjectFits, StaticsFit, field_types, fits_made, fits_type, is_just, is_of, is_there, static_types}
use Rattle.typed_runs.specs.Frames.{AreRunning, AreWaiting, IsReady, IsWaiting}
use Rattle.typed_runs.specs.Growing.{Grows}
use Rattle.typed_runs.specs.Machines.{BeginsRight, FramesFit, ThreadFits}
use Rattle.typed_runs.proofs.Pairs.{paired_also}
use Rattle.typed_runs.proofs.Types.{held, holds_at}

-- ---- lists of which something holds

pub all_also : {A : Type 0} (P Q : A → Type 0) (xs : List A) → ((x : A) → P x → Q x) → AllByRecursion P xs → AllByRecursion Q xs
all_also P Q [] each all = tt
all_also P Q (x ∷ xs) each all = (each x all.0, all_also P Q xs each all.1)

pub get_front : {A : Type 0} (xs ys : List A) (i : ℕ) (x : A) → slice_get xs i ≡ Some x → slice_get (xs ++ ys) i ≡ Some x
get_front [] ys i x e = absurd cc
get_front (y ∷ xs) ys zero x e = e
get_front (y ∷ xs) ys (suc i) x e = get_front xs ys i x e

pub get_after : {A : Type 0} (xs : List A) (x : A) (ys : List A) → slice_get (xs ++ x ∷ ys) (length xs) ≡ Some x
get_after [] x ys = refl
get_after (y ∷ xs) x ys = get_after xs x ys

-- ---- how a heap grows

pub grows_itself : (heap : List Object) → Grows heap heap
grows_itself heap at object e = ap (option_map class_of_object) e

pub grows_after : (heap more : List Object) → Grows heap (heap ++ more)
grows_after heap more at object e = ap (option_map class_of_object) (get_front heap more at object e)

found_again : (o : Option Object) (name : Name) → option_map class_of_object o ≡ Some name → (object : Object) × (o ≡ Some object) × (class_of_object object ≡ name)
found_again None name e = absurd cc
found_again (Some object) name e = (object, refl, some_is (class_of_object object) name e)

pub grows_on : (heap new later : List Object) → Grows heap new → Grows new later → Grows heap later
grows_on heap new later g h at object e =
    let f = found_again (slice_get new at) (class_of_object object) (g at object e) in
    h at f.0 f.1 ∙ ap (λ (n : Name). Some n) f.2

-- an object in the place of another of its class
grows_set_at : (heap : List Object) (at : ℕ) (old new : Object) (j : ℕ) (object : Object) → slice_get heap at ≡ Some old
    → class_of_object new ≡ class_of_object old → slice_get heap j ≡ Some object
    → option_map class_of_object (slice_get (slice_set heap at new) j) ≡ Some (class_of_object object)
grows_set_at [] at old new j object e same f = absurd cc
grows_set_at (first ∷ heap) zero old new zero object e same f =
    let one : first ≡ old = some_is first old e in
    let other : first ≡ object = some_is first object f in
    ap (λ (n : Name). Some n) (same ∙ ap class_of_object (sym one ∙ other))
grows_set_at (first ∷ heap) zero old new (suc j) object e same f = ap (option_map class_of_object) f
grows_set_at (first ∷ heap) (suc at) old new zero object e same f = ap (option_map class_of_object) f
grows_set_at (first ∷ heap) (suc at) old new (suc j) object e same f = grows_set_at heap at old new j object e same f

pub grows_set : (heap : List Object) (at : ℕ) (old new : Object) → slice_get heap at ≡ Some old → class_of_object new ≡ class_of_object old
    → Grows heap (slice_set heap at new)
grows_set heap at old new e same j object f = grows_set_at heap at old new j object e same f

-- ---- what fits in a heap that has grown

module _ (heap new : List Object) (grows : Grows heap new) where
  grown_at : (at : ℕ) (name : Name) (o : Option Object) → slice_get heap at ≡ o → option_map class_of_object o ≡ Some name
      → option_map class_of_object (slice_get new at) ≡ Some name
  grown_at at name None e f = absurd cc
  grown_at at name (Some object) e f = grows at object e ∙ f

  pub class_grown : (v : Value) (name : Name) → class_of_value heap v ≡ Some name → class_of_value new v ≡ Some name
  class_grown (values.Int n) name e = e
  class_grown values.Null name e = e
  class_grown (values.Ref at) name e = grown_at at name (slice_get heap at) refl e
  class_grown (values.Class index) name e = e
  class_grown (values.Lit index) name e = e

  -- a test of the class
  pub test_grown : (test : Name → Bool) (v : Value) → option_map_or test (class_of_value heap v) false ≡ true
      → option_map_or test (class_of_value new v) false ≡ true
  test_grown test v e =
      let h = holds_at test (class_of_value heap v) e in
      held test (class_of_value new v) h.item (class_grown v h.item h.is) h.passes

  pub just_grown : (name : Name) (v : Value) → is_just heap name v ≡ true → is_just new name v ≡ true
  just_grown name v e = test_grown (bytes_eq name) v e

  some_grown : (v : Value) (o : Option Name) → class_of_value heap v ≡ o → is_some o ≡ true → is_some (class_of_value new v) ≡ true
  some_grown v None e f = absurd cc
  some_grown v (Some name) e f = ap is_some (class_grown v name e)

  pub there_grown : (v : Value) → is_there heap v ≡ true → is_there new v ≡ true
  there_grown v e =
      elim (or_cases (is_number v) _ e) [
        | inl number ↦ or_left (is_number v) _ number
        | inr rest ↦
            elim (or_cases (is_null v) _ rest) [
              | inl null ↦ or_right (is_number v) _ (or_left (is_null v) _ null)
              | inr some ↦ or_right (is_number v) _ (or_right (is_null v) _ (some_grown v (class_of_value heap v) refl some))
            ]
      ]

  module _ (program : Program) where
    pub of_grown : (name : Name) (v : Value) → is_of program heap name v ≡ true → is_of program new name v ≡ true
    of_grown name v e = test_grown (λ class. assignable program (types.Ref class) (types.Ref name)) v e

    pub made_grown : (v : Value) (t : VType) → fits_made program heap v t ≡ true → fits_made program new v t ≡ true
    made_grown v types.Top e = e
    made_grown v types.Int e = e
    made_grown v types.Null e = e
    made_grown v (types.Ref name) e =
        elim (or_cases (is_null v) _ e) [
          | inl null ↦ or_left (is_null v) _ null
          | inr is ↦ or_right (is_null v) _ (of_grown name v is)
        ]
    made_grown v types.UninitThis e = e
    made_grown v (types.Uninit at) e = e

    pub type_grown : (class : LinkedClass) (method : Method) (v : Value) (t : VType) → fits_type program heap class method v t ≡ true
        → fits_type program new class method v t ≡ true
    type_grown class method v types.Top e = e
    type_grown class method v types.Int e = e
    type_grown class method v types.Null e = e
    type_grown class method v (types.Ref name) e = made_grown v (types.Ref name) e
    type_grown class method v types.UninitThis e = of_grown class.name v e
    type_grown class method v (types.Uninit at) e = just_grown (new_at method at) v e

    -- ---- objects and static fields

    pub object_grown : (object : Object) → ObjectFits program heap object → ObjectFits program new object
    object_grown (objects.Plain class fields target thread) f =
        (f.0, paired_also (fits_made program heap) (fits_made program new) fields (field_types program class) made_grown f.1)
    object_grown (objects.Array desc items) f = (f.0, all_also _ _ items (λ v e. made_grown v _ e) f.1)
    object_grown (objects.Text text) f = tt

    pub objects_grown : (list : List Object) → AllByRecursion (ObjectFits program heap) list → AllByRecursion (ObjectFits program new) list
    objects_grown list all = all_also (ObjectFits program heap) (ObjectFits program new) list object_grown all

    static_grown : (o : Option (List Value)) (class : LinkedClass)
        → IsSomeAnd o (λ (fields : List Value). Paired (fits_made program heap) fields (static_types class.file))
        → IsSomeAnd o (λ (fields : List Value). Paired (fits_made program new) fields (static_types class.file))
    static_grown None class h = absurd h
    static_grown (Some fields) class h = paired_also (fits_made program heap) (fits_made program new) fields (static_types class.file) made_grown h

    pub statics_grown : (statics : List (List Value)) → StaticsFit program heap statics → StaticsFit program new statics
    statics_grown statics fit own class there = static_grown (slice_get statics own) class (fit own class there)

    pub begins_grown : BeginsRight program heap → BeginsRight program new
    begins_grown b = record {
      fields = λ index field there. just_grown (inner field.desc) (values.Ref index) (b.fields index field there);
      main = just_grown (codes "[Ljava/lang/String;") (main_argument program) b.main;
    }

    -- ---- frames and threads

    module _ (typing : Typing) where
      pub ready_grown : (frame : Frame) → IsReady program typing heap frame → IsReady program typing new frame
      ready_grown frame r = record {
        stands = r.stands;
        locals = paired_also _ _ frame.locals _ (type_grown r.stands.class r.stands.method) r.locals;
        operands = paired_also _ _ frame.stack.items _ (type_grown r.stands.class r.stands.method) r.operands;
        room = r.room;
      }

      pub waiting_grown : (result : Option VType) (frame : Frame) → IsWaiting program typing heap result frame → IsWaiting program typing new result frame
      waiting_grown result frame w = record {
        stands = w.stands;
        how = w.how;
        calls = w.calls;
        gives = w.gives;
        locals = paired_also _ _ frame.locals _ (type_grown w.stands.class w.stands.method) w.locals;
        operands = paired_also _ _ frame.stack.items _ (type_grown w.stands.class w.stands.method) w.operands;
      }

      pub all_waiting_grown : (result : Option VType) (frames : List Frame) → AreWaiting program typing heap result frames
          → AreWaiting program typing new result frames
      unfolding waiting_grown
      all_waiting_grown result [] w = tt
      all_waiting_grown result (frame ∷ below) w = (waiting_grown result frame w.0, all_waiting_grown (result_type w.0.stands.method.desc) below w.1)

      pub running_grown : (frames : List Frame) → AreRunning program typing heap frames → AreRunning program typing new frames
      unfolding ready_grown
      running_grown [] r = absurd r
      running_grown (frame ∷ below) r = (ready_grown frame r.0, all_waiting_grown (result_type r.0.stands.method.desc) below r.1)

      in_call_grown : (o : Option ListedMethod) (frames : List Frame)
          → IsSomeAnd o (λ (listed : ListedMethod). AreWaiting program typing heap (result_type listed.id.desc) frames)
          → IsSomeAnd o (λ (listed : ListedMethod). AreWaiting program typing new (result_type listed.id.desc) frames)
      in_call_grown None frames h = absurd h
      in_call_grown (Some listed) frames h = all_waiting_grown (result_type listed.id.desc) frames h

      pub frames_grown : (frames : List Frame) (doing : Doing) → FramesFit program typing heap frames doing → FramesFit program typing new frames doing
      frames_grown frames doings.Running f = running_grown frames f
      frames_grown frames (doings.InCall method receiver arguments) f = (
        all_also _ _ _ (λ v e. there_grown v e) f.0,
        in_call_grown (slice_get program.listing.methods method) frames f.1,
        λ interfaces listed there. all_also _ _ _ (λ v e. made_grown v (types.Ref listed.id.class) e) (f.2 interfaces listed there),
      )
      frames_grown frames doings.Ended f = f

      pub thread_grown : (thread : Thread) → ThreadFits program typing heap thread → ThreadFits program typing new thread
      thread_grown thread t = record { frames = frames_grown thread.frames thread.doing t.frames; to_begin = t.to_begin }

-- ---- heaps that grow

module _ (program : Program) where
  -- one object more
  pub heap_after : (heap : List Object) (object : Object) → HeapFits program heap → ObjectFits program (heap ++ object ∷ []) object
      → HeapFits program (heap ++ object ∷ [])
  heap_after heap object all one =
      all_append (ObjectFits program (heap ++ object ∷ [])) heap (object ∷ [])
      (objects_grown heap (heap ++ object ∷ []) (grows_after heap (object ∷ [])) program heap all) (one, tt)

  -- an object in the place of another of its class
  pub heap_set : (heap : List Object) (at : ℕ) (old new : Object) → slice_get heap at ≡ Some old → class_of_object new ≡ class_of_object old
      → HeapFits program heap → (ObjectFits program (slice_set heap at new) new) → HeapFits program (slice_set heap at new)
  heap_set heap at old new e same all one =
      all_set (ObjectFits program (slice_set heap at new)) heap at new
      (objects_grown heap (slice_set heap at new) (grows_set heap at old new e same) program heap all) one

  -- ---- a change of an object that keeps what it holds

  -- an object with another target, or started
  pub record Keeps (f : Object → Object) : Type 0 where
    pub class : (object : Object) → class_of_object (f object) ≡ class_of_object object
    pub fits : (heap : List Object) (object : Object) → ObjectFits program heap object → ObjectFits program heap (f object)

  changed_at : (heap : List Object) (at : ℕ) (f : Object → Object) (o : Option Object) → Keeps f → slice_get heap at ≡ o → HeapFits program heap
      → Grows heap (option_map_or (λ (object : Object). slice_set heap at (f object)) o heap)
      × HeapFits program (option_map_or (λ (object : Object). slice_set heap at (f object)) o heap)
  changed_at heap at f None k e all = (grows_itself heap, all)
  changed_at heap at f (Some object) k e all =
      let grows = grows_set heap at object (f object) e (k.class object) in
      let one = all_get (ObjectFits program heap) heap at object all e in
      (grows, heap_set heap at object (f object) e (k.class object) all (k.fits _ object (object_grown heap _ grows program object one)))

  pub changed_keeps : (heap : List Object) (v : Value) (f : Object → Object) → Keeps f → HeapFits program heap
      → Grows heap (with_changed heap v f) × HeapFits program (with_changed heap v f)
  changed_keeps heap (values.Int n) f k all = (grows_itself heap, all)
  changed_keeps heap values.Null f k all = (grows_itself heap, all)
  changed_keeps heap (values.Ref at) f k all = changed_at heap at f (slice_get heap at) k refl all
  changed_keeps heap (values.Class index) f k all = (grows_itself heap, all)
  changed_keeps heap (values.Lit index) f k all = (grows_itself heap, all)
