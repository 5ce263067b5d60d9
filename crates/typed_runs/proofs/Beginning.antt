-- The machine at the start fits: its objects, its static fields, and its first thread.
use Rattle.std.proofs.Common.{◌≡◌, ℕ, ℤ, suc, ◌+◌, ◌<◌, Bool, true, false, cond, List, [], ◌∷◌, ◌++◌, ◌-◌, length, map, take, Option, Some, None, refl, sym, ap, subst, ◌∙◌, arith, inl, inr}
use Rattle.std.specs.Prelude.{bytes_eq, codes, if◌then◌else◌, not, ◌==◌, ◌&&◌, ◌||◌, option_and_then, option_map, slice_get}
use Rattle.std.specs.List.{AllByRecursion, cons_option, enumerate_from, filter_map}
use Rattle.std.specs.Option.{option_map_or}
use Rattle.std.proofs.lemmas.Bool.{and_parts, cases_Bool, ltb-true}
use Rattle.std.proofs.lemmas.List.{length-map}
use Rattle.std.proofs.lemmas.Option.{slice_get-map}
use Rattle.std.proofs.lemmas.Slice.Eq.{bytes_eq-Decides}
use Rattle.mon_base.specs.declared.method.MethodId.{MethodId}
use Rattle.class_codec.specs.declared.tree.ClassFile.{ClassFile}
use Rattle.class_codec.specs.declared.tree.Const.{Const}
use Rattle.class_codec.specs.declared.tree.Const.TheVariants as constants
use Rattle.class_codec.specs.declared.tree.Member.{Member}
use Rattle.class_codec.specs.Pool.{utf8_at}
use Rattle.api_listing.specs.Listing.{is_known}
use Rattle.cert_format.specs.declared.typing.Typing.{Typing}
use Rattle.cert_format.specs.declared.typing.VType.TheVariants as types
use Rattle.insn_codec.specs.Following.{Paired}
use Rattle.bytecode_model.specs.declared.program.LinkedClass.{LinkedClass}
use Rattle.bytecode_model.specs.declared.program.Method.{Method}
use Rattle.bytecode_model.specs.declared.program.Program.{Program}
use Rattle.bytecode_model.specs.Described.{type_described}
use Rattle.bytecode_model.specs.Heads.{desc_of, initialiser, is_abstract, is_static, main_desc, main_name, maker, takes_nothing}
use Rattle.bytecode_model.specs.Operands.{place_of}
use Rattle.bytecode_model.specs.SearchOrder.{Name}
use Rattle.bytecode_model.specs.Layout.{has_code}
use Rattle.guest_heap.specs.declared.object.Object.{Object}
use Rattle.guest_heap.specs.declared.object.Object.TheVariants as objects
use Rattle.guest_heap.specs.declared.value.Value.{Value}
use Rattle.guest_heap.specs.declared.value.Value.TheVariants as values
use Rattle.guest_model.specs.Runs.{first_heap, inner, initialiser_of, initialisers, start_of}
use Rattle.guest_model.specs.Parts.{main_argument}
use Rattle.guest_model.specs.Throwing.{bare_object}
use Rattle.guest_model.proofs.Options.{all_append, and_then_of, map_of, some_and, some_is}
use Rattle.guest_model.specs.Finding.{Given, declared_in}
use Rattle.guest_model.specs.Kinds.{class_of_object, class_of_value}
use Rattle.guest_model.specs.Layout.{constant_bytes, first_value, is_of_references, starting_value, statics_of, two_bytes, value_of_constant, value_told}
use Rattle.typed_runs.specs.Fitting.{ObjectFits, StaticsFit, fits_made, static_types}
use Rattle.typed_runs.specs.Machines.{BeginsRight, CanBegin, MachineFits}
use Rattle.typed_runs.specs.Programs.{IsTypedProgram}
use Rattle.typed_runs.proofs.Declared.{inner_encoded, listed_field}
use Rattle.typed_runs.proofs.Entering.{rests_fits}
use Rattle.typed_runs.proofs.Found.{position_found}
use Rattle.typed_runs.proofs.Growing.{get_after, get_front}
use Rattle.typed_runs.proofs.Places.{first_value_fits}
use Rattle.typed_runs.proofs.Rows.{method_stands}
use Rattle.typed_runs.proofs.Thrown.{bare_fits}
use Rattle.typed_runs.proofs.Types.{class_just}

-- ---- lists

-- what holds of the item at each place holds of each
all_places : {A : Type 0} (P : A → Type 0) (xs : List A) → ((i : ℕ) (x : A) → slice_get xs i ≡ Some x → P x) → AllByRecursion P xs
all_places P [] each = tt
all_places P (x ∷ xs) each = (each 0 x refl, all_places P xs (λ i y e. each (suc i) y e))

all_mapped : {A B : Type 0} (P : B → Type 0) (f : A → B) (xs : List A) → AllByRecursion (λ (x : A). P (f x)) xs → AllByRecursion P (map f xs)
all_mapped P f [] all = tt
all_mapped P f (x ∷ xs) all = (all.0, all_mapped P f xs all.1)

maps_paired : {A V T : Type 0} (of : V → T → Bool) (f : A → V) (g : A → T) (xs : List A) → ((x : A) → of (f x) (g x) ≡ true) → Paired of (map f xs) (map g xs)
maps_paired of f g [] each = tt
maps_paired of f g (x ∷ xs) each = (each x, maps_paired of f g xs each)

added : {B : Type 0} (P : B → Type 0) (o : Option B) (rest : List B) → ((y : B) → o ≡ Some y → P y) → AllByRecursion P rest → AllByRecursion P (cons_option o rest)
added P None rest one all = all
added P (Some y) rest one all = (one y refl, all)

-- what is made of each item beside its place
all_numbered : {A B : Type 0} (P : B → Type 0) (f : ℕ × A → Option B) (xs : List A) (from : ℕ)
    → ((i : ℕ) (x : A) (y : B) → slice_get xs i ≡ Some x → f (from + i, x) ≡ Some y → P y)
    → AllByRecursion P (filter_map f (enumerate_from from xs))
all_numbered P f [] from each = tt
all_numbered {A = A} {B = B} P f (x ∷ xs) from each =
    added P (f (from, x)) (filter_map f (enumerate_from (from + 1) xs))
    (λ y e. let same : from ≡ from + 0 = omega arith in each 0 x y refl (subst (λ (n : ℕ). f (n, x) ≡ Some y) same e))
    (all_numbered P f xs (from + 1)
    (λ i z y there e. let same : from + 1 + i ≡ from + suc i = omega arith in each (suc i) z y there (subst (λ (n : ℕ). f (n, z) ≡ Some y) same e)))

-- ---- objects

module _ (program : Program) (typing : Typing) (ok : IsTypedProgram program typing) where
  field_known : (index : ℕ) (field : MethodId) → slice_get program.listing.fields index ≡ Some field → is_known program.listing.classes (inner field.desc) ≡ true
  field_known index field there =
      let f = listed_field ok.links.text program.listing ok.links.listed index field there in
      let same : inner field.desc ≡ f.class = ap inner f.desc ∙ inner_encoded f.class in
      subst (λ (n : Name). is_known program.listing.classes n ≡ true) (sym same) f.known

  abbrev first_object : MethodId → Object
  first_object field = bare_object (inner field.desc)

  first_fits : (heap : List Object) → AllByRecursion (ObjectFits program heap) (first_heap program)
  first_fits heap =
      all_append (ObjectFits program heap) (map first_object program.listing.fields) _
      (all_mapped (ObjectFits program heap) first_object program.listing.fields
      (all_places (λ (f : MethodId). ObjectFits program heap (first_object f)) program.listing.fields
      (λ index field there. bare_fits program typing ok heap (inner field.desc) (field_known index field there))))
      ((refl, tt), tt)

  begins_right : BeginsRight program (first_heap program)
  begins_right = record {
    fields = λ index field there. class_just (first_heap program) (inner field.desc) (values.Ref index)
        (ap (option_map class_of_object) (get_front (map first_object program.listing.fields) _ index (first_object field)
        (slice_get-map first_object program.listing.fields index ∙ ap (option_map first_object) there)));
    main = class_just (first_heap program) (codes "[Ljava/lang/String;") (main_argument program) main_there;
  }
    where
      main_there : class_of_value (first_heap program) (main_argument program) ≡ Some (codes "[Ljava/lang/String;")
      main_there =
          let long : length (map first_object program.listing.fields) ≡ length program.listing.fields = length-map program.listing.fields first_object in
          let is = get_after (map first_object program.listing.fields) (objects.Array (codes "[Ljava/lang/String;") []) [] in
          ap (option_map class_of_object) (subst (λ (n : ℕ). slice_get (first_heap program) n ≡ Some (objects.Array (codes "[Ljava/lang/String;") [])) long is)

  -- ---- static fields

  number_described : (desc : List ℕ) (n : ℤ) → is_of_references desc ≡ false → (heap : List Object) → fits_made program heap (values.Int n) (type_described desc) ≡ true
  number_described [] n e heap = refl
  number_described (b ∷ text) n e heap = by (b == 76) (b == 91) e where
    by : (object array : Bool) → (object || array) ≡ false
        → fits_made program heap (values.Int n) (cond array (types.Ref (b ∷ text)) (cond object (types.Ref (take (length text - 1) text)) types.Int)) ≡ true
    by true array h = absurd cc
    by false true h = absurd cc
    by false false h = refl

  constant_fits : (heap : List Object) (pool : List Const) (desc : List ℕ) (constant : Const) (v : Value) → value_of_constant program pool desc constant ≡ Some v
      → fits_made program heap v (type_described desc) ≡ true
  constant_fits heap pool desc (constants.Integer n) v e =
      elim (cases_Bool (is_of_references desc)) [
        | inl is ↦ let h : ◌≡◌ {A = Option Value} None (Some v) = rw is at e in absurd cc
        | inr fails ↦
            let h : ◌≡◌ {A = Option Value} (Some (values.Int n)) (Some v) = rw fails at e in
            subst (λ (x : Value). fits_made program heap x (type_described desc) ≡ true) (some_is (values.Int n) v h) (number_described desc n fails heap)
      ]
  constant_fits heap pool desc (constants.Str text) v e =
      elim (cases_Bool (bytes_eq desc (codes "Ljava/lang/String;"))) [
        | inl is ↦
            let h : option_map (λ (t : List ℕ). values.Lit (place_of program.literals t)) (utf8_at pool text) ≡ Some v = rw is at e in
            let m = map_of (λ (t : List ℕ). values.Lit (place_of program.literals t)) (utf8_at pool text) v h in
            let same : desc ≡ codes "Ljava/lang/String;" = (bytes_eq-Decides desc (codes "Ljava/lang/String;")).0 is in
            subst (λ (x : Value). fits_made program heap x (type_described desc) ≡ true) m.2
            (subst (λ (d : List ℕ). fits_made program heap (values.Lit (place_of program.literals m.0)) (type_described d) ≡ true) (sym same) refl)
        | inr fails ↦ let h : ◌≡◌ {A = Option Value} None (Some v) = rw fails at e in absurd cc
      ]
  constant_fits heap pool desc other v e = absurd cc

  told_fits : (heap : List Object) (file : ClassFile) (member : Member) (v : Value) → value_told program file member ≡ Some v
      → fits_made program heap v (type_described (desc_of file.pool member)) ≡ true
  told_fits heap file member v e =
      let from : Const → Option Value = value_of_constant program file.pool (desc_of file.pool member) in
      let place : ℕ → Option Value = λ index. option_and_then from (slice_get file.pool index) in
      let bytes = and_then_of (λ (b : List ℕ). option_and_then place (two_bytes b)) (slice_get (filter_map (constant_bytes file.pool) member.attrs) 0) v e in
      let index = and_then_of place (two_bytes bytes.0) v bytes.2 in
      let constant = and_then_of from (slice_get file.pool index.0) v index.2 in
      constant_fits heap file.pool (desc_of file.pool member) constant.0 v constant.2

  starting_by : (heap : List Object) (desc : List ℕ) (static : Bool) (told : Option Value)
      → ((v : Value) → told ≡ Some v → fits_made program heap v (type_described desc) ≡ true)
      → fits_made program heap (option_map_or (λ (v : Value). v) (if static then told else None) (first_value desc)) (type_described desc) ≡ true
  starting_by heap desc true None each = first_value_fits program heap desc
  starting_by heap desc true (Some v) each = each v refl
  starting_by heap desc false told each = first_value_fits program heap desc

  starting_fits : (heap : List Object) (file : ClassFile) (member : Member)
      → fits_made program heap (starting_value program file member) (type_described (desc_of file.pool member)) ≡ true
  starting_fits heap file member =
      starting_by heap (desc_of file.pool member) (is_static member.flags) (value_told program file member) (told_fits heap file member)

  statics_fit : (heap : List Object) → StaticsFit program heap (statics_of program)
  statics_fit heap own class there =
      let is : slice_get (statics_of program) own ≡ Some (map (starting_value program class.file) class.file.fields) =
      slice_get-map (λ (c : LinkedClass). map (starting_value program c.file) c.file.fields) program.classes own
      ∙ ap (option_map (λ (c : LinkedClass). map (starting_value program c.file) c.file.fields)) there in
      some_and (λ (fields : List Value). Paired (fits_made program heap) fields (static_types class.file)) (slice_get (statics_of program) own) _ is
      (maps_paired (fits_made program heap) (starting_value program class.file) (λ (m : Member). type_described (desc_of class.file.pool m)) class.file.fields
      (starting_fits heap class.file))

  -- ---- the first thread

  has_code_so : (method : Method) → has_code method ≡ not (is_abstract method.flags) → is_abstract method.flags ≡ false → 0 < length method.insns
  has_code_so method e f = ltb-true 0 (length method.insns) (e ∙ ap not f)

  static_coded : (abstract static maker : Bool) → (abstract && (static || maker)) ≡ false → static ≡ true → abstract ≡ false
  static_coded true true maker e f = absurd cc
  static_coded true false maker e f = absurd cc
  static_coded false static maker e f = refl

  -- A static method has code.
  pub static_has_code : (own index : ℕ) (class : LinkedClass) (method : Method) → slice_get program.classes own ≡ Some class
      → slice_get class.methods index ≡ Some method → is_static method.flags ≡ true → 0 < length method.insns
  static_has_code own index class method there here static =
      let allowed = (method_stands program typing ok own index class method there here).allowed in
      has_code_so method allowed.code (static_coded (is_abstract method.flags) (is_static method.flags) (bytes_eq method.name maker) allowed.plain static)

  main_begins : CanBegin program (program.main_class, program.main_method)
  main_begins =
      let b = ok.links.linked.begins in
      let is = and_parts (bytes_eq b.method.name main_name) (bytes_eq b.method.desc main_desc) b.is in
      record {
        method = b.method;
        there = rw (b.there, b.here) refl;
        code = static_has_code program.main_class program.main_method b.class b.method b.there b.here b.static;
        static = b.static;
        takes = inr ((bytes_eq-Decides b.method.desc main_desc).0 is.1);
      }

  initialiser_begins : (own : ℕ) (class : LinkedClass) (to : Given) → slice_get program.classes own ≡ Some class → initialiser_of (own, class) ≡ Some to
      → CanBegin program to
  initialiser_begins own class to there e =
      let m = map_of (λ (method : ℕ). (own, method)) (declared_in initialiser takes_nothing class) to e in
      let f = position_found (λ (m : Method). bytes_eq m.name initialiser && bytes_eq m.desc takes_nothing) 0 class.methods m.0 m.1 in
      let same : f.at ≡ m.0 = omega (arith, f.place) in
      let here : slice_get class.methods m.0 ≡ Some f.item = subst (λ (n : ℕ). slice_get class.methods n ≡ Some f.item) same f.there in
      let is = and_parts (bytes_eq f.item.name initialiser) (bytes_eq f.item.desc takes_nothing) f.passes in
      let allowed = (method_stands program typing ok own m.0 class f.item there here).allowed in
      let static = (allowed.ready ((bytes_eq-Decides f.item.name initialiser).0 is.0)).0 in
      subst (CanBegin program) m.2 (record {
        method = f.item;
        there = rw (there, here) refl;
        code = static_has_code own m.0 class f.item there here static;
        static = static;
        takes = inl ((bytes_eq-Decides f.item.desc takes_nothing).0 is.1);
      })

  all_begin : AllByRecursion (CanBegin program) (initialisers program ++ (program.main_class, program.main_method) ∷ [])
  all_begin =
      all_append (CanBegin program) (initialisers program) _
      (all_numbered (CanBegin program) initialiser_of program.classes 0
      (λ own class to there e.
      let same : 0 + own ≡ own = omega arith in
      initialiser_begins own class to there (subst (λ (n : ℕ). initialiser_of (n, class) ≡ Some to) same e)))
      (main_begins, tt)

  -- The machine at the start fits.
  pub start_fits : MachineFits program typing (start_of program)
  start_fits = record {
    heap = first_fits (first_heap program);
    first = begins_right;
    statics = statics_fit (first_heap program);
    threads = (rests_fits program typing ok (first_heap program) begins_right (initialisers program ++ (program.main_class, program.main_method) ∷ []) all_begin, tt);
  }
