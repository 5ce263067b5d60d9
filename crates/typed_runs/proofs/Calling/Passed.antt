-- What a call of a ready frame names and passes: a method, its receiver, and arguments of the types of its descriptor.
use Rattle.std.proofs.Common.{◌≡◌, ℕ, zero, suc, ◌+◌, ◌≤◌, Bool, true, false, cond, List, [], ◌∷◌, ◌++◌, length, map, reverse, take, drop, append_assoc, Option, Some, None, refl, sym, ap, subst, ◌∙◌, inl, inr, arith}
use Rattle.std.specs.Prelude.{IsSomeAnd, not, slice_get, is_ok, is_some, Ok, Err, option_map, option_and_then, ◌&&◌, ◌||◌}
use Rattle.std.specs.Option.{option_map_or}
use Rattle.std.proofs.lemmas.Bool.{and_parts, cases_Bool, le-leb, or_cases, true≢false}
use Rattle.std.proofs.lemmas.Grind.{reverse_onto}
use Rattle.std.proofs.lemmas.List.{length-append, length-map, length-reverse, reverse-reverse}
use Rattle.mon_base.specs.declared.method.MethodId.{MethodId}
use Rattle.api_listing.specs.declared.descriptor.MethodType.{MethodType}
use Rattle.api_listing.specs.declared.types.ListedMethod.{ListedMethod}
use Rattle.api_listing.specs.BuiltIn.{MethodRow}
use Rattle.api_listing.specs.Descriptor.{method_type, type_encoded}
use Rattle.api_listing.specs.Fault.{Read}
use Rattle.cert_format.specs.declared.typing.Typing.{Typing}
use Rattle.cert_format.specs.declared.typing.VType.{VType}
use Rattle.cert_format.specs.declared.typing.VType.TheVariants as types
use Rattle.insn_codec.specs.declared.insn.Insn.{Insn}
use Rattle.insn_codec.specs.declared.shape.Heap.TheVariants as heaps
use Rattle.insn_codec.specs.declared.shape.How.{How}
use Rattle.insn_codec.specs.declared.shape.How.TheVariants as hows
use Rattle.insn_codec.specs.declared.shape.Shape.{Shape}
use Rattle.insn_codec.specs.declared.shape.Shape.TheVariants as shapes
use Rattle.insn_codec.specs.Following.{Paired}
use Rattle.insn_codec.specs.Shapes.{shape_of}
use Rattle.bytecode_model.specs.declared.operand.Use.{Use}
use Rattle.bytecode_model.specs.declared.operand.Use.TheVariants as uses
use Rattle.bytecode_model.specs.declared.program.LinkedClass.{LinkedClass}
use Rattle.bytecode_model.specs.declared.program.Method.{Method}
use Rattle.bytecode_model.specs.declared.program.Program.{Program}
use Rattle.bytecode_model.specs.declared.program.Target.{Target}
use Rattle.bytecode_model.specs.declared.program.Target.TheVariants as target
use Rattle.bytecode_model.specs.Assigning.{assignable}
use Rattle.bytecode_model.specs.Described.{Descriptor, arguments, type_described}
use Rattle.bytecode_model.specs.Makes.{below, class_made, type_at}
use Rattle.bytecode_model.specs.Operands.{use_of}
use Rattle.bytecode_model.specs.InsnPlace.{InsnPlace, calls_maker, class_referred, desc_referred, has_receiver, name_referred}
use Rattle.bytecode_model.specs.Rules.{made_well, taken}
use Rattle.bytecode_model.specs.SearchOrder.{Name}
use Rattle.bytecode_model.specs.Targets.{Calls, Names, takes_class}
use Rattle.bytecode_model.specs.Uses.{UsesAreShaped, calls_interface, use_shaped}
use Rattle.bytecode_model.specs.Wants.{all_met, is_reference, takes, takes_of, to_arguments, to_described, to_own, to_receiver}
use Rattle.frame_types.proofs.Descriptors.{read_so}
use Rattle.guest_heap.specs.declared.frame.Frame.{Frame}
use Rattle.guest_heap.specs.declared.object.Object.{Object}
use Rattle.guest_heap.specs.declared.value.Value.{Value}
use Rattle.guest_model.specs.Calls.{Taken, arity, taken as taken_by_call, types_of, types_read}
use Rattle.guest_model.specs.Places.{method_at}
use Rattle.guest_model.specs.Calling.{desc_named, is_static_call}
use Rattle.guest_model.proofs.Options.{some_and}
use Rattle.guest_model.specs.Enabled.{passed_by}
use Rattle.guest_model.specs.Moving.{IsObject}
use Rattle.typed_runs.specs.Fitting.{fits_made, fits_type}
use Rattle.typed_runs.specs.Frames.{IsReady, stands_at}
use Rattle.typed_runs.specs.Programs.{IsTypedProgram}
use Rattle.typed_runs.proofs.Pairs.{paired_length, paired_reverse, paired_take, paired_drop}
use Rattle.typed_runs.proofs.Rows.{is_insn, names, rules}
use Rattle.typed_runs.proofs.Topmost.{all_taken, items_split}
use Rattle.typed_runs.proofs.Types.{described_fits, described_over, wanted_object}

-- ---- which method is named

-- a method of the listing, a built-in one, or one of a given class
pub data MethodNamed (program : Program) (class : LinkedClass) (insn : Insn) (static : Bool) (ref : Target) : Type 0 where
  listed : (index : ℕ) → ref ≡ target.ApiMethod index → (u : Calls program class insn (target.ApiMethod index)) → u.static ≡ static
      → MethodNamed program class insn static ref
  built_in : (index : ℕ) → ref ≡ target.Builtin index → (u : Calls program class insn (target.Builtin index)) → u.static ≡ static
      → MethodNamed program class insn static ref
  given : (of index : ℕ) → ref ≡ target.Method of index → (u : Calls program class insn (target.Method of index)) → u.static ≡ static
      → MethodNamed program class insn static ref

abbrev static_use : Use → Bool
static_use (uses.Call static of_interface) = static
static_use other = false

abbrev is_call_use : Use → Bool
is_call_use (uses.Call static of_interface) = true
is_call_use other = false

method_named : (program : Program) (class : LinkedClass) (insn : Insn) (static of_interface : Bool) (ref : Target)
    → Names program class insn ref → use_of insn ≡ uses.Call static of_interface → MethodNamed program class insn static ref
method_named program class insn static of_interface target.None named used = absurd (true≢false (ap is_call_use (sym used ∙ named)))
method_named program class insn static of_interface (target.Number n) named used = absurd (true≢false (ap is_call_use (sym used ∙ named.0)))
method_named program class insn static of_interface (target.Literal index) named used = absurd (true≢false (ap is_call_use (sym used ∙ named.loads)))
method_named program class insn static of_interface (target.ClassName name) named used =
    absurd (let h : false ≡ true = ap takes_class (sym used) ∙ named.takes in true≢false (sym h))
method_named program class insn static of_interface (target.ApiMethod index) named used =
    listed index refl named (ap static_use (sym named.calls ∙ used))
method_named program class insn static of_interface (target.Builtin index) named used =
    built_in index refl named (ap static_use (sym named.calls ∙ used))
method_named program class insn static of_interface (target.Method of index) named used =
    given of index refl named (ap static_use (sym named.calls ∙ used))
method_named program class insn static of_interface (target.Field of index) named used = absurd (true≢false (ap is_call_use (sym used ∙ named.accesses)))
method_named program class insn static of_interface (target.ApiField index) named used = absurd (true≢false (ap is_call_use (sym used ∙ named.accesses)))

-- ---- descriptors

pub read_type : (m : Read MethodType) → is_ok m ≡ true → (types : MethodType) × (m ≡ Ok types)
read_type (Ok types) e = (types, refl)
read_type (Err fault) e = absurd cc

-- a method takes as many arguments as its descriptor tells types
pub many_arguments : (desc : List ℕ) → is_ok (method_type desc) ≡ true → arity desc ≡ length (arguments desc)
many_arguments desc e =
    let m = read_type (method_type desc) e in
    let read : types_of desc ≡ m.0 = ap types_read m.1 in
    ap (λ (t : MethodType). length t.arguments) read ∙ sym (length-map m.0.arguments type_encoded) ∙ sym (ap length (read_so desc m.0 m.1).0)

-- ---- lists beside one another

module _ {V T : Type 0} (of : V → T → Bool) where
  -- what stands after so many, and what it fits
  pub record Between (xs ys : List T) (t : T) (n : ℕ) (vs : List V) : Type 0 where
    pub value : V
    pub there : slice_get vs n ≡ Some value
    pub fits : of value t ≡ true
    pub front : Paired of (take n vs) xs
    pub back : Paired of (drop (n + 1) vs) ys

  pub between : (xs ys : List T) (t : T) (n : ℕ) (vs : List V) → length xs ≡ n → Paired of vs (xs ++ t ∷ ys) → Between xs ys t n vs
  between [] ys t zero [] e p = absurd p
  between [] ys t zero (v ∷ vs) e p = record { value = v; there = refl; fits = p.0; front = tt; back = p.1 }
  between [] ys t (suc n) vs e p = absurd (omega (arith, e))
  between (x ∷ xs) ys t zero vs e p = absurd (omega (arith, e))
  between (x ∷ xs) ys t (suc n) [] e p = absurd p
  between (x ∷ xs) ys t (suc n) (v ∷ vs) e p =
      let b = between xs ys t n vs (omega (arith, e)) p.1 in
      let one : suc n + 1 ≡ suc (n + 1) = omega arith in
      record { value = b.value; there = b.there; fits = b.fits; front = (p.0, b.front); back = rw one b.back }

-- ---- arguments

module _ (program : Program) (typing : Typing) (ok : IsTypedProgram program typing) (heap : List Object) where
  -- values of the types that descriptors tell
  abbrev pub Arguments : List Value → List Descriptor → Type 0
  Arguments vs descs = Paired (fits_made program heap) vs (map type_described descs)

  arguments_met : (class : LinkedClass) (method : Method) (descs : List Descriptor) (on : List VType) (vs : List Value)
      → all_met (map (to_described program) descs) on ≡ true → Paired (fits_type program heap class method) vs on → Arguments vs descs
  arguments_met class method [] [] [] e p = tt
  arguments_met class method [] [] (v ∷ vs) e p = absurd p
  arguments_met class method [] (t ∷ on) vs e p = absurd cc
  arguments_met class method (desc ∷ descs) [] vs e p = absurd cc
  arguments_met class method (desc ∷ descs) (t ∷ on) [] e p = absurd p
  arguments_met class method (desc ∷ descs) (t ∷ on) (v ∷ vs) e p =
      let a = and_parts (to_described program desc t) (all_met (map (to_described program) descs) on) e in
      (described_over program ok.links.order heap class method v t desc a.0 p.0, arguments_met class method descs on vs a.1 p.1)

  many_met : (descs : List Descriptor) (on : List VType) → all_met (map (to_described program) descs) on ≡ true → length on ≡ length descs
  many_met [] [] e = refl
  many_met [] (t ∷ on) e = absurd cc
  many_met (desc ∷ descs) [] e = absurd cc
  many_met (desc ∷ descs) (t ∷ on) e = ap suc (many_met descs on (and_parts (to_described program desc t) (all_met (map (to_described program) descs) on) e).1)

  -- they fit in a frame of whatever method
  pub arguments_fit : (class : LinkedClass) (method : Method) (descs : List Descriptor) (vs : List Value) → Arguments vs descs
      → Paired (fits_type program heap class method) vs (map type_described descs)
  arguments_fit class method [] [] p = tt
  arguments_fit class method [] (v ∷ vs) p = absurd p
  arguments_fit class method (desc ∷ descs) [] p = absurd p
  arguments_fit class method (desc ∷ descs) (v ∷ vs) p =
      (described_fits program heap class method v desc ∙ p.0, arguments_fit class method descs vs p.1)

-- ---- a call of a ready frame

module _ (program : Program) (typing : Typing) (ok : IsTypedProgram program typing) (shaped : UsesAreShaped) (heap : List Object) (frame : Frame)
    (r : IsReady program typing heap frame) (how : How) (shape : shape_of r.stands.insn ≡ shapes.Heap (heaps.Call how)) where
  abbrev pub spot : InsnPlace
  spot = stands_at r.stands

  abbrev pub of_here : Value → VType → Bool
  of_here v t = fits_type program heap r.stands.class r.stands.method v t

  -- the types of the operands that the call leaves, the topmost first
  abbrev pub left_here : List VType
  left_here = reverse (below (length (takes spot)) r.stands.type.stack)

  abbrev on : List VType
  on = taken spot r.stands.type

  pub named_here : MethodNamed program r.stands.class r.stands.insn (not (has_receiver how)) spot.ref
  named_here =
      method_named program r.stands.class r.stands.insn (not (has_receiver how)) (calls_interface how) spot.ref (names program typing ok frame r.stands)
      (shaped r.stands.insn (is_insn program typing ok frame r.stands) ∙ ap use_shaped shape)

  -- ---- what the reference tells

  pub record Told (ref : Target) : Type 0 where
    pub told : MethodId
    pub desc_is : desc_named program ref ≡ Some told.desc
    pub many : arity told.desc ≡ length (arguments (desc_referred spot))

  pub referred_class : (ref : Target) (u : Calls program r.stands.class r.stands.insn ref) → class_referred spot ≡ u.told.class
  referred_class ref u = ap (λ (o : Option MethodId). option_map_or (λ (id : MethodId). id.class) o []) u.refers

  pub referred_name : (ref : Target) (u : Calls program r.stands.class r.stands.insn ref) → name_referred spot ≡ u.told.name
  referred_name ref u = ap (λ (o : Option MethodId). option_map_or (λ (id : MethodId). id.name) o []) u.refers

  pub referred_desc : (ref : Target) (u : Calls program r.stands.class r.stands.insn ref) → desc_referred spot ≡ u.told.desc
  referred_desc ref u = ap (λ (o : Option MethodId). option_map_or (λ (id : MethodId). id.desc) o []) u.refers

  told_by : (ref : Target) (u : Calls program r.stands.class r.stands.insn ref) → desc_named program ref ≡ Some u.told.desc → Told ref
  told_by ref u e = record {
    told = u.told;
    desc_is = e;
    many = many_arguments u.told.desc u.described ∙ ap (λ (d : Name). length (arguments d)) (sym (referred_desc ref u));
  }

  pub told_listed : (index : ℕ) (u : Calls program r.stands.class r.stands.insn (target.ApiMethod index)) → Told (target.ApiMethod index)
  told_listed index u = told_by (target.ApiMethod index) u (ap (option_map (λ (m : ListedMethod). m.id.desc)) u.declared)

  pub told_built_in : (index : ℕ) (u : Calls program r.stands.class r.stands.insn (target.Builtin index)) → Told (target.Builtin index)
  told_built_in index u = told_by (target.Builtin index) u (ap (option_map (λ (row : MethodRow). row.2)) u.declared)

  pub given_at : (of index : ℕ) (u : Calls program r.stands.class r.stands.insn (target.Method of index)) → method_at program of index ≡ Some u.declared.method
  given_at of index u = rw (u.declared.there, u.declared.here) refl

  pub told_given : (of index : ℕ) (u : Calls program r.stands.class r.stands.insn (target.Method of index)) → Told (target.Method of index)
  told_given of index u =
      told_by (target.Method of index) u
      (ap (option_map (λ (m : Method). m.desc)) (given_at of index u) ∙ ap (λ (d : Name). Some d) u.declared.desc)

  -- ---- what is passed

  -- the receiver of a call that has one
  pub record Received (receiver : Option Value) : Type 0 where
    pub value : Value
    pub type : VType
    pub is : receiver ≡ Some value
    pub fits : of_here value type ≡ true
    pub met : to_receiver spot how type ≡ true
    pub first : type_at on 0 ≡ type

  abbrev ReceivedBy : Bool → Option Value → Type 0
  ReceivedBy true receiver = Received receiver
  ReceivedBy false receiver = receiver ≡ None

  pub record Passing (ref : Target) : Type 0 where
    pub passed : Taken
    pub is : passed_by program frame how ref ≡ Some passed
    pub told_arguments : Arguments program typing ok heap passed.arguments (arguments (desc_referred spot))
    pub beneath : Paired of_here passed.beneath left_here
    pub received : ReceivedBy (has_receiver how) passed.receiver

  met_call : all_met (cond (has_receiver how) (to_receiver spot how ∷ to_arguments spot) (to_arguments spot)) on ≡ true
  met_call = subst (λ (x : Shape). all_met (takes_of spot x) on ≡ true) shape (all_taken program typing ok heap frame r)

  split_call : Paired of_here frame.stack.items (reverse on ++ left_here)
  split_call = items_split program typing ok heap frame r

  taken_so : (ref : Target) (t : Told ref) (static : Bool) (o : Option Taken) → is_static_call how ≡ static
      → taken_by_call static (length (arguments (desc_referred spot))) frame.stack.items ≡ o → passed_by program frame how ref ≡ o
  taken_so ref t static o e f =
      ap (option_and_then (λ (desc : Name). taken_by_call (is_static_call how) (arity desc) frame.stack.items)) t.desc_is
      ∙ ap (λ (n : ℕ). taken_by_call (is_static_call how) n frame.stack.items) t.many
      ∙ ap (λ (b : Bool). taken_by_call b (length (arguments (desc_referred spot))) frame.stack.items) e ∙ f

  turned : (list : List VType) (vs : List Value) → Paired of_here vs (reverse list) → Paired of_here (reverse vs) list
  turned list vs p = subst (λ (ts : List VType). Paired of_here (reverse vs) ts) (reverse-reverse list) (paired_reverse of_here vs (reverse list) p)

  static_passing : (ref : Target) → Told ref → has_receiver how ≡ false → is_static_call how ≡ true → all_met (to_arguments spot) on ≡ true → Passing ref
  static_passing ref t none static met =
      let n = length (arguments (desc_referred spot)) in
      let descs = arguments (desc_referred spot) in
      let many : length on ≡ n = many_met program typing ok heap descs on met in
      let long : length (reverse on) ≡ n = length-reverse on ∙ many in
      let items = frame.stack.items in
      let all : length items ≡ length (reverse on ++ left_here) = paired_length of_here items (reverse on ++ left_here) split_call in
      let enough : n ≤ length items = omega (arith, all, length-append (reverse on) left_here, long) in
      let front = turned on (take n items) (paired_take of_here n (reverse on) left_here items long split_call) in
      let passed : Taken = record { receiver = None; arguments = reverse (take n items); beneath = drop n items } in
      let got : taken_by_call true n items ≡ Some passed = rw (le-leb n (length items) enough) refl in
      record {
        passed = passed;
        is = taken_so ref t true (Some passed) static got;
        told_arguments = arguments_met program typing ok heap r.stands.class r.stands.method descs on (reverse (take n items)) met front;
        beneath = paired_drop of_here n (reverse on) left_here items long split_call;
        received = subst (λ (b : Bool). ReceivedBy b None) (sym none) refl;
      }

  -- the lowest one is the receiver
  abbrev Front : List VType → Type 0
  Front list = (t : VType) × (rest : List VType) × (list ≡ t ∷ rest) × (to_receiver spot how t ≡ true) × (all_met (to_arguments spot) rest ≡ true)

  front_met : (list : List VType) → all_met (to_receiver spot how ∷ to_arguments spot) list ≡ true → Front list
  front_met [] e = absurd cc
  front_met (t ∷ rest) e = let a = and_parts (to_receiver spot how t) (all_met (to_arguments spot) rest) e in (t, rest, refl, a.0, a.1)

  instance_passing : (ref : Target) → Told ref → has_receiver how ≡ true → is_static_call how ≡ false
      → all_met (to_receiver spot how ∷ to_arguments spot) on ≡ true → Passing ref
  instance_passing ref t has static met =
      let descs = arguments (desc_referred spot) in
      let n = length descs in
      let f = front_met on met in
      let many : length f.1 ≡ n = many_met program typing ok heap descs f.1 f.4 in
      let long : length (reverse f.1) ≡ n = length-reverse f.1 ∙ many in
      let items = frame.stack.items in
      let around : reverse on ++ left_here ≡ reverse f.1 ++ f.0 ∷ left_here =
      ap (λ (ts : List VType). reverse ts ++ left_here) f.2 ∙ ap (λ (ts : List VType). ts ++ left_here) (reverse_onto f.1 f.0 [])
      ∙ append_assoc (reverse f.1) (f.0 ∷ []) left_here in
      let b = between of_here (reverse f.1) left_here f.0 n items long (subst (λ (ts : List VType). Paired of_here items ts) around split_call) in
      let passed : Taken = record { receiver = Some b.value; arguments = reverse (take n items); beneath = drop (n + 1) items } in
      let got : taken_by_call false n items ≡ Some passed =
      ap (option_map (λ (v : Value). record { receiver = Some v; arguments = reverse (take n items); beneath = drop (n + 1) items })) b.there in
      let received : Received (Some b.value) =
      record { value = b.value; type = f.0; is = refl; fits = b.fits; met = f.3; first = ap (λ (ts : List VType). type_at ts 0) f.2 } in
      record {
        passed = passed;
        is = taken_so ref t false (Some passed) static got;
        told_arguments = arguments_met program typing ok heap r.stands.class r.stands.method descs f.1 (reverse (take n items)) f.4 (turned f.1 (take n items) b.front);
        beneath = b.back;
        received = subst (λ (x : Bool). ReceivedBy x (Some b.value)) (sym has) received;
      }

  static_is : (h : How) → has_receiver h ≡ false → is_static_call h ≡ true
  static_is hows.Virtual e = absurd cc
  static_is hows.Special e = absurd cc
  static_is hows.Static e = refl
  static_is hows.Interface e = absurd cc

  instance_is : (h : How) → has_receiver h ≡ true → is_static_call h ≡ false
  instance_is hows.Virtual e = refl
  instance_is hows.Special e = refl
  instance_is hows.Static e = absurd cc
  instance_is hows.Interface e = refl

  pub passing : (ref : Target) → Told ref → Passing ref
  passing ref t =
      elim (cases_Bool (has_receiver how)) [
        | inl has ↦
            instance_passing ref t has (instance_is how has)
            (subst (λ (b : Bool). all_met (cond b (to_receiver spot how ∷ to_arguments spot) (to_arguments spot)) on ≡ true) has met_call)
        | inr none ↦
            static_passing ref t none (static_is how none)
            (subst (λ (b : Bool). all_met (cond b (to_receiver spot how ∷ to_arguments spot) (to_arguments spot)) on ≡ true) none met_call)
      ]

  pub received_by : (ref : Target) (p : Passing ref) → has_receiver how ≡ true → Received p.passed.receiver
  received_by ref p has = subst (λ (b : Bool). ReceivedBy b p.passed.receiver) has p.received

  pub none_received : (ref : Target) (p : Passing ref) → has_receiver how ≡ false → p.passed.receiver ≡ None
  none_received ref p none = subst (λ (b : Bool). ReceivedBy b p.passed.receiver) none p.received

  -- ---- the receiver of a constructor

  made_by_call : (maker has some : Bool) → (not maker || (has && some)) ≡ true → maker ≡ true → some ≡ true
  made_by_call true true some e f = e
  made_by_call true false some e f = absurd cc
  made_by_call false has some e f = absurd cc

  -- it is one that the call may make
  pub maker_makes : calls_maker spot ≡ true → is_some (class_made spot (type_at on 0)) ≡ true
  maker_makes maker =
      let made : made_well spot r.stands.type (shapes.Heap (heaps.Call how)) ≡ true =
      subst (λ (x : Shape). made_well spot r.stands.type x ≡ true) shape (rules program typing ok frame r.stands).made in
      made_by_call (calls_maker spot) (has_receiver how) _ made maker

  reference_made : (t : VType) → is_some (class_made spot t) ≡ true → is_reference t ≡ true
  reference_made types.Top e = absurd cc
  reference_made types.Int e = absurd cc
  reference_made types.Null e = absurd cc
  reference_made (types.Ref name) e = absurd cc
  reference_made types.UninitThis e = refl
  reference_made (types.Uninit at) e = refl

  reference_to : (t : VType) (name : Name) → assignable program t (types.Ref name) ≡ true → is_reference t ≡ true
  reference_to types.Top name e = absurd cc
  reference_to types.Int name e = absurd cc
  reference_to types.Null name e = refl
  reference_to (types.Ref other) name e = refl
  reference_to types.UninitThis name e = absurd cc
  reference_to (types.Uninit at) name e = absurd cc

  -- it is a reference, made or not
  pub receiver_reference : (receiver : Option Value) (v : Received receiver) → is_reference v.type ≡ true
  receiver_reference receiver v =
      elim (or_cases (calls_maker spot) _ v.met) [
        | inl maker ↦ reference_made v.type (subst (λ (t : VType). is_some (class_made spot t) ≡ true) v.first (maker_makes maker))
        | inr both ↦ reference_to v.type (class_referred spot) (and_parts (assignable program v.type (types.Ref (class_referred spot))) (to_own spot how v.type) both).0
      ]

  -- and so an object that is there, or null
  pub received_object : (receiver : Option Value) → Received receiver → IsSomeAnd receiver (IsObject heap)
  received_object receiver v =
      some_and (IsObject heap) receiver v.value v.is
      (wanted_object program heap r.stands.class r.stands.method v.value v.type v.fits (receiver_reference receiver v))
