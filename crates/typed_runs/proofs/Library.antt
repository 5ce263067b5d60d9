-- Calls of methods of the library: the thread waits for the answer, what it passed is there, and the library sees a number
-- wherever the method takes one.
use Rattle.std.proofs.Common.{◌≡◌, ℕ, ℤ, zero, suc, true, ◌&&◌, List, [], ◌∷◌, ◌++◌, map, replicate, Option, Some, ◌∙◌, sym, ap, subst, inl, inr, arith}
use Rattle.std.specs.Prelude.{◌==◌, IsTrue, slice_get, is_ok, is_some}
use Rattle.std.specs.List.{AllByRecursion}
use Rattle.std.specs.Option.{option_to_list}
use Rattle.std.proofs.lemmas.Bool.{and_parts, eqb-true, or_cases, or_left, or_right, cases_Bool}
use Rattle.api_listing.specs.declared.descriptor.Element.{Element}
use Rattle.api_listing.specs.declared.descriptor.Element.TheVariants as elements
use Rattle.api_listing.specs.declared.descriptor.FieldType.{FieldType}
use Rattle.api_listing.specs.declared.descriptor.MethodType.{MethodType}
use Rattle.api_listing.specs.declared.types.ListedMethod.{ListedMethod}
use Rattle.api_listing.specs.Descriptor.{element_encoded, method_type, type_encoded}
use Rattle.cert_format.specs.declared.typing.Typing.{Typing}
use Rattle.cert_format.specs.declared.typing.VType.{VType}
use Rattle.cert_format.specs.declared.typing.VType.TheVariants as types
use Rattle.insn_codec.specs.declared.shape.Heap.TheVariants as heaps
use Rattle.insn_codec.specs.declared.shape.How.{How}
use Rattle.insn_codec.specs.declared.shape.Shape.TheVariants as shapes
use Rattle.insn_codec.specs.Shapes.{shape_of}
use Rattle.bytecode_model.specs.declared.program.LinkedClass.{LinkedClass}
use Rattle.bytecode_model.specs.declared.program.Method.{Method}
use Rattle.bytecode_model.specs.declared.program.Program.{Program}
use Rattle.bytecode_model.specs.declared.program.Target.TheVariants as target
use Rattle.bytecode_model.specs.Described.{arguments, result_type, type_described}
use Rattle.bytecode_model.specs.Makes.{new_at}
use Rattle.bytecode_model.specs.InsnPlace.{desc_referred, has_receiver}
use Rattle.bytecode_model.specs.Classes.{classes_of}
use Rattle.bytecode_model.specs.SearchOrder.{Name, is_one_of, search_order}
use Rattle.bytecode_model.specs.Targets.{Calls}
use Rattle.bytecode_model.specs.Uses.{UsesAreShaped}
use Rattle.bytecode_model.specs.Wants.{is_reference}
use Rattle.frame_types.proofs.Descriptors.{read_so}
use Rattle.guest_heap.specs.declared.frame.Frame.{Frame}
use Rattle.guest_heap.specs.declared.object.Object.{Object}
use Rattle.guest_heap.specs.declared.thread.Thread.{Thread}
use Rattle.guest_heap.specs.declared.value.Value.{Value}
use Rattle.guest_heap.specs.declared.value.Value.TheVariants as values
use Rattle.guest_model.specs.declared.machine.Machine.{Machine}
use Rattle.guest_model.specs.Calls.{types_of, types_read}
use Rattle.guest_frames.specs.Values.{is_null, is_number}
use Rattle.guest_model.proofs.Options.{all_append, some_and, some_is}
use Rattle.guest_model.specs.Calling.{calls_library, waiting}
use Rattle.guest_model.specs.Numbers.{is_of_numbers, is_primitive}
use Rattle.guest_model.specs.Seen.{value_shown, values_shown}
use Rattle.typed_runs.specs.Fitting.{fits_made, fits_type, is_of, is_there}
use Rattle.typed_runs.specs.Frames.{AreWaiting, IsReady}
use Rattle.typed_runs.specs.Machines.{CanBegin, IsCalledOn, MachineFits}
use Rattle.typed_runs.specs.Programs.{ImplementsInterfaces, IsTypedProgram}
use Rattle.typed_runs.proofs.Above.{looked_fairly}
use Rattle.typed_runs.proofs.Calling.Calls.{Fits, call_here, callers, shared, shared_fits}
use Rattle.typed_runs.proofs.Changed.{ArePassedNumbers}
use Rattle.typed_runs.proofs.Calling.Passed.{Arguments, Passing, Received, none_received, read_type, received_by, receiver_reference, referred_desc, spot}
use Rattle.typed_runs.proofs.Calling.Receiver.{reaches}
use Rattle.typed_runs.proofs.Types.{class_of, just_is_of}
use Rattle.typed_runs.proofs.Operates.{number_value}

-- ---- what is there

module _ (program : Program) (typing : Typing) (ok : IsTypedProgram program typing) (heap : List Object) where
  of_there : (name : Name) (v : Value) → is_of program heap name v ≡ true → is_there heap v ≡ true
  of_there name v h =
      let c = class_of program heap name v h in
      or_right (is_number v) _ (or_right (is_null v) _ (ap is_some c.1))

  null_there : (v : Value) → is_null v ≡ true → is_there heap v ≡ true
  null_there v h = or_right (is_number v) _ (or_left (is_null v) _ h)

  named_there : (name : Name) (v : Value) → fits_made program heap v (types.Ref name) ≡ true → is_there heap v ≡ true
  named_there name v h =
      elim (or_cases (is_null v) _ h) [
        | inl null ↦ null_there v null
        | inr is ↦ of_there name v is
      ]

  number_there : (v : Value) → is_number v ≡ true → is_there heap v ≡ true
  number_there v h = or_left (is_number v) _ h

  -- a reference, made or not
  reference_there : (class : LinkedClass) (method : Method) (v : Value) (t : VType) → fits_type program heap class method v t ≡ true → is_reference t ≡ true
      → is_there heap v ≡ true
  reference_there class method v types.Top h e = absurd cc
  reference_there class method v types.Int h e = absurd cc
  reference_there class method v types.Null h e = null_there v h
  reference_there class method v (types.Ref name) h e = named_there name v h
  reference_there class method v types.UninitThis h e = of_there class.name v h
  reference_there class method v (types.Uninit at) h e = of_there (new_at method at) v (just_is_of program heap (new_at method at) v h)

  -- what fits the type of an argument
  encoded_there : (dimensions : ℕ) (element : Element) (v : Value)
      → fits_made program heap v (type_described (replicate dimensions 91 ++ element_encoded element)) ≡ true → is_there heap v ≡ true
  encoded_there zero elements.Boolean v h = number_there v h
  encoded_there zero elements.Byte v h = number_there v h
  encoded_there zero elements.Char v h = number_there v h
  encoded_there zero elements.Short v h = number_there v h
  encoded_there zero elements.Int v h = number_there v h
  encoded_there zero (elements.Class name) v h = named_there _ v h
  encoded_there (suc n) element v h = named_there _ v h

  all_there : (ts : List FieldType) (vs : List Value) → Arguments program typing ok heap vs (map type_encoded ts)
      → AllByRecursion (λ (v : Value). IsTrue (is_there heap v)) vs
  all_there [] [] p = tt
  all_there [] (v ∷ vs) p = absurd p
  all_there (t ∷ ts) [] p = absurd p
  all_there (t ∷ ts) (v ∷ vs) p = (encoded_there t.dimensions t.element v p.0, all_there ts vs p.1)

  pub arguments_there : (desc : Name) (vs : List Value) → is_ok (method_type desc) ≡ true → Arguments program typing ok heap vs (arguments desc)
      → AllByRecursion (λ (v : Value). IsTrue (is_there heap v)) vs
  arguments_there desc vs e p =
      let m = read_type (method_type desc) e in
      all_there m.0.arguments vs (subst (λ (ds : List Name). Arguments program typing ok heap vs ds) (read_so desc m.0 m.1).0 p)

  -- ---- what the library sees

  encoded_number : (dimensions : ℕ) (element : Element) (v : Value) → ((dimensions == 0) && is_primitive element) ≡ true
      → fits_made program heap v (type_described (replicate dimensions 91 ++ element_encoded element)) ≡ true → (n : ℤ) × (v ≡ values.Int n)
  encoded_number zero elements.Boolean v e h = number_value v h
  encoded_number zero elements.Byte v e h = number_value v h
  encoded_number zero elements.Char v e h = number_value v h
  encoded_number zero elements.Short v e h = number_value v h
  encoded_number zero elements.Int v e h = number_value v h
  encoded_number zero (elements.Class name) v e h = absurd cc
  encoded_number (suc n) element v e h = absurd (omega (arith, eqb-true (suc n) 0 (and_parts (suc n == 0) (is_primitive element) e).0))

  numbers_shown : (ts : List FieldType) (vs : List Value) → Arguments program typing ok heap vs (map type_encoded ts)
      → ArePassedNumbers ts (values_shown program heap vs)
  numbers_shown [] vs p i t e numbers = absurd cc
  numbers_shown (s ∷ ts) [] p i t e numbers = absurd p
  numbers_shown (s ∷ ts) (v ∷ vs) p zero t e numbers =
      let same : s ≡ t = some_is s t e in
      let n = encoded_number s.dimensions s.element v (subst (λ (x : FieldType). is_of_numbers x ≡ true) (sym same) numbers) p.0 in
      (n.0, ap (λ (x : Value). Some (value_shown program heap x)) n.1)
  numbers_shown (s ∷ ts) (v ∷ vs) p (suc i) t e numbers = numbers_shown ts vs p.1 i t e numbers

  pub arguments_shown : (desc : Name) (vs : List Value) → is_ok (method_type desc) ≡ true → Arguments program typing ok heap vs (arguments desc)
      → ArePassedNumbers (types_of desc).arguments (values_shown program heap vs)
  arguments_shown desc vs e p =
      let m = read_type (method_type desc) e in
      subst (λ (types : MethodType). ArePassedNumbers types.arguments (values_shown program heap vs)) (sym (ap types_read m.1))
      (numbers_shown m.0.arguments vs (subst (λ (ds : List Name). Arguments program typing ok heap vs ds) (read_so desc m.0 m.1).0 p))

-- ---- the call

module _ (program : Program) (typing : Typing) (ok : IsTypedProgram program typing) (shaped : UsesAreShaped) (machine : Machine)
    (fit : MachineFits program typing machine) (number : ℕ) (thread : Thread) (later : AllByRecursion (CanBegin program) thread.to_begin)
    (frame : Frame) (below : List Frame) (r : IsReady program typing machine.heap frame)
    (under : AreWaiting program typing machine.heap (result_type r.stands.method.desc) below) (how : How)
    (shape : shape_of r.stands.insn ≡ shapes.Heap (heaps.Call how)) (index : ℕ)
    (u : Calls program r.stands.class r.stands.insn (target.ApiMethod index))
    (p : Passing program typing ok shaped machine.heap frame r how shape (target.ApiMethod index)) where
  abbrev IsThere : Value → Type 0
  IsThere v = IsTrue (is_there machine.heap v)

  desc_is : desc_referred (spot program typing ok shaped machine.heap frame r how shape) ≡ u.told.desc
  desc_is = referred_desc program typing ok shaped machine.heap frame r how shape (target.ApiMethod index) u

  told_arguments : Arguments program typing ok machine.heap p.passed.arguments (arguments u.told.desc)
  told_arguments = subst (λ (d : Name). Arguments program typing ok machine.heap p.passed.arguments (arguments d)) desc_is p.told_arguments

  passed_there : AllByRecursion IsThere p.passed.arguments
  passed_there = arguments_there program typing ok machine.heap u.told.desc p.passed.arguments u.described told_arguments

  passed_shown : (listed : ListedMethod) → slice_get program.listing.methods index ≡ Some listed
      → ArePassedNumbers (types_of listed.id.desc).arguments (values_shown program machine.heap p.passed.arguments)
  passed_shown listed there =
      let same : u.told.desc ≡ listed.id.desc = ap (λ (m : ListedMethod). m.id.desc) (some_is _ listed (sym u.declared ∙ there)) in
      subst (λ (d : Name). ArePassedNumbers (types_of d).arguments (values_shown program machine.heap p.passed.arguments)) same
      (arguments_shown program typing ok machine.heap u.told.desc p.passed.arguments u.described told_arguments)

  receiver_there : (receiver : Option Value) → Received program typing ok shaped machine.heap frame r how shape receiver → AllByRecursion IsThere (option_to_list receiver)
  receiver_there receiver v =
      subst (λ (o : Option Value). AllByRecursion IsThere (option_to_list o)) (sym v.is) (
        reference_there program typing ok machine.heap r.stands.class r.stands.method v.value v.type v.fits
            (receiver_reference program typing ok shaped machine.heap frame r how shape receiver v),
        tt,
      )

  all_passed : AllByRecursion IsThere (option_to_list p.passed.receiver ++ p.passed.arguments)
  all_passed =
      elim (cases_Bool (has_receiver how)) [
        | inl has ↦
            all_append IsThere (option_to_list p.passed.receiver) p.passed.arguments
            (receiver_there p.passed.receiver
            (received_by program typing ok shaped machine.heap frame r how shape (target.ApiMethod index) p has)) passed_there
        | inr none ↦
            subst (λ (o : Option Value). AllByRecursion IsThere (option_to_list o ++ p.passed.arguments))
            (sym (none_received program typing ok shaped machine.heap frame r how shape (target.ApiMethod index) p none)) passed_there
      ]

  -- ---- what it is called on

  called_on_fits : ImplementsInterfaces program → (class : Name) → u.declaring ≡ class → (receiver : Option Value)
      → Received program typing ok shaped machine.heap frame r how shape receiver
      → AllByRecursion (λ (v : Value). IsTrue (fits_made program machine.heap v (types.Ref class))) (option_to_list receiver)
  called_on_fits fair class same receiver v =
      let looked = looked_fairly program typing ok fair u.told.class class
      (subst (λ (n : Name). is_one_of (search_order (classes_of program) u.told.class) n ≡ true) same u.above) in
      let fits : fits_made program machine.heap v.value (types.Ref class) ≡ true =
      elim (cases_Bool (is_null v.value)) [
        | inl null ↦ or_left (is_null v.value) _ null
        | inr some ↦
            or_right (is_null v.value) _
            (reaches program typing ok shaped machine.heap frame r how shape (target.ApiMethod index) u class looked receiver v some)
      ] in
      subst (λ (o : Option Value). AllByRecursion (λ (w : Value). IsTrue (fits_made program machine.heap w (types.Ref class))) (option_to_list o)) (sym v.is) (fits, tt)

  called_on : ImplementsInterfaces program → IsCalledOn program machine.heap index p.passed.receiver
  called_on fair listed there =
      let same : u.declaring ≡ listed.id.class = ap (λ (m : ListedMethod). m.id.class) (some_is _ listed (sym u.declared ∙ there)) in
      elim (cases_Bool (has_receiver how)) [
        | inl has ↦
            called_on_fits fair listed.id.class same p.passed.receiver
            (received_by program typing ok shaped machine.heap frame r how shape (target.ApiMethod index) p has)
        | inr none ↦
            subst (λ (o : Option Value). AllByRecursion (λ (v : Value). IsTrue (fits_made program machine.heap v (types.Ref listed.id.class))) (option_to_list o))
            (sym (none_received program typing ok shaped machine.heap frame r how shape (target.ApiMethod index) p none)) tt
      ]

  -- What a call of the library comes to fits.
  pub library_fits : Fits program typing ok shaped machine fit number thread later frame below r under how shape (target.ApiMethod index) p
      (calls_library program (shared program typing ok shaped machine fit number thread later frame below r under how shape (target.ApiMethod index) p)
      (call_here program typing ok shaped machine fit number thread later frame below r under how shape (target.ApiMethod index) p) index)
  library_fits = record {
    world = shared_fits program typing ok shaped machine fit number thread later frame below r under how shape (target.ApiMethod index) p;
    thread = record {
      frames = (
        all_passed,
        some_and (λ (listed : ListedMethod). AreWaiting program typing machine.heap (result_type listed.id.desc)
            (waiting (call_here program typing ok shaped machine fit number thread later frame below r under how shape (target.ApiMethod index) p))) (slice_get program.listing.methods index) _ u.declared
            (callers program typing ok shaped machine fit number thread later frame below r under how shape (target.ApiMethod index) p (result_type u.told.desc)
            (ap result_type desc_is)),
        called_on,
      );
      to_begin = later;
    };
    begins = tt;
    seen = (passed_shown, tt);
  }
