-- Threads that wait in a call of the library: which answers fit, by the type of the result.
use Rattle.std.proofs.Common.{◌≡◌, ℕ, zero, suc, Bool, true, false, cond, ◌&&◌, List, [], ◌++◌, replicate, Option, Some, None, refl, sym, ap, subst, ◌∙◌, arith, inl, inr}
use Rattle.std.specs.Prelude.{IsTrue, bytes_eq, pos, ◌==◌, ◌||◌, not, is_some, slice_get}
use Rattle.std.specs.List.{AllByRecursion}
use Rattle.std.specs.Option.{option_map_or, option_to_list}
use Rattle.std.proofs.lemmas.Bool.{and_from, and_parts, eqb-true, or_cases, or_left, or_right, true≢false}
use Rattle.api_listing.specs.declared.descriptor.Element.{Element}
use Rattle.api_listing.specs.declared.descriptor.Element.TheVariants as elements
use Rattle.api_listing.specs.declared.descriptor.FieldType.{FieldType}
use Rattle.api_listing.specs.declared.descriptor.MethodType.{MethodType}
use Rattle.api_listing.specs.declared.events.ApiAnswer.{ApiAnswer}
use Rattle.api_listing.specs.declared.events.ApiAnswer.TheVariants as answers
use Rattle.api_listing.specs.declared.events.ApiCall.{ApiCall}
use Rattle.api_listing.specs.declared.types.ListedMethod.{ListedMethod}
use Rattle.api_listing.specs.Descriptor.{EncodesDescriptor, element_encoded, class_encoded}
use Rattle.api_listing.specs.Listing.{element_is_known, is_known, result_is_known}
use Rattle.api_listing.specs.BuiltIn.{object}
use Rattle.cert_format.specs.declared.typing.Typing.{Typing}
use Rattle.cert_format.specs.declared.typing.VType.TheVariants as types
use Rattle.bytecode_model.specs.declared.program.Program.{Program}
use Rattle.bytecode_model.specs.Arrays.{is_array}
use Rattle.bytecode_model.specs.Assigning.{array_fits, assignable, class_fits, reference_of}
use Rattle.bytecode_model.specs.Classes.{is_below, is_interface}
use Rattle.bytecode_model.proofs.Upwards.{of_same}
use Rattle.bytecode_model.specs.SearchOrder.{Name}
use Rattle.type_lattice.proofs.Arrays.{named_described}
use Rattle.type_lattice.proofs.Orders.{Fit, equal, top, interface, under, array_second, seen}
use Rattle.guest_heap.specs.declared.object.Object.{Object}
use Rattle.guest_heap.specs.declared.thread.Doing.{Doing}
use Rattle.guest_heap.specs.declared.thread.Doing.TheVariants as doings
use Rattle.guest_heap.specs.declared.thread.Thread.{Thread}
use Rattle.guest_heap.specs.declared.value.Value.{Value}
use Rattle.guest_heap.specs.declared.value.Value.TheVariants as values
use Rattle.guest_frames.specs.Values.{is_null}
use Rattle.guest_model.specs.declared.machine.Machine.{Machine}
use Rattle.guest_model.specs.Answering.{answer_fits, is_of as is_of_result}
use Rattle.guest_model.specs.Answers.{is_number_of}
use Rattle.guest_model.specs.Asking.{doing_takes, is_enabled, takes_answer}
use Rattle.guest_model.specs.Calls.{types_of, types_read}
use Rattle.guest_model.specs.Kinds.{class_is, is_instance, is_kind_of, string}
use Rattle.guest_model.specs.LibraryCalls.{call_asked, call_of_doing}
use Rattle.guest_model.specs.Numbers.{is_primitive}
use Rattle.guest_model.specs.Seen.{values_shown}
use Rattle.guest_model.specs.Stepping.{is_on_null}
use Rattle.guest_model.proofs.Options.{all_get, and_then_of, map_of}
use Rattle.typed_runs.specs.Answers.{AnswersFitByType, TakesByType, objects_of}
use Rattle.typed_runs.specs.Fitting.{fits_made, is_of}
use Rattle.typed_runs.specs.Machines.{FramesFit, IsCalledOn, MachineFits, ThreadFits}
use Rattle.typed_runs.specs.Programs.{ImplementsInterfaces, IsTypedProgram}
use Rattle.typed_runs.specs.Runs.{RunsFit}
use Rattle.typed_runs.proofs.Declared.{IsMethodOf, method_listed}
use Rattle.typed_runs.proofs.Listed.{below_itself, known_apart}
use Rattle.typed_runs.proofs.Types.{class_of}

-- ---- the call that is waited in

-- a thread that waits for the answer to the call
pub record WaitsIn (program : Program) (machine : Machine) (number : ℕ) (call : ApiCall) : Type 0 where
  pub thread : Thread
  pub there : slice_get machine.threads number ≡ Some thread
  pub method : ℕ
  pub receiver : Option Value
  pub arguments : List Value
  pub doing : thread.doing ≡ doings.InCall method receiver arguments
  pub made : is_on_null receiver ≡ false
  pub listed : ListedMethod
  pub declared : slice_get program.listing.methods method ≡ Some listed
  pub is : record { method = listed.id; instance = is_some receiver; args = values_shown program machine.heap arguments } ≡ call

unless_null : (b : Bool) (o : Option ApiCall) (call : ApiCall) → cond b None o ≡ Some call → (b ≡ false) × (o ≡ Some call)
unless_null true o call e = absurd cc
unless_null false o call e = (refl, e)

module _ (program : Program) (machine : Machine) (number : ℕ) (call : ApiCall) where
  waits_by : (thread : Thread) → slice_get machine.threads number ≡ Some thread → (doing : Doing) → thread.doing ≡ doing
      → call_of_doing program machine.heap doing ≡ Some call → WaitsIn program machine number call
  waits_by thread there doings.Running is e = absurd cc
  waits_by thread there doings.Ended is e = absurd cc
  waits_by thread there (doings.InCall method receiver arguments) is e =
      let c = unless_null (is_on_null receiver) _ call e in
      let l = map_of (λ (listed : ListedMethod). record { method = listed.id; instance = is_some receiver; args = values_shown program machine.heap arguments })
      (slice_get program.listing.methods method) call c.1 in
      record {
        thread = thread;
        there = there;
        method = method;
        receiver = receiver;
        arguments = arguments;
        doing = is;
        made = c.0;
        listed = l.0;
        declared = l.1;
        is = l.2;
      }

  pub waits_in : call_asked program machine number ≡ Some call → WaitsIn program machine number call
  waits_in asked =
      let t = and_then_of (λ (t : Thread). call_of_doing program machine.heap t.doing) (slice_get machine.threads number) call asked in
      waits_by t.0 t.1 t.0.doing refl t.2

  -- ---- what it takes

  abbrev pub result_waited : WaitsIn program machine number call → Option FieldType
  result_waited w = (types_of w.listed.id.desc).result

  pub takes_so : (w : WaitsIn program machine number call) → is_enabled program machine number ≡ true → (answer : ApiAnswer)
      → answer_fits program machine.heap (result_waited w) w.receiver w.arguments answer ≡ true → takes_answer program machine number answer ≡ true
  takes_so w enabled answer fits =
      let goes : not (is_some machine.stopped) ≡ true = (and_parts (not (is_some machine.stopped)) _ enabled).0 in
      let taken : doing_takes program machine.heap (doings.InCall w.method w.receiver w.arguments) answer ≡ true = rw (w.made, w.declared) fits in
      let doing : doing_takes program machine.heap w.thread.doing answer ≡ true =
      subst (λ (d : Doing). doing_takes program machine.heap d answer ≡ true) (sym w.doing) taken in
      rw (goes, w.there) doing

-- ---- the rows

zero_is_number : (dimensions : ℕ) (element : Element) → ((dimensions == 0) && is_primitive element) ≡ true
    → ((dimensions == 0) && is_number_of element (pos 0)) ≡ true
zero_is_number zero elements.Boolean e = refl
zero_is_number zero elements.Byte e = refl
zero_is_number zero elements.Char e = refl
zero_is_number zero elements.Short e = refl
zero_is_number zero elements.Int e = refl
zero_is_number zero (elements.Class name) e = absurd cc
zero_is_number (suc n) element e =
    let none : suc n ≡ 0 = eqb-true (suc n) 0 (and_parts (suc n == 0) (is_primitive element) e).0 in
    absurd (omega (arith, none))

-- the class of a result that is a class
pub class_told : (name : Name) → is_array name ≡ false → reference_of (class_encoded name) ≡ Some name
class_told name apart = named_described name apart

module _ (program : Program) (typing : Typing) (ok : IsTypedProgram program typing) where
  null_by : (dimensions : ℕ) (element : Element) → element_is_known (is_known program.listing.classes) element ≡ true
      → ((dimensions == 0) && is_primitive element) ≡ false → is_some (reference_of (replicate dimensions 91 ++ element_encoded element)) ≡ true
  null_by zero elements.Boolean known e = absurd cc
  null_by zero elements.Byte known e = absurd cc
  null_by zero elements.Char known e = absurd cc
  null_by zero elements.Short known e = absurd cc
  null_by zero elements.Int known e = absurd cc
  null_by zero (elements.Class name) known e = ap is_some (class_told name (known_apart program typing ok name known))
  null_by (suc n) element known e = refl

  -- ---- an object of a class, as the library is asked for it

  kind_under : (from to : Name) → is_array from ≡ false → is_below program from to ≡ true → (is_interface program to || is_kind_of program from to) ≡ true
  kind_under from to apart up =
      or_right (is_interface program to) _ (or_left (class_is program from to) _
      (or_right (bytes_eq to object) _ (and_from (not (is_array from)) _ (ap not apart) (or_left (is_below program from to) _ up))))

  kind_of : (from to : Name) → is_known program.listing.classes to ≡ true → Fit program from to
      → (is_interface program to || is_kind_of program from to) ≡ true
  kind_of from to known (interface is) = or_left (is_interface program to) _ is
  kind_of from to known (top is) =
      or_right (is_interface program to) _ (or_left (class_is program from to) _ (or_left (bytes_eq to object) _ (of_same to object is)))
  kind_of from to known (under apart up) = kind_under from to apart up
  kind_of from to known (equal is) =
      kind_under from to (ap is_array is ∙ known_apart program typing ok to known)
      (subst (λ (n : Name). is_below program n to ≡ true) (sym is) (below_itself program typing ok to known))

  fit_of : (from to : Name) → is_known program.listing.classes to ≡ true → assignable program (types.Ref from) (types.Ref to) ≡ true → Fit program from to
  fit_of from to known e =
      elim (or_cases (class_fits program from to) (array_fits program from to) e) [
        | inl one ↦ seen program from to one
        | inr two ↦
            absurd (true≢false (sym (array_second program ok.links.order from to two) ∙ known_apart program typing ok to known))
      ]

  instance_of : (heap : List Object) (name : Name) (v : Value) → is_known program.listing.classes name ≡ true → is_of program heap name v ≡ true
      → (is_interface program name || is_instance program heap v name) ≡ true
  instance_of heap name v known h =
      let c = class_of program heap name v h in
      subst (λ (o : Option Name). (is_interface program name || option_map_or (λ (class : Name). is_kind_of program class name) o false) ≡ true) (sym c.1)
      (kind_of c.0 name known (fit_of c.0 name known c.2))

  asked_for : (heap : List Object) (name : Name) (v : Value) → is_known program.listing.classes name ≡ true → is_null v ≡ false
      → fits_made program heap v (types.Ref name) ≡ true → is_of_result program heap v name ≡ true
  asked_for heap name (values.Int n) known some h = absurd cc
  asked_for heap name values.Null known some h = absurd cc
  asked_for heap name (values.Ref at) known some h = instance_of heap name (values.Ref at) known h
  asked_for heap name (values.Class index) known some h = instance_of heap name (values.Class index) known h
  asked_for heap name (values.Lit index) known some h = instance_of heap name (values.Lit index) known h

  receiver_asked : (heap : List Object) (name : Name) (receiver : Option Value) (arguments : List Value) → is_known program.listing.classes name ≡ true
      → is_on_null receiver ≡ false → is_some receiver ≡ true
      → AllByRecursion (λ (v : Value). IsTrue (fits_made program heap v (types.Ref name))) (option_to_list receiver)
      → answer_fits program heap (Some (objects_of name)) receiver arguments answers.Receiver ≡ true
  receiver_asked heap name None arguments known made some all = absurd cc
  receiver_asked heap name (Some v) arguments known made some all =
      let asked = asked_for heap name v known made all.0 in
      rw (class_told name (known_apart program typing ok name known)) asked

  module _ (machine : Machine) (fit : MachineFits program typing machine) (number : ℕ) (call : ApiCall) (enabled : is_enabled program machine number ≡ true) (w : WaitsIn program machine number call) where
    m : IsMethodOf program.listing.classes w.listed
    m = method_listed ok.links.text program.listing ok.links.listed w.method w.listed w.declared

    result_is : result_waited program machine number call w ≡ m.types.result
    result_is = ap (λ (t : MethodType). t.result) (ap types_read m.read)

    -- an answer that fits by the type
    takes : (result : Option FieldType) (answer : ApiAnswer) → m.types.result ≡ result
        → answer_fits program machine.heap result w.receiver w.arguments answer ≡ true → takes_answer program machine number answer ≡ true
    takes result answer is fits =
        takes_so program machine number call w enabled answer
        (subst (λ (r : Option FieldType). answer_fits program machine.heap r w.receiver w.arguments answer ≡ true) (sym (result_is ∙ is)) fits)

    known_result : (t : FieldType) → m.types.result ≡ Some t → element_is_known (is_known program.listing.classes) t.element ≡ true
    known_result t is = subst (λ (r : Option FieldType). result_is_known (is_known program.listing.classes) r ≡ true) is m.result

    -- what it is called on
    called_on : ImplementsInterfaces program → IsCalledOn program machine.heap w.method w.receiver
    called_on fair =
        let fits = all_get (ThreadFits program typing machine.heap) machine.threads number w.thread fit.threads w.there in
        let waits : FramesFit program typing machine.heap w.thread.frames (doings.InCall w.method w.receiver w.arguments) =
        subst (λ (d : Doing). FramesFit program typing machine.heap w.thread.frames d) w.doing fits.frames in
        waits.2 fair

    takes_receiver : ImplementsInterfaces program → call.instance ≡ true → m.types.result ≡ Some (objects_of call.method.class)
        → takes_answer program machine number answers.Receiver ≡ true
    takes_receiver fair has is =
        let own : call.method.class ≡ w.listed.id.class = sym (ap (λ (c : ApiCall). c.method.class) w.is) in
        takes (Some (objects_of w.listed.id.class)) answers.Receiver (is ∙ ap (λ (n : Name). Some (objects_of n)) own)
        (receiver_asked machine.heap w.listed.id.class w.receiver w.arguments m.class w.made (ap (λ (c : ApiCall). c.instance) w.is ∙ has)
        (called_on fair w.listed w.declared))

    pub takes_by_type : TakesByType program machine number call
    takes_by_type = record {
      types = m.types;
      described = subst (λ (c : ApiCall). EncodesDescriptor c.method.desc m.types) w.is m.encoded;
      nothing = λ none. takes None answers.Nothing none refl;
      number = λ t is numbers. takes (Some t) (answers.Int (pos 0)) is (zero_is_number t.dimensions t.element numbers);
      null = λ t is other. takes (Some t) answers.Null is (null_by t.dimensions t.element (known_result t is) other);
      text = λ is. takes (Some (objects_of string)) (answers.Text []) is refl;
      receiver = takes_receiver;
    }

pub answers_fit_by_type : RunsFit → AnswersFitByType
answers_fit_by_type law program typing ok steps number call enabled asked =
    takes_by_type program typing ok _ (law program typing ok steps) number call enabled (waits_in program _ number call asked)
