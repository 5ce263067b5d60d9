-- Calls of given methods, by how they call: the method that runs is of a class that the receiver is of.
use Rattle.std.proofs.Common.{◌≡◌, ℕ, true, false, List, Option, Some, None, refl, sym, ap, subst, ◌∙◌, inl, inr}
use Rattle.std.specs.Prelude.{bytes_eq, not, slice_get, ◌&&◌, ◌||◌}
use Rattle.std.specs.List.{AllByRecursion}
use Rattle.std.specs.Option.{option_map_or}
use Rattle.std.proofs.lemmas.Bool.{and_parts, or_cases, true≢false}
use Rattle.cert_format.specs.declared.typing.Typing.{Typing}
use Rattle.cert_format.specs.declared.typing.VType.TheVariants as types
use Rattle.insn_codec.specs.declared.shape.Heap.TheVariants as heaps
use Rattle.insn_codec.specs.declared.shape.How.{How}
use Rattle.insn_codec.specs.declared.shape.How.TheVariants as hows
use Rattle.insn_codec.specs.declared.shape.Shape.TheVariants as shapes
use Rattle.insn_codec.specs.Shapes.{shape_of}
use Rattle.bytecode_model.specs.declared.program.Method.{Method}
use Rattle.bytecode_model.specs.declared.program.Program.{Program}
use Rattle.bytecode_model.specs.declared.program.Target.TheVariants as target
use Rattle.bytecode_model.specs.Assigning.{assignable}
use Rattle.bytecode_model.specs.Classes.{classes_of}
use Rattle.bytecode_model.specs.Described.{result_type}
use Rattle.bytecode_model.specs.Heads.{is_static, maker}
use Rattle.bytecode_model.specs.InsnPlace.{InsnPlace, calls_maker, class_referred, has_receiver}
use Rattle.bytecode_model.specs.SearchOrder.{Name, is_one_of, search_order}
use Rattle.bytecode_model.specs.Targets.{Calls}
use Rattle.bytecode_model.specs.Uses.{UsesAreShaped}
use Rattle.bytecode_model.specs.Wants.{to_receiver}
use Rattle.bytecode_model.proofs.Lists.{some_is}
use Rattle.type_lattice.proofs.Orders.{type_over}
use Rattle.guest_heap.specs.declared.frame.Frame.{Frame}
use Rattle.guest_heap.specs.declared.thread.Thread.{Thread}
use Rattle.guest_heap.specs.declared.value.Value.{Value}
use Rattle.guest_model.specs.declared.machine.Machine.{Machine}
use Rattle.guest_frames.specs.Values.{is_null}
use Rattle.guest_model.proofs.Options.{if_then}
use Rattle.guest_model.specs.Calling.{Calling, calls_given, enters_of, enters_on, lacked, on_receiver, waiting}
use Rattle.guest_model.specs.Changes.{Change, World, enters_method}
use Rattle.guest_model.specs.Finding.{Given, method_of_class, method_run}
use Rattle.guest_model.specs.Kinds.{class_of_value}
use Rattle.guest_model.specs.Moving.{IsReceived}
use Rattle.typed_runs.specs.Fitting.{is_of}
use Rattle.typed_runs.specs.Frames.{AreWaiting, IsReady}
use Rattle.typed_runs.specs.Machines.{CanBegin, MachineFits}
use Rattle.typed_runs.specs.Programs.{IsTypedProgram}
use Rattle.typed_runs.proofs.Above.{looked_in}
use Rattle.typed_runs.proofs.Beginning.{static_has_code}
use Rattle.typed_runs.proofs.Calling.Calls.{IfFits, call_here, entered_on, entered_static, lacked_fits, receiver_fits_of, shared, told_desc}
use Rattle.typed_runs.proofs.Found.{Runs, RunsOn, class_runs, itself_runs, same_method, same_owner}
use Rattle.typed_runs.proofs.Calling.Passed.{Passing, Received, received_by, received_object, referred_desc, referred_name, spot}
use Rattle.typed_runs.proofs.Calling.Receiver.{not_null, reaches}
use Rattle.typed_runs.proofs.Types.{class_of, type_fits_over}

module _ (program : Program) (typing : Typing) (ok : IsTypedProgram program typing) (shaped : UsesAreShaped) (machine : Machine)
    (fit : MachineFits program typing machine) (number : ℕ) (thread : Thread)
    (later : AllByRecursion (CanBegin program) thread.to_begin)
    (frame : Frame) (below : List Frame) (r : IsReady program typing machine.heap frame)
    (under : AreWaiting program typing machine.heap (result_type r.stands.method.desc) below) (how : How)
    (shape : shape_of r.stands.insn ≡ shapes.Heap (heaps.Call how)) (of index : ℕ)
    (u : Calls program r.stands.class r.stands.insn (target.Method of index)) (static : u.static ≡ not (has_receiver how))
    (p : Passing program typing ok shaped machine.heap frame r how shape (target.Method of index)) where
  abbrev GoodIf : Option Change → Type 0
  GoodIf o = IfFits program typing ok shaped machine fit number thread later frame below r under how shape (target.Method of index) p o

  abbrev call : Calling
  call = call_here program typing ok shaped machine fit number thread later frame below r under how shape (target.Method of index) p

  abbrev world : World
  world = shared program typing ok shaped machine fit number thread later frame below r under how shape (target.Method of index) p

  abbrev told : Name
  told = told_desc program typing ok shaped machine fit number thread later frame below r under how shape (target.Method of index) p

  abbrev called : Method
  called = u.declared.method

  abbrev place : InsnPlace
  place = spot program typing ok shaped machine.heap frame r how shape

  desc_called : called.desc ≡ told
  desc_called = u.declared.desc ∙ sym (referred_desc program typing ok shaped machine.heap frame r how shape (target.Method of index) u)

  -- the call is of a constructor where its method is one
  maker_called : calls_maker place ≡ bytes_eq called.name maker
  maker_called =
      ap (λ (n : Name). bytes_eq n maker) (referred_name program typing ok shaped machine.heap frame r how shape (target.Method of index) u ∙ sym u.declared.name)

  -- the class that declares it is looked in
  declaring_looked : is_one_of (search_order (classes_of program) u.told.class) u.declared.class.name ≡ true
  declaring_looked = subst (λ (n : Name). is_one_of (search_order (classes_of program) u.told.class) n ≡ true) (sym u.declared.owner) u.above

  -- ---- the receiver of a call of the very method

  receiver_reaches : (receiver : Option Value) (v : Received program typing ok shaped machine.heap frame r how shape receiver) → is_null v.value ≡ false
      → is_of program machine.heap u.declared.class.name v.value ≡ true
  receiver_reaches =
      reaches program typing ok shaped machine.heap frame r how shape (target.Method of index) u u.declared.class.name
      (looked_in program typing ok u.told.class of u.declared.class u.declared.there declaring_looked)

  -- ... which by invokespecial is of the class of the code, where it is made
  own_reaches : (receiver : Option Value) (v : Received program typing ok shaped machine.heap frame r how shape receiver) → how ≡ hows.Special → is_null v.value ≡ false
      → bytes_eq called.name maker ≡ false → is_of program machine.heap r.stands.class.name v.value ≡ true
  own_reaches receiver v special some other =
      let met : (calls_maker place || (assignable program v.type (types.Ref (class_referred place)) && assignable program v.type (types.Ref r.stands.class.name))) ≡ true =
      subst (λ (h : How). to_receiver place h v.type ≡ true) special v.met in
      elim (or_cases (calls_maker place) _ met) [
        | inl is ↦ absurd (true≢false (sym is ∙ maker_called ∙ other))
        | inr both ↦
            not_null program machine.heap v.value r.stands.class.name some
            (type_fits_over program ok.links.order machine.heap r.stands.class r.stands.method v.value v.type (types.Ref r.stands.class.name)
            (and_parts (assignable program v.type (types.Ref (class_referred place))) _ both).1 v.fits)
      ]

  -- ---- the method that runs

  -- what runs on an object of this class, of the descriptor that is told
  record Entered (class : Name) (found : Given) : Type 0 where
    name : Name
    on : RunsOn program typing ok name told class found

  reached : (class name : Name) (v : Value) → class_of_value machine.heap v ≡ Some class → is_of program machine.heap name v ≡ true
      → assignable program (types.Ref class) (types.Ref name) ≡ true
  reached class name v e h =
      let c = class_of program machine.heap name v h in
      let same : c.0 ≡ class = some_is c.0 class (sym c.1 ∙ e) in
      subst (λ (n : Name). assignable program (types.Ref n) (types.Ref name) ≡ true) same c.2

  by_class : (class : Name) (found : Given) → method_of_class program called.name called.desc class ≡ Some found → Entered class found
  by_class class found e =
      record {
        name = called.name;
        on = subst (λ (d : Name). RunsOn program typing ok called.name d class found) desc_called (class_runs program typing ok called.name called.desc class found e);
      }

  very_method : (class : Name) (found : Given) (v : Value) → (of, index) ≡ found → Runs program typing ok found → class_of_value machine.heap v ≡ Some class
      → is_of program machine.heap u.declared.class.name v ≡ true → Entered class found
  very_method class found v same x is reaches =
      let there : slice_get program.classes found.0 ≡ Some u.declared.class = subst (λ (g : Given). slice_get program.classes g.0 ≡ Some u.declared.class) same u.declared.there in
      let here : slice_get u.declared.class.methods found.1 ≡ Some called = subst (λ (g : Given). slice_get u.declared.class.methods g.1 ≡ Some called) same u.declared.here in
      let owner = same_owner program typing ok found x u.declared.class there in
      let method = same_method program typing ok found x u.declared.class called there here in
      record {
        name = x.method.name;
        on = record {
          runs = x;
          named = refl;
          described = ap (λ (m : Method). m.desc) (sym method) ∙ desc_called;
          reaches =
              subst (λ c. assignable program (types.Ref class) (types.Ref c.name) ≡ true) owner (reached class u.declared.class.name v is reaches);
        };
      }

  above_own : (class : Name) (found : Given) (v : Value) → RunsOn program typing ok called.name called.desc r.stands.class.name found
      → class_of_value machine.heap v ≡ Some class → is_of program machine.heap r.stands.class.name v ≡ true → Entered class found
  above_own class found v on is own =
      record {
        name = called.name;
        on = record {
          runs = on.runs;
          named = on.named;
          described = on.described ∙ desc_called;
          reaches = type_over program ok.links.order (types.Ref class) (types.Ref r.stands.class.name) (types.Ref on.runs.owner.name) (reached class r.stands.class.name v is own) on.reaches;
        };
      }

  -- ---- the call

  entered : (class : Name) (found : Given) (v : Value) → Entered class found → class_of_value machine.heap v ≡ Some class → p.passed.receiver ≡ Some v
      → GoodIf (enters_method program world number thread (waiting call) found p.passed.receiver p.passed.arguments)
  entered class found v e is on =
      subst (λ (o : Option Value). GoodIf (enters_method program world number thread (waiting call) found o p.passed.arguments)) (sym on)
      (entered_on program typing ok shaped machine fit number thread later frame below r under how shape (target.Method of index) p e.name told class found v
      p.passed.arguments e.on is p.told_arguments refl)

  module _ (v : Received program typing ok shaped machine.heap frame r how shape p.passed.receiver) (some : is_null v.value ≡ false) where
    run_found : (h : How) → how ≡ h → (class : Name) (found : Given) → class_of_value machine.heap v.value ≡ Some class → has_receiver h ≡ true
        → method_run program frame.class h (of, index) called class ≡ Some found → Entered class found
    run_found hows.Virtual e class found is has f = by_class class found f
    run_found hows.Interface e class found is has f = by_class class found f
    run_found hows.Special e class found is has f =
        elim (itself_runs program typing ok frame.class r.stands.class (of, index) found called r.stands.there f) [
          | inl up ↦ above_own class found v.value up.0 is (own_reaches p.passed.receiver v e some up.1)
          | inr very ↦ very_method class found v.value very.0 very.1 is (receiver_reaches p.passed.receiver v some)
        ]
    run_found hows.Static e class found is has f = absurd cc

    run_or : (h : How) → how ≡ h → (class : Name) (o : Option Given) → class_of_value machine.heap v.value ≡ Some class → has_receiver h ≡ true
        → method_run program frame.class h (of, index) called class ≡ o
        → GoodIf (option_map_or (λ (found : Given). enters_method program world number thread (waiting call) found p.passed.receiver p.passed.arguments) o
        (lacked program world call h called v.value))
    run_or h e class None is has f =
        lacked_fits program typing ok shaped machine fit number thread later frame below r under how shape (target.Method of index) p h called v.value desc_called
    run_or h e class (Some found) is has f = entered class found v.value (run_found h e class found is has f) is v.is

    on_object : (h : How) → how ≡ h → has_receiver h ≡ true → GoodIf (enters_on program world call h (of, index) called v.value)
    on_object h e has =
        if_then _ (enters_of program world call h (of, index) called v.value) (class_of_value machine.heap v.value)
        (λ class is. run_or h e class (method_run program frame.class h (of, index) called class) is has refl)

  on_received : (h : How) → how ≡ h → has_receiver h ≡ true
      → GoodIf (on_receiver program world call (enters_on program world call h (of, index) called))
  on_received h e has =
      let v = received_by program typing ok shaped machine.heap frame r how shape (target.Method of index) p (subst (λ (x : How). has_receiver x ≡ true) (sym e) has) in
      receiver_fits_of program typing ok shaped machine fit number thread later frame below r under how shape (target.Method of index) p
      (enters_on program world call h (of, index) called)
      (λ w is some.
      let same : v.value ≡ w = some_is v.value w (sym v.is ∙ is) in
      subst (λ (x : Value). GoodIf (enters_on program world call h (of, index) called x)) same
      (on_object v (subst (λ (x : Value). is_null x ≡ false) (sym same) some) h e has))

  given_by : (h : How) → how ≡ h → GoodIf (calls_given program world call h (of, index) called)
  given_by hows.Virtual e = on_received hows.Virtual e refl
  given_by hows.Interface e = on_received hows.Interface e refl
  given_by hows.Special e = on_received hows.Special e refl
  given_by hows.Static e =
      let is : is_static called.flags ≡ true = u.declared.flags ∙ static ∙ ap (λ (h : How). not (has_receiver h)) e in
      entered_static program typing ok shaped machine fit number thread later frame below r under how shape (target.Method of index) p (of, index) u.declared.class called
      u.declared.there u.declared.here is (static_has_code program typing ok of index u.declared.class called u.declared.there u.declared.here is) desc_called p.told_arguments

  -- What a call of a given method comes to fits.
  pub given_fits : GoodIf (calls_given program world call how (of, index) called)
  given_fits = given_by how refl

  -- and its receiver is there
  received_at : (h : How) → how ≡ h → IsReceived machine.heap h p.passed
  received_at hows.Static e = tt
  received_at hows.Virtual e =
      received_object program typing ok shaped machine.heap frame r how shape p.passed.receiver
      (received_by program typing ok shaped machine.heap frame r how shape (target.Method of index) p (ap has_receiver e))
  received_at hows.Special e =
      received_object program typing ok shaped machine.heap frame r how shape p.passed.receiver
      (received_by program typing ok shaped machine.heap frame r how shape (target.Method of index) p (ap has_receiver e))
  received_at hows.Interface e =
      received_object program typing ok shaped machine.heap frame r how shape p.passed.receiver
      (received_by program typing ok shaped machine.heap frame r how shape (target.Method of index) p (ap has_receiver e))

  pub given_received : IsReceived machine.heap how p.passed
  given_received = received_at how refl
