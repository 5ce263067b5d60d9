-- Each step that the machine makes is enabled by the rules alone.
use Rattle.std.proofs.Common.{◌≡◌, ℕ, Bool, true, false, cond, List, [], ◌∷◌, Option, Some, None, refl, sym, subst, ap, ◌∙◌}
use Rattle.std.specs.Prelude.{◌==◌, ◌&&◌, not, nat_le, find, length, is_some, slice_get, option_map, option_and_then}
use Rattle.std.specs.Option.{option_map_or}
use Rattle.std.proofs.lemmas.Option.{cond_some}
use Rattle.insn_codec.specs.declared.shape.Heap.{Heap}
use Rattle.insn_codec.specs.declared.shape.Heap.TheVariants as heap
use Rattle.insn_codec.specs.declared.shape.How.{How}
use Rattle.insn_codec.specs.declared.shape.How.TheVariants as hows
use Rattle.insn_codec.specs.Shapes.{shape_of}
use Rattle.bytecode_model.specs.declared.program.Method.{Method}
use Rattle.bytecode_model.specs.declared.program.Program.{Program}
use Rattle.bytecode_model.specs.declared.program.Target.{Target}
use Rattle.bytecode_model.specs.declared.program.Target.TheVariants as target
use Rattle.bytecode_model.specs.SearchOrder.{Name}
use Rattle.guest_heap.specs.declared.frame.Frame.{Frame}
use Rattle.guest_heap.specs.declared.object.Monitor.{Monitor}
use Rattle.guest_heap.specs.declared.thread.Doing.{Doing}
use Rattle.guest_heap.specs.declared.thread.Doing.TheVariants as doings
use Rattle.guest_heap.specs.declared.thread.Thread.{Thread}
use Rattle.guest_heap.specs.declared.value.Value.{Value}
use Rattle.guest_heap.specs.declared.value.Value.TheVariants as values
use Rattle.guest_model.specs.declared.machine.Choice.{Choice}
use Rattle.guest_model.specs.declared.machine.Choice.TheVariants as choices
use Rattle.guest_model.specs.declared.machine.Machine.{Machine}
use Rattle.guest_model.specs.Calls.{Taken, arity, taken, types_of}
use Rattle.guest_model.specs.Monitors.{entered, held_once_more}
use Rattle.guest_model.specs.Places.{insn_at, method_at}
use Rattle.guest_frames.specs.Values.{are_one, is_null}
use Rattle.guest_model.proofs.Options.{and_then_of, map_of}
use Rattle.guest_model.specs.declared.builtin.Builtin.{Builtin}
use Rattle.guest_model.specs.declared.builtin.Builtin.TheVariants as builtins
use Rattle.guest_model.specs.Answering.{answer_fits, answered}
use Rattle.guest_model.specs.Builtins.{builtin_at}
use Rattle.guest_model.specs.Calling.{
  Calling,
  built_in,
  calls,
  calls_given,
  calls_named,
  desc_named,
  enters_of,
  enters_on,
  has_ended,
  is_static_call,
  joined,
  joins,
  on_receiver,
  thread_of_value,
  waiting,
}
use Rattle.guest_model.specs.Changes.{Change, World, enters_method, lock_of, lock_taken, world_of}
use Rattle.guest_model.specs.Enabled.{
  MayAnswer,
  MayGoOn,
  MayStep,
  StepsAreEnabled,
  call_waits,
  heap_waits,
  is_held_by_other,
  lock_of_call,
  lock_on,
  lock_wanted,
  passed_by,
  thread_awaited,
  waits,
  waits_for_monitor,
  waits_for_thread,
}
use Rattle.guest_model.specs.Finding.{Given, method_run}
use Rattle.guest_model.specs.Kinds.{class_of_value}
use Rattle.guest_model.specs.Stepping.{
  Acting,
  call_stepped,
  doing_stepped,
  enters,
  frames_stepped,
  heap_in,
  heap_stepped,
  is_on_null,
  running_stepped,
}
use Rattle.guest_model.proofs.There.{if_of, unless_of}

-- ---- monitors

free_or : (b : Bool) (p : Monitor → Bool) (number : ℕ) (m : Monitor) (others more held : List Monitor) (later : Option (List Monitor))
    → cond b (cond (m.owner == number) (Some more) None) (option_map (λ rest. m ∷ rest) later) ≡ Some held
    → ((rest : List Monitor) → later ≡ Some rest → option_map_or (λ (m : Monitor). not (m.owner == number)) (find p others) false ≡ false)
    → option_map_or (λ (m : Monitor). not (m.owner == number)) (cond b (Some m) (find p others)) false ≡ false
free_or true p number m others more held later e rest = ap not (cond_some (m.owner == number) more held e).0
free_or false p number m others more held later e rest = let l = map_of _ later held e in rest l.0 l.1

-- A monitor that is entered is held by no other thread.
pub entered_free : (monitors : List Monitor) (number : ℕ) (on : Value) (held : List Monitor) → entered monitors number on ≡ Some held
    → is_held_by_other monitors number on ≡ false
entered_free [] number on held e = refl
entered_free (m ∷ others) number on held e =
    free_or (are_one m.on on) (λ (m : Monitor). are_one m.on on) number m others (held_once_more m ∷ others) held
    (entered others number on) e
    (λ rest r. entered_free others number on rest r)

lock_free : (monitors held : List Monitor) (number : ℕ) (lock : Option Value) → lock_taken monitors number lock ≡ Some held
    → option_map_or (is_held_by_other monitors number) lock false ≡ false
lock_free monitors held number None e = refl
lock_free monitors held number (Some on) e = entered_free monitors number on held e

module _ (program : Program) where
  -- a method that is called takes no lock that another thread holds
  method_free : (world : World) (number : ℕ) (thread : Thread) (frames : List Frame)
      → (to : Given) (receiver : Option Value) (arguments : List Value) (change : Change)
      → enters_method program world number thread frames to receiver arguments ≡ Some change
      → option_map_or (is_held_by_other world.monitors number) (lock_wanted program to receiver) false ≡ false
  method_free world number thread frames to receiver arguments change e =
      let m = and_then_of _ (method_at program to.0 to.1) change e in
      let h = and_then_of _ (lock_taken world.monitors number (lock_of program to.0 m.0 receiver)) change m.2 in
      rw m.1 (lock_free world.monitors h.0 number (lock_of program to.0 m.0 receiver) h.1)

  module _ (machine : Machine) where
    -- ---- calls of given methods

    found_free : (c : Calling) (how : How) (method : Method) (on : Value) (lacked : Option Change) (found : Option Given) (change : Change)
        → option_map_or
        (λ (f : Given). enters_method program (world_of machine) c.number c.thread (waiting c) f c.passed.receiver c.passed.arguments)
        found lacked
        ≡ Some change
        → c.passed.receiver ≡ Some on
        → waits_for_monitor machine c.number (option_and_then (λ (f : Given). lock_wanted program f (Some on)) found) ≡ false
    found_free c how method on lacked None change e r = refl
    found_free c how method on lacked (Some f) change e r =
        subst (λ (receiver : Option Value). waits_for_monitor machine c.number (lock_wanted program f receiver) ≡ false) r
        (method_free (world_of machine) c.number c.thread (waiting c) f c.passed.receiver c.passed.arguments change e)

    on_free : (b : Bool) (c : Calling) (how : How) (to : Given) (method : Method) (on : Value) (thrown : Option Change) (change : Change)
        → cond b thrown (enters_on program (world_of machine) c how to method on) ≡ Some change → c.passed.receiver ≡ Some on
        → waits_for_monitor machine c.number (cond b None (lock_on program machine.heap c.frame.class how to method on)) ≡ false
    on_free true c how to method on thrown change e r = refl
    on_free false c how to method on thrown change e r =
        let k = and_then_of (enters_of program (world_of machine) c how to method on) (class_of_value machine.heap on) change e in
        rw k.1 (found_free c how method on _ (method_run program c.frame.class how to method k.0) change k.2 r)

    instance_free : (c : Calling) (how : How) (to : Given) (method : Method) (change : Change)
        → on_receiver program (world_of machine) c (enters_on program (world_of machine) c how to method) ≡ Some change
        → waits_for_monitor machine c.number (lock_of_call program machine.heap c.frame.class how to method c.passed.receiver) ≡ false
    instance_free c how to method change e =
        let r = and_then_of _ c.passed.receiver change e in
        rw r.1 (on_free (is_null r.0) c how to method r.0 _ change r.2 r.1)

    static_free : (c : Calling) (to : Given) (method : Method) (change : Change) → c.passed.receiver ≡ None
        → enters_method program (world_of machine) c.number c.thread (waiting c) to None c.passed.arguments ≡ Some change
        → waits_for_monitor machine c.number (lock_of_call program machine.heap c.frame.class hows.Static to method c.passed.receiver)
        ≡ false
    static_free c to method change r e =
        rw r (method_free (world_of machine) c.number c.thread (waiting c) to None c.passed.arguments change e)

    -- a static call has no receiver
    abbrev pub IsOf : How → Calling → Type 0
    IsOf hows.Static c = c.passed.receiver ≡ None
    IsOf hows.Virtual c = Unit {0}
    IsOf hows.Special c = Unit {0}
    IsOf hows.Interface c = Unit {0}

    given_free : (c : Calling) (how : How) (to : Given) (method : Method) (change : Change) → IsOf how c
        → calls_given program (world_of machine) c how to method ≡ Some change
        → waits_for_monitor machine c.number (lock_of_call program machine.heap c.frame.class how to method c.passed.receiver) ≡ false
    given_free c hows.Static to method change r e = static_free c to method change r e
    given_free c hows.Virtual to method change r e = instance_free c hows.Virtual to method change e
    given_free c hows.Special to method change r e = instance_free c hows.Special to method change e
    given_free c hows.Interface to method change r e = instance_free c hows.Interface to method change e

    -- ---- waiting for a thread

    ended_or : (b : Bool) (o : Option Change) (change : Change) → cond b o None ≡ Some change → not b ≡ false
    ended_or b o change e = ap not (if_of b o change e).0

    ended_free : (c : Calling) (awaited : Option ℕ) (change : Change) → joined machine c awaited ≡ Some change
        → waits_for_thread machine awaited ≡ false
    ended_free c None change e = refl
    ended_free c (Some n) change e = ended_or (has_ended machine n) _ change e

    awaited_free : (c : Calling) (on : Value) (thrown : Option Change) (change : Change)
        → cond (is_null on) thrown (joins machine c on) ≡ Some change
        → waits_for_thread machine (option_and_then (λ (number : Option ℕ). number) (thread_of_value machine.heap on)) ≡ false
    awaited_free c (values.Int n) thrown change e = refl
    awaited_free c values.Null thrown change e = refl
    awaited_free c (values.Ref at) thrown change e =
        let k = and_then_of (joined machine c) (thread_of_value machine.heap (values.Ref at)) change e in
        ap (λ (o : Option (Option ℕ)). waits_for_thread machine (option_and_then (λ (number : Option ℕ). number) o)) k.1
        ∙ ended_free c k.0 change k.2
    awaited_free c (values.Class index) thrown change e = refl
    awaited_free c (values.Lit index) thrown change e = refl

    builtin_free : (c : Calling) (how : How) (what : Builtin) (change : Change) → built_in program machine c how what ≡ Some change
        → waits_for_thread machine (thread_awaited machine.heap what c.passed.receiver) ≡ false
    builtin_free c how builtins.Join change e =
        let r = and_then_of _ c.passed.receiver change e in
        rw r.1 (awaited_free c r.0 _ change r.2)
    builtin_free c how builtins.Make change e = refl
    builtin_free c how builtins.MakeOn change e = refl
    builtin_free c how builtins.Start change e = refl
    builtin_free c how builtins.Run change e = refl
    builtin_free c how builtins.Exit change e = refl
    builtin_free c how builtins.Length change e = refl

    -- ---- calls

    call_free : (c : Calling) (how : How) (ref : Target) (change : Change) → IsOf how c
        → calls_named program machine c how ref ≡ Some change
        → call_waits program machine c.number c.frame.class how ref c.passed ≡ false
    call_free c how (target.Method class method) change of e =
        let m = and_then_of _ (method_at program class method) change e in
        rw m.1 (given_free c how (class, method) m.0 change of m.2)
    call_free c how (target.Builtin index) change of e =
        let b = and_then_of _ (builtin_at index) change e in
        rw b.1 (builtin_free c how b.0 change b.2)
    call_free c how (target.ApiMethod index) change of e = refl
    call_free c how target.None change of e = refl
    call_free c how (target.Field class field) change of e = refl
    call_free c how (target.ApiField index) change of e = refl
    call_free c how (target.ClassName name) change of e = refl
    call_free c how (target.Number n) change of e = refl
    call_free c how (target.Literal index) change of e = refl

    pub receiver_of : (how : How) (n : ℕ) (c : Calling) (stack : List Value) → taken (is_static_call how) n stack ≡ Some c.passed
        → IsOf how c
    receiver_of hows.Static n c stack e = ap (λ (t : Taken). t.receiver) (sym (cond_some (nat_le n (length stack)) _ c.passed e).1)
    receiver_of hows.Virtual n c stack e = tt
    receiver_of hows.Special n c stack e = tt
    receiver_of hows.Interface n c stack e = tt

    calls_free : (number : ℕ) (thread : Thread) (frame : Frame) (below : List Frame) (how : How) (ref : Target) (change : Change)
        → calls program machine number thread frame below how ref ≡ Some change
        → option_map_or (call_waits program machine number frame.class how ref) (passed_by program frame how ref) false ≡ false
    calls_free number thread frame below how ref change e =
        let d = and_then_of _ (desc_named program ref) change e in
        let p = and_then_of _ (taken (is_static_call how) (arity d.0) frame.stack.items) change d.2 in
        let passed : passed_by program frame how ref ≡ Some p.0 =
        ap (option_and_then (λ (desc : Name). taken (is_static_call how) (arity desc) frame.stack.items)) d.1 ∙ p.1 in
        let c : Calling = record { number = number; thread = thread; frame = frame; below = below; passed = p.0 } in
        rw passed (call_free c how ref change (receiver_of how (arity d.0) c frame.stack.items p.1) p.2)

    -- ---- instructions

    enter_or : (b : Bool) (number : ℕ) (on : Value) (f : List Monitor → Option Change) (thrown : Option Change) (change : Change)
        → cond b thrown (option_and_then f (entered machine.monitors number on)) ≡ Some change
        → (not b && is_held_by_other machine.monitors number on) ≡ false
    enter_or true number on f thrown change e = refl
    enter_or false number on f thrown change e =
        let h = and_then_of f (entered machine.monitors number on) change e in
        entered_free machine.monitors number on h.0 h.1

    enter_free : (a : Acting) (change : Change)
        → option_and_then (enters program (world_of machine) a) (slice_get a.frame.stack.items 0) ≡ Some change
        → option_map_or (λ (on : Value). not (is_null on) && is_held_by_other machine.monitors a.number on)
        (slice_get a.frame.stack.items 0) false
        ≡ false
    enter_free a change e =
        let v = and_then_of (enters program (world_of machine) a) (slice_get a.frame.stack.items 0) change e in
        rw v.1 (enter_or (is_null v.0) a.number v.0 _ _ change v.2)

    heap_free : (a : Acting) (what : Heap) (ref : Target) (change : Change) → heap_stepped program machine a what ref ≡ Some change
        → heap_waits program machine a.number a.frame what ref ≡ false
    heap_free a (heap.Call how) ref change e = calls_free a.number a.thread a.frame a.below how ref change e
    heap_free a heap.Enter ref change e = enter_free a change e
    heap_free a heap.Exit ref change e = refl
    heap_free a heap.Throw ref change e = refl
    heap_free a (heap.Return kind) ref change e = refl
    heap_free a heap.Constant ref change e = refl
    heap_free a (heap.ReadItem item) ref change e = refl
    heap_free a (heap.WriteItem item) ref change e = refl
    heap_free a (heap.Divide remainder) ref change e = refl
    heap_free a heap.ReadStatic ref change e = refl
    heap_free a heap.WriteStatic ref change e = refl
    heap_free a heap.ReadField ref change e = refl
    heap_free a heap.WriteField ref change e = refl
    heap_free a heap.New ref change e = refl
    heap_free a (heap.NewArray kind) ref change e = refl
    heap_free a heap.NewArrayOf ref change e = refl
    heap_free a heap.Length ref change e = refl
    heap_free a heap.Cast ref change e = refl
    heap_free a heap.IsInstance ref change e = refl

    shape_free : (a : Acting) (ref : Target) (what : Option Heap) (other : Option Change) (change : Change)
        → option_map_or (λ (what : Heap). heap_stepped program machine a what ref) what other ≡ Some change
        → option_map_or (λ (what : Heap). heap_waits program machine a.number a.frame what ref) what false ≡ false
    shape_free a ref None other change e = refl
    shape_free a ref (Some what) other change e = heap_free a what ref change e

    frames_free : (number : ℕ) (thread : Thread) (frames : List Frame) (change : Change)
        → frames_stepped program machine number thread frames ≡ Some change
        → waits program machine number frames ≡ false
    frames_free number thread [] change e = refl
    frames_free number thread (frame ∷ below) change e =
        let n = and_then_of _ (insn_at program frame) change e in
        let a : Acting = record { number = number; thread = thread; frame = frame; below = below } in
        rw n.1 (shape_free a n.0.1 (heap_in (shape_of n.0.0)) _ change n.2)

    -- ---- threads

    may_go_on : (number : ℕ) (thread : Thread) (choice : Choice) (change : Change)
        → running_stepped program machine number thread choice ≡ Some change
        → MayGoOn program machine number thread.frames choice
    may_go_on number thread choices.Plain change e = frames_free number thread thread.frames change e
    may_go_on number thread (choices.Answer answer) change e = absurd cc

    may_answer : (number : ℕ) (thread : Thread) (method : ℕ) (receiver : Option Value) (arguments : List Value)
        → (choice : Choice) (change : Change)
        → call_stepped program (world_of machine) number thread method receiver arguments choice ≡ Some change
        → MayAnswer program machine method receiver arguments choice
    may_answer number thread method receiver arguments choices.Plain change e = (if_of (is_on_null receiver) _ change e).0
    may_answer number thread method receiver arguments (choices.Answer answer) change e =
        let u = unless_of (is_on_null receiver)
        (answered program (world_of machine) number thread method receiver arguments answer) change e in
        let l = and_then_of _ (slice_get program.listing.methods method) change u.1 in
        (u.0, rw l.1 (if_of (answer_fits program machine.heap (types_of l.0.id.desc).result receiver arguments answer) _ change l.2).0)

    may_step : (number : ℕ) (thread : Thread) (doing : Doing) (choice : Choice) (change : Change)
        → doing_stepped program machine number thread doing choice ≡ Some change
        → MayStep program machine number thread.frames doing choice
    may_step number thread doings.Running choice change e = may_go_on number thread choice change e
    may_step number thread (doings.InCall method receiver arguments) choice change e =
        may_answer number thread method receiver arguments choice change e
    may_step number thread doings.Ended choice change e = absurd cc

stands_still : {A : Type 0} (stop : Option A) → is_some stop ≡ false → stop ≡ None
stands_still None e = refl
stands_still (Some n) e = absurd cc

pub steps_enabled : StepsAreEnabled
steps_enabled program machine step change e =
    let u = unless_of (is_some machine.stopped) _ change e in
    let t = and_then_of _ (slice_get machine.threads step.thread) change u.1 in
    record {
      runs = stands_still machine.stopped u.0;
      thread = t.0;
      there = t.1;
      may = may_step program machine step.thread t.0 t.0.doing step.choice change t.2;
    }
