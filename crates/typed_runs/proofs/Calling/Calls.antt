-- Calls of given methods by a ready frame: what they come to fits.
use Rattle.std.proofs.Common.{◌≡◌, ℕ, ◌<◌, Bool, true, false, cond, List, [], ◌∷◌, ◌++◌, length, map, Option, Some, None, refl, sym, ap, subst, ◌∙◌, arith}
use Rattle.std.specs.Prelude.{bytes_eq, slice_get, option_and_then}
use Rattle.std.specs.List.{AllByRecursion, Contains}
use Rattle.std.specs.Option.{option_map_or, option_to_list}
use Rattle.std.proofs.lemmas.Bool.{and_parts, or_right}
use Rattle.cert_format.specs.declared.typing.Typing.{Typing}
use Rattle.cert_format.specs.declared.typing.VType.{VType}
use Rattle.cert_format.specs.declared.typing.VType.TheVariants as types
use Rattle.insn_codec.specs.declared.shape.Heap.TheVariants as heaps
use Rattle.insn_codec.specs.declared.shape.How.{How}
use Rattle.insn_codec.specs.declared.shape.How.TheVariants as hows
use Rattle.insn_codec.specs.declared.shape.Shape.TheVariants as shapes
use Rattle.insn_codec.specs.Following.{Paired}
use Rattle.insn_codec.specs.Shapes.{shape_of}
use Rattle.bytecode_model.specs.declared.program.LinkedClass.{LinkedClass}
use Rattle.bytecode_model.specs.declared.program.Method.{Method}
use Rattle.bytecode_model.specs.declared.program.Program.{Program}
use Rattle.bytecode_model.specs.declared.program.Target.{Target}
use Rattle.bytecode_model.specs.Described.{arguments, result_type, type_described, types_at}
use Rattle.bytecode_model.specs.Heads.{is_static, maker, run_name, takes_nothing}
use Rattle.bytecode_model.specs.InsnPlace.{desc_referred}
use Rattle.bytecode_model.specs.Rules.{arguments_typed}
use Rattle.bytecode_model.specs.SearchOrder.{Name}
use Rattle.bytecode_model.specs.Uses.{UsesAreShaped}
use Rattle.bytecode_model.proofs.Lists.{some_is}
use Rattle.bytecode_model.proofs.Upwards.{same_of}
use Rattle.guest_heap.specs.declared.frame.Frame.{Frame}
use Rattle.guest_heap.specs.declared.object.Monitor.{Monitor}
use Rattle.guest_heap.specs.declared.object.Object.{Object}
use Rattle.guest_heap.specs.declared.thread.Thread.{Thread}
use Rattle.guest_heap.specs.declared.value.Value.{Value}
use Rattle.guest_model.specs.declared.machine.Machine.{Machine}
use Rattle.guest_model.specs.Places.{method_at}
use Rattle.guest_frames.specs.Stepping.{after, moved_to}
use Rattle.guest_model.specs.Parts.{null_pointer, running}
use Rattle.guest_frames.specs.Values.{is_null}
use Rattle.guest_model.proofs.Options.{IfThere, if_mapped, if_none, if_some, if_then}
use Rattle.guest_model.specs.Calling.{Calling, begun_thread, call_throws, goes_past, lacked, lacking, on_receiver, run_of, runs, runs_target, target_of, waiting}
use Rattle.guest_model.specs.Changes.{Change, World, ended_thread, ends_thread, enters_method, frame_of, goes, lock_of, lock_taken, with_monitors, world_of}
use Rattle.guest_model.specs.Finding.{Given, client_run, is_run}
use Rattle.guest_model.specs.Kinds.{class_of_value, is_thread}
use Rattle.typed_runs.specs.Fitting.{fits_made, fits_type, is_of}
use Rattle.typed_runs.specs.Frames.{AreRunning, AreWaiting, IsReady, stands_at}
use Rattle.typed_runs.specs.Machines.{CanBegin, MachineFits, ThreadFits}
use Rattle.typed_runs.specs.Programs.{IsTypedProgram}
use Rattle.typed_runs.proofs.Changed.{ChangeFits, WorldFits, ended_fits, goes_fits}
use Rattle.typed_runs.proofs.Entering.{entered_runs, entry_types}
use Rattle.typed_runs.proofs.Found.{RunsOn, class_runs}
use Rattle.typed_runs.proofs.Growing.{all_waiting_grown, grows_itself}
use Rattle.typed_runs.proofs.Calling.Passed.{Arguments, Passing, arguments_fit}
use Rattle.typed_runs.proofs.Calling.Returning.{ResultFits, resumed}
use Rattle.typed_runs.proofs.Throwing.{running_left, throws_new_fits}
use Rattle.typed_runs.proofs.Thrown.{built_in_thrown, thrown_names}
use Rattle.typed_runs.proofs.Types.{of_class}

nothing_taken : arguments takes_nothing ≡ []
unfolding types_at
nothing_taken = refl

pub nothing_given : result_type takes_nothing ≡ None
nothing_given = refl

-- ---- threads that run what an object runs

module _ (program : Program) (typing : Typing) (ok : IsTypedProgram program typing) (heap : List Object) where
  receiver_fits : (class : LinkedClass) (method : Method) (v : Value) (maker : Bool) → is_of program heap class.name v ≡ true
      → fits_type program heap class method v (cond maker types.UninitThis (types.Ref class.name)) ≡ true
  receiver_fits class method v true h = h
  receiver_fits class method v false h = or_right (is_null v) _ h

  -- what a method finds that runs on this object with these arguments
  pub entry_fits : (name desc class : Name) (to : Given) (v : Value) (passed : List Value) (on : RunsOn program typing ok name desc class to)
      → class_of_value heap v ≡ Some class → Arguments program typing ok heap passed (arguments desc)
      → Paired (fits_type program heap on.runs.owner on.runs.method) (v ∷ passed) (entry_types on.runs.owner on.runs.method)
  entry_fits name desc class to v passed on is fit =
      let owner = on.runs.owner in
      let method = on.runs.method in
      let this : is_of program heap owner.name v ≡ true = of_class program heap class owner.name v is on.reaches in
      let given : Paired (fits_type program heap owner method) passed (map type_described (arguments method.desc)) =
      subst (λ (d : Name). Paired (fits_type program heap owner method) passed (map type_described (arguments d))) (sym on.described)
      (arguments_fit program typing ok heap owner method (arguments desc) passed fit) in
      let both : Paired (fits_type program heap owner method) (v ∷ passed) (cond (bytes_eq method.name maker) types.UninitThis (types.Ref owner.name) ∷ arguments_typed method) =
      (receiver_fits owner method v (bytes_eq method.name maker) this, given) in
      subst (λ (b : Bool). Paired (fits_type program heap owner method) (v ∷ passed)
      (cond b (arguments_typed method) (cond (bytes_eq method.name maker) types.UninitThis (types.Ref owner.name) ∷ arguments_typed method))) (sym on.runs.apart) both

  -- the `run` of an object
  pub record OwnRun (run : Given × Value) : Type 0 where
    pub class : Name
    pub is : class_of_value heap run.1 ≡ Some class
    pub on : RunsOn program typing ok run_name takes_nothing class run.0

  abbrev pub MayRun : Option (Given × Value) → Type 0
  MayRun None = Unit {0}
  MayRun (Some run) = OwnRun run

  run_by : (v : Value) (class : Name) (o : Option Given) → class_of_value heap v ≡ Some class → client_run program class ≡ o
      → MayRun (option_and_then (λ (to : Given). Some (to, v)) o)
  run_by v class None is e = tt
  run_by v class (Some to) is e = record { class = class; is = is; on = class_runs program typing ok run_name takes_nothing class to e }

  run_at : (v : Value) (o : Option Name) → class_of_value heap v ≡ o
      → MayRun (option_and_then (λ (class : Name). option_and_then (λ (to : Given). Some (to, v)) (client_run program class)) o)
  run_at v None e = tt
  run_at v (Some class) e = run_by v class (client_run program class) e refl

  pub may_run : (v : Value) → MayRun (run_of program heap v)
  may_run v = run_at v (class_of_value heap v) refl

  -- the thread that begins with it
  pub begun_fits : (run : Option (Given × Value)) → MayRun run → ThreadFits program typing heap (begun_thread program run)
  begun_fits None m = ended_fits program typing heap
  begun_fits (Some run) m =
      let x = m.on.runs in
      let there : method_at program run.0.0 run.0.1 ≡ Some x.method = rw (x.there, x.here) refl in
      let is : begun_thread program (Some run) ≡ running (frame_of program run.0 x.method (Some run.1) [] ∷ []) [] =
      ap (λ (o : Option Method). option_map_or (λ (method : Method). running (frame_of program run.0 method (Some run.1) [] ∷ []) []) o ended_thread) there in
      subst (ThreadFits program typing heap) (sym is)
      (record {
        frames =
            entered_runs program typing ok heap run.0 x.owner x.method x.there x.here x.code (Some run.1) []
            (entry_fits run_name takes_nothing m.class run.0 run.1 [] m.on m.is
            (subst (λ (ds : List Name). Paired (fits_made program heap) [] (map type_described ds)) (sym nothing_taken) tt)) [] tt;
        to_begin = tt;
      })

-- ---- a call

module _ (program : Program) (typing : Typing) (ok : IsTypedProgram program typing) (shaped : UsesAreShaped) (machine : Machine)
    (fit : MachineFits program typing machine) (number : ℕ) (thread : Thread) (later : AllByRecursion (CanBegin program) thread.to_begin)
    (frame : Frame) (below : List Frame) (r : IsReady program typing machine.heap frame)
    (under : AreWaiting program typing machine.heap (result_type r.stands.method.desc) below) (how : How)
    (shape : shape_of r.stands.insn ≡ shapes.Heap (heaps.Call how)) (ref : Target)
    (p : Passing program typing ok shaped machine.heap frame r how shape ref) where
  abbrev pub told_desc : Name
  told_desc = desc_referred (stands_at r.stands)

  abbrev pub call_here : Calling
  call_here = record { number = number; thread = thread; frame = frame; below = below; passed = p.passed }

  abbrev pub shared : World
  shared = world_of machine

  abbrev pub Fits : Change → Type 0
  Fits change = ChangeFits program typing machine.heap change

  abbrev pub IfFits : Option Change → Type 0
  IfFits o = IfThere Fits o

  pub monitors_fit : (held : List Monitor) → WorldFits program machine.heap (with_monitors shared held)
  monitors_fit held = record { grows = grows_itself machine.heap; objects = fit.heap; statics = fit.statics }

  pub shared_fits : WorldFits program machine.heap shared
  shared_fits = record { grows = grows_itself machine.heap; objects = fit.heap; statics = fit.statics }

  pub either_fits : (b : Bool) (o q : Option Change) → (b ≡ true → IfFits o) → (b ≡ false → IfFits q) → IfFits (cond b o q)
  either_fits true o q h k = h refl
  either_fits false o q h k = k refl

  -- the frames that wait for the result
  pub callers : (type : Option VType) → result_type told_desc ≡ type → AreWaiting program typing machine.heap type (waiting call_here)
  callers type e = (
    record {
      stands = record {
        class = r.stands.class;
        method = r.stands.method;
        insn = r.stands.insn;
        type = r.stands.type;
        there = r.stands.there;
        here = r.stands.here;
        next = r.stands.next;
        told = r.stands.told;
        size = r.stands.size;
      };
      how = how;
      calls = shape;
      gives = e;
      locals = r.locals;
      operands = p.beneath;
    },
    under,
  )

  -- The call is over at once, with such a result.
  pub past_fits : (new : World) → WorldFits program machine.heap new → (result : Option Value) → ResultFits program new.heap (result_type told_desc) result
      → IfFits (goes_past new call_here (option_to_list result))
  past_fits new fits result given =
      let g = all_waiting_grown machine.heap new.heap fits.grows program typing (result_type told_desc) (waiting call_here) (callers (result_type told_desc) refl) in
      let on = resumed program typing ok new.heap (moved_to frame frame.at frame.locals p.passed.beneath) (result_type told_desc) g.0 below g.1 result given in
      if_mapped Fits (λ (f : Frame). goes new thread (f ∷ below)) (after frame (option_to_list result ++ p.passed.beneath))
      (λ f e.
      let same : on.0 ≡ f = some_is on.0 f (sym on.1 ∙ e) in
      goes_fits program typing machine.heap new thread (f ∷ below) fits later (subst (λ (x : Frame). AreRunning program typing new.heap (x ∷ below)) same on.2))

  -- with none
  pub past_nothing : (new : World) → WorldFits program machine.heap new → result_type told_desc ≡ None → IfFits (goes_past new call_here [])
  past_nothing new fits none = past_fits new fits None (subst (λ (t : Option VType). ResultFits program new.heap t None) (sym none) tt)

  -- It throws a new object.
  pub thrown_fits : (class : Name) → Contains thrown_names class → Fits (call_throws program shared call_here class)
  thrown_fits class has =
      throws_new_fits program typing ok machine.heap shared number thread (frame ∷ below) class None tt shared_fits later
      (running_left program typing machine.heap (frame ∷ below) (r, under)) (built_in_thrown program typing ok class has)

  -- The thread ends.
  pub ends_fits : Fits (ends_thread shared number (frame ∷ below))
  ends_fits = record { world = monitors_fit _; thread = ended_fits program typing machine.heap; begins = tt; seen = tt }

  -- on a receiver that is no null
  pub receiver_fits_of : (f : Value → Option Change) → ((v : Value) → p.passed.receiver ≡ Some v → is_null v ≡ false → IfFits (f v))
      → IfFits (on_receiver program shared call_here f)
  receiver_fits_of f each =
      if_then Fits (λ (v : Value). cond (is_null v) (Some (call_throws program shared call_here null_pointer)) (f v)) p.passed.receiver
      (λ v e. either_fits (is_null v) (Some (call_throws program shared call_here null_pointer)) (f v)
      (λ null. if_some Fits _ (thrown_fits null_pointer (0, omega arith, refl))) (each v e))

  -- ---- methods that are entered

  entered_with : (to : Given) (owner : LinkedClass) (method : Method) → slice_get program.classes to.0 ≡ Some owner → slice_get owner.methods to.1 ≡ Some method
      → 0 < length method.insns → (receiver : Option Value) (passed : List Value)
      → Paired (fits_type program machine.heap owner method) (option_to_list receiver ++ passed) (entry_types owner method)
      → result_type told_desc ≡ result_type method.desc → IfFits (enters_method program shared number thread (waiting call_here) to receiver passed)
  entered_with to owner method there here code receiver passed fits gives =
      let is : method_at program to.0 to.1 ≡ Some method = rw (there, here) refl in
      let runs_on : AreRunning program typing machine.heap (frame_of program to method receiver passed ∷ waiting call_here) =
      entered_runs program typing ok machine.heap to owner method there here code receiver passed fits (waiting call_here) (callers (result_type method.desc) gives) in
      if_then Fits _ (method_at program to.0 to.1)
      (λ m e.
      let same : method ≡ m = some_is method m (sym is ∙ e) in
      if_then Fits _ (lock_taken shared.monitors number (lock_of program to.0 m receiver))
      (λ held l. if_some Fits (goes (with_monitors shared held) thread (frame_of program to m receiver passed ∷ waiting call_here))
      (goes_fits program typing machine.heap (with_monitors shared held) thread (frame_of program to m receiver passed ∷ waiting call_here) (monitors_fit held) later
      (subst (λ (x : Method). AreRunning program typing machine.heap (frame_of program to x receiver passed ∷ waiting call_here)) same runs_on))))

  -- a method that the object runs
  pub entered_on : (name desc class : Name) (to : Given) (v : Value) (passed : List Value) → RunsOn program typing ok name desc class to
      → class_of_value machine.heap v ≡ Some class → Arguments program typing ok machine.heap passed (arguments desc)
      → result_type told_desc ≡ result_type desc → IfFits (enters_method program shared number thread (waiting call_here) to (Some v) passed)
  entered_on name desc class to v passed on is given gives =
      let x = on.runs in
      entered_with to x.owner x.method x.there x.here x.code (Some v) passed
      (entry_fits program typing ok machine.heap name desc class to v passed on is given) (gives ∙ ap result_type (sym on.described))

  -- a static method
  pub entered_static : (to : Given) (owner : LinkedClass) (method : Method) → slice_get program.classes to.0 ≡ Some owner
      → slice_get owner.methods to.1 ≡ Some method → is_static method.flags ≡ true → 0 < length method.insns → method.desc ≡ told_desc
      → Arguments program typing ok machine.heap p.passed.arguments (arguments told_desc)
      → IfFits (enters_method program shared number thread (waiting call_here) to None p.passed.arguments)
  entered_static to owner method there here static code desc given =
      let passed : Paired (fits_type program machine.heap owner method) p.passed.arguments (map type_described (arguments method.desc)) =
      subst (λ (d : Name). Paired (fits_type program machine.heap owner method) p.passed.arguments (map type_described (arguments d))) (sym desc)
      (arguments_fit program typing ok machine.heap owner method (arguments told_desc) p.passed.arguments given) in
      entered_with to owner method there here code None p.passed.arguments
      (subst (λ (b : Bool). Paired (fits_type program machine.heap owner method) p.passed.arguments
      (cond b (arguments_typed method) (cond (bytes_eq method.name maker) types.UninitThis (types.Ref owner.name) ∷ arguments_typed method))) (sym static) passed)
      (ap result_type (sym desc))

  -- ---- `run`

  no_arguments : Arguments program typing ok machine.heap [] (arguments takes_nothing)
  no_arguments = subst (λ (ds : List Name). Paired (fits_made program machine.heap) [] (map type_described ds)) (sym nothing_taken) tt

  pub runs_fit : result_type told_desc ≡ None → (run : Option (Given × Value)) → MayRun program typing ok machine.heap run
      → IfFits (runs program shared call_here run)
  runs_fit none None m = past_nothing shared shared_fits none
  runs_fit none (Some run) m = entered_on run_name takes_nothing m.class run.0 run.1 [] m.on m.is no_arguments (none ∙ sym nothing_given)

  -- that of Thread
  pub target_runs : result_type told_desc ≡ None → (on : Value) → IfFits (runs_target program shared call_here on)
  target_runs none on =
      either_fits (option_map_or (is_thread program) (class_of_value machine.heap on) false) _ _
      (λ is. runs_fit none (run_of program machine.heap (target_of machine.heap on)) (may_run program typing ok machine.heap (target_of machine.heap on)))
      (λ other. past_nothing shared shared_fits none)

  -- ---- a class that lacks the method

  lacking_fits : (method : Method) (on : Value) → method.desc ≡ told_desc → IfFits (lacking program shared call_here method on)
  lacking_fits method on desc =
      either_fits (is_run method) _ _
      (λ is.
      let nothing : method.desc ≡ takes_nothing = same_of method.desc takes_nothing (and_parts (bytes_eq method.name run_name) (bytes_eq method.desc takes_nothing) is).1 in
      target_runs (ap result_type (sym desc ∙ nothing) ∙ nothing_given) on)
      (λ other. if_some Fits _ ends_fits)

  pub lacked_fits : (h : How) (method : Method) (on : Value) → method.desc ≡ told_desc → IfFits (lacked program shared call_here h method on)
  lacked_fits hows.Virtual method on desc = lacking_fits method on desc
  lacked_fits hows.Interface method on desc = lacking_fits method on desc
  lacked_fits hows.Special method on desc = if_some Fits _ ends_fits
  lacked_fits hows.Static method on desc = if_none Fits
