-- Where throwing leads: a handler's frame is ready, with the exception alone on its operands, and the frames below it wait as before.
use Rattle.std.proofs.Common.{◌≡◌, ℕ, ◌<◌, Bool, true, cond, List, [], ◌∷◌, ◌++◌, length, reverse, Option, Some, None, refl, sym, ap, subst, ◌∙◌}
use Rattle.std.specs.Prelude.{Contains, IsTrue, find, nat_lt}
use Rattle.std.specs.List.{AllByRecursion, range_with_len}
use Rattle.std.specs.Option.{option_map_or}
use Rattle.std.proofs.lemmas.Bool.{and_parts, ltb-true, or_right}
use Rattle.std.proofs.lemmas.Option.{cond_some}
use Rattle.std.proofs.lemmas.Slice.Eq.{bytes_eq-Decides}
use Rattle.api_listing.specs.BuiltIn.{throwable}
use Rattle.api_listing.specs.declared.events.Event.{Event}
use Rattle.cert_format.specs.declared.typing.Typing.{Typing}
use Rattle.cert_format.specs.declared.typing.VType.{VType}
use Rattle.cert_format.specs.declared.typing.VType.TheVariants as types
use Rattle.insn_codec.specs.Following.{Paired}
use Rattle.bytecode_model.specs.declared.program.Handler.{Handler}
use Rattle.bytecode_model.specs.declared.program.LinkedClass.{LinkedClass}
use Rattle.bytecode_model.specs.declared.program.Method.{Method}
use Rattle.bytecode_model.specs.declared.program.Program.{Program}
use Rattle.bytecode_model.specs.Classes.{is_below}
use Rattle.bytecode_model.specs.Described.{result_type}
use Rattle.bytecode_model.specs.Makes.{type_at}
use Rattle.bytecode_model.specs.Rules.{class_caught, covers, is_alone, local_caught, locals_fit}
use Rattle.bytecode_model.specs.SearchOrder.{Name}
use Rattle.guest_heap.specs.declared.frame.Frame.{Frame}
use Rattle.guest_heap.specs.declared.object.Object.{Object}
use Rattle.guest_heap.specs.declared.thread.Thread.{Thread}
use Rattle.guest_heap.specs.declared.value.Value.{Value}
use Rattle.guest_heap.specs.declared.value.Value.TheVariants as values
use Rattle.guest_model.specs.Answers.{may_throw}
use Rattle.guest_model.specs.Places.{method_at}
use Rattle.guest_frames.specs.Stepping.{moved_to}
use Rattle.guest_model.specs.Parts.{thrown_thread}
use Rattle.guest_model.specs.Throwing.{bare_object, catches, caught_in, handler_of, takes, unwound}
use Rattle.guest_frames.specs.Values.{is_null}
use Rattle.guest_model.proofs.Options.{and_then_of, find_is, some_is}
use Rattle.guest_model.specs.Changes.{World, throws, throws_new}
use Rattle.guest_model.specs.Finding.{Given}
use Rattle.typed_runs.specs.Fitting.{fits_type, is_of}
use Rattle.typed_runs.specs.Frames.{AreRunning, AreWaiting, LocalsFit, Stands}
use Rattle.typed_runs.specs.Growing.{Grows}
use Rattle.typed_runs.specs.Machines.{CanBegin, ThreadFits}
use Rattle.typed_runs.specs.Programs.{IsTypedProgram}
use Rattle.typed_runs.proofs.Above.{below_fits}
use Rattle.typed_runs.proofs.Changed.{ChangeFits, SeesNumbers, WorldFits, ended_fits}
use Rattle.typed_runs.proofs.Going.{locals_widen}
use Rattle.typed_runs.proofs.Growing.{all_waiting_grown, grows_after, grows_on, statics_grown, type_grown}
use Rattle.typed_runs.proofs.Pairs.{Widens, paired_also, places_widen, widened}
use Rattle.typed_runs.proofs.Rows.{caught_by, method_is, moved_stands}
use Rattle.typed_runs.proofs.Thrown.{IsThrown, new_is_thrown, new_thrown_fits}
use Rattle.typed_runs.proofs.Types.{fits_thrown, of_class}

-- ---- frames that are left

module _ (program : Program) (typing : Typing) where
  -- The first frame's locals fit, and those below wait for the result of its method: frames that an exception can be thrown in.
  abbrev pub AreLeft : List Object → List Frame → Type 0
  AreLeft heap [] = Unit {0}
  AreLeft heap (frame ∷ below) =
      (s : Stands program typing frame) × LocalsFit program typing heap frame s × AreWaiting program typing heap (result_type s.method.desc) below

  pub running_left : (heap : List Object) (frames : List Frame) → AreRunning program typing heap frames → AreLeft heap frames
  running_left heap [] r = tt
  running_left heap (frame ∷ below) r = (r.0.stands, r.0.locals, r.1)

  pub waiting_left : (heap : List Object) (result : Option VType) (frames : List Frame) → AreWaiting program typing heap result frames
      → AreLeft heap frames
  waiting_left heap result [] w = tt
  waiting_left heap result (frame ∷ below) w = (w.0.stands, w.0.locals, w.1)

  pub left_grown : (heap new : List Object) → Grows heap new → (frames : List Frame) → AreLeft heap frames → AreLeft new frames
  left_grown heap new grows [] l = tt
  left_grown heap new grows (frame ∷ below) l = (
    l.0,
    paired_also _ _ frame.locals _ (type_grown heap new grows program l.0.class l.0.method) l.1,
    all_waiting_grown heap new grows program typing (result_type l.0.method.desc) below l.2,
  )

  module _ (ok : IsTypedProgram program typing) where
    -- ---- what a handler finds

    caught_fits : (heap : List Object) (class : Name) (handler : Handler) (at : ℕ) (v : Value) → IsThrown program heap v class
        → catches program at class handler ≡ true → is_of program heap (class_caught handler) v ≡ true
    caught_fits heap class handler at v thrown e =
        by handler.class (and_parts (covers at handler) (takes program class handler) e).1 where
          by : (caught : Option Name) → option_map_or (λ (name : Name). is_below program class name) caught true ≡ true
              → is_of program heap (option_map_or (λ (name : Name). name) caught throwable) v ≡ true
          by None is = thrown.thrown
          by (Some name) is = of_class program heap class name v thrown.class_is (below_fits program typing ok class name is)

    alone_fits : (heap : List Object) (class : LinkedClass) (method : Method) (name : Name) (stack : List VType) (v : Value) → is_alone name stack ≡ true
        → is_of program heap name v ≡ true → Paired (fits_type program heap class method) (v ∷ []) (reverse stack)
    alone_fits heap class method name [] v e h = absurd cc
    alone_fits heap class method name (types.Ref other ∷ []) v e h =
        let same : name ≡ other = sym ((bytes_eq-Decides other name).0 e) in
        (or_right (is_null v) _ (subst (λ (n : Name). is_of program heap n v ≡ true) same h), tt)
    alone_fits heap class method name (types.Top ∷ []) v e h = absurd cc
    alone_fits heap class method name (types.Int ∷ []) v e h = absurd cc
    alone_fits heap class method name (types.Null ∷ []) v e h = absurd cc
    alone_fits heap class method name (types.UninitThis ∷ []) v e h = absurd cc
    alone_fits heap class method name (types.Uninit at ∷ []) v e h = absurd cc
    alone_fits heap class method name (t ∷ u ∷ stack) v e h = absurd cc

    covered_by : (at : ℕ) (class : Name) (handler : Handler) → catches program at class handler ≡ true → covers at handler ≡ true
    covered_by at class handler e = (and_parts (covers at handler) (takes program class handler) e).0

    module _ (heap : List Object) (v : Value) (class : Name) (thrown : IsThrown program heap v class) where
      handler_runs : (frame : Frame) (s : Stands program typing frame) (below : List Frame) (handler : Handler) → LocalsFit program typing heap frame s
          → AreWaiting program typing heap (result_type s.method.desc) below → Contains s.method.handlers handler
          → catches program frame.at class handler ≡ true → 0 < frame.stack.size
          → AreRunning program typing heap (moved_to frame handler.at frame.locals (v ∷ []) ∷ below)
      handler_runs frame s below handler locals waiting has e some =
          let of : Value → VType → Bool = fits_type program heap s.class s.method in
          let c = caught_by program typing ok frame s handler has (covered_by frame.at class handler e) in
          let a = and_parts (is_alone (class_caught handler) c.type.stack) (locals_fit program (local_caught s.type.locals) 0 c.type.locals) c.takes in
          let weaker : (j : ℕ) → Widens of (type_at s.type.locals j) (type_at c.type.locals j) =
          λ j x h. locals_widen program ok.links.order heap s.class s.method (local_caught s.type.locals) c.type.locals a.1 j x
          (fits_thrown program heap s.class s.method x (type_at s.type.locals j) h) in (
            record {
              stands = moved_stands s handler.at c.type c.insn c.told c.next frame.locals (v ∷ []);
              locals =
                  widened of frame.locals _ _ (places_widen of (type_at s.type.locals) (type_at c.type.locals) (range_with_len 0 s.method.max_locals) weaker) locals;
              operands = alone_fits heap s.class s.method (class_caught handler) c.type.stack v a.0 (caught_fits heap class handler frame.at v thrown e);
              room = some;
            },
            waiting,
          )

      caught_runs : (frame : Frame) (s : Stands program typing frame) (below : List Frame) → LocalsFit program typing heap frame s
          → AreWaiting program typing heap (result_type s.method.desc) below → (f : Frame) → caught_in program v class frame ≡ Some f
          → AreRunning program typing heap (f ∷ below)
      caught_runs frame s below locals waiting f e =
          let to : Handler → Frame = λ handler. moved_to frame handler.at frame.locals (v ∷ []) in
          let h = and_then_of (λ (handler : Handler). cond (nat_lt 0 frame.stack.size) (Some (to handler)) None) (handler_of program frame class) f e in
          let c = cond_some (nat_lt 0 frame.stack.size) (to h.0) f h.2 in
          let m = and_then_of (λ (method : Method). find (catches program frame.at class) method.handlers) (method_at program frame.class frame.method) h.0 h.1 in
          let same : m.0 ≡ s.method = some_is m.0 s.method (sym m.1 ∙ method_is program typing ok frame s) in
          let l = find_is (catches program frame.at class) s.method.handlers h.0
          (ap (λ (x : Method). find (catches program frame.at class) x.handlers) (sym same) ∙ m.2) in
          subst (λ (x : Frame). AreRunning program typing heap (x ∷ below)) c.1
          (handler_runs frame s below h.0 locals waiting l.0 l.1 (ltb-true 0 frame.stack.size c.0))

      -- ---- frame by frame

      module _ (to_begin : List Given) (later : AllByRecursion (CanBegin program) to_begin) where
        caught_or : (o : Option Frame) (below others : List Frame) → ((f : Frame) → o ≡ Some f → AreRunning program typing heap (f ∷ below))
            → ThreadFits program typing heap (thrown_thread others to_begin)
            → ThreadFits program typing heap (thrown_thread (option_map_or (λ (f : Frame). f ∷ below) o others) to_begin)
        caught_or None below others runs rest = rest
        caught_or (Some f) below others runs rest = record { frames = runs f refl; to_begin = later }

        pub unwound_fits : (frames : List Frame) → AreLeft heap frames
            → ThreadFits program typing heap (thrown_thread (unwound program v class frames) to_begin)
        unwound_fits [] l = ended_fits program typing heap
        unwound_fits (frame ∷ below) l =
            caught_or (caught_in program v class frame) below (unwound program v class below) (λ f e. caught_runs frame l.0 below l.1 l.2 f e)
            (unwound_fits below (waiting_left heap (result_type l.0.method.desc) below l.2))

    -- ---- changes

    pub throws_fits : (heap : List Object) (world : World) (number : ℕ) (thread : Thread) (frames : List Frame) (v : Value) (class : Name) (event : Option Event)
        → SeesNumbers program event → WorldFits program heap world → AllByRecursion (CanBegin program) thread.to_begin → AreLeft world.heap frames
        → IsThrown program world.heap v class → ChangeFits program typing heap (throws program world number thread frames v class event)
    throws_fits heap world number thread frames v class event seen fits later left thrown = record {
      world = record { grows = fits.grows; objects = fits.objects; statics = fits.statics };
      thread = unwound_fits world.heap v class thrown thread.to_begin later frames left;
      begins = tt;
      seen = seen;
    }

    -- a new object of a class that may be thrown
    pub throws_new_fits : (heap : List Object) (world : World) (number : ℕ) (thread : Thread) (frames : List Frame) (class : Name) (event : Option Event)
        → SeesNumbers program event → WorldFits program heap world → AllByRecursion (CanBegin program) thread.to_begin → AreLeft world.heap frames
        → IsTrue (may_throw program class) → ChangeFits program typing heap (throws_new program world number thread frames class event)
    throws_new_fits heap world number thread frames class event seen fits later left may =
        let new = world.heap ++ bare_object class ∷ [] in
        let grows = grows_after world.heap (bare_object class ∷ []) in
        throws_fits heap _ number thread frames (values.Ref (length world.heap)) class event seen
        (record {
          grows = grows_on heap world.heap new fits.grows grows;
          objects = new_thrown_fits program typing ok world.heap class fits.objects may;
          statics = statics_grown world.heap new grows program world.statics fits.statics;
        })
        later (left_grown world.heap new grows frames left) (new_is_thrown program typing ok world.heap class may)
